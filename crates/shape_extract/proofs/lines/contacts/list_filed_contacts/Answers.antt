use Rattle.shape_extract.proofs.InPlanes.{met_line}
use Rattle.shape_extract.proofs.LineContacts.{contacts_from}
use Rattle.shape_extract.proofs.lines.contacts.list_filed_contacts.Goals as goal

pub returns : goal.returns
returns c = rw c.remove_number.ensures (contacts_from _ _ _ c.in_ok-list_filed_partners.ensures)

pub list_filed_partners-requires-clause-planar : goal.list_filed_partners-requires-clause-planar
list_filed_partners-requires-clause-planar c = λ s t h. met_line s t h
