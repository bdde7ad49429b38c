use Rattle.shape_extract.proofs.InPlanes.{met_line}
use Rattle.shape_extract.proofs.LineContacts.{contacts_from}
use Rattle.shape_extract.proofs.lines.contacts.list_contacts.Goals as goal

pub returns : goal.returns
returns c = rw c.remove_number.ensures (contacts_from _ _ _ c.in_ok-list_line_partners.ensures)

pub list_line_partners-requires-clause-planar : goal.list_line_partners-requires-clause-planar
list_line_partners-requires-clause-planar c = λ s t h. met_line s t h
