use Rattle.shape_extract.proofs.Sharing.{meet_close}
use Rattle.shape_extract.proofs.lines.contacts.MeetPairTest.reach.Goals as goal

pub returns-clause-close : goal.returns-clause-close
returns-clause-close c = λ a b p q h. meet_close a b h
