use Rattle.shape_extract.proofs.Sharing.{pin_close}
use Rattle.shape_extract.proofs.tables.pins_in_frames.PinInFramePairTest.reach.Goals as goal

pub returns-clause-close : goal.returns-clause-close
returns-clause-close c = λ a b p q h. pin_close a b p h
