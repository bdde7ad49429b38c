use Rattle.shape_extract.proofs.Sharing.{frame_close}
use Rattle.shape_extract.proofs.tables.pins_in_frames.HoldsPinPairTest.reach.Goals as goal

pub returns-clause-close : goal.returns-clause-close
returns-clause-close c = λ a b p q h. frame_close a b q h
