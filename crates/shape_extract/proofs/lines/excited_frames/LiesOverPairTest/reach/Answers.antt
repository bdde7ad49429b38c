use Rattle.shape_extract.proofs.Sharing.{over_close}
use Rattle.shape_extract.proofs.lines.excited_frames.LiesOverPairTest.reach.Goals as goal

pub returns-clause-close : goal.returns-clause-close
returns-clause-close c = λ a b p q h. over_close a b h
