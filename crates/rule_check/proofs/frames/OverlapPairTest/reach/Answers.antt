use Rattle.rule_check.proofs.Closeness.{overlap_close}
use Rattle.rule_check.proofs.frames.OverlapPairTest.reach.Goals as goal

pub returns-clause-close : goal.returns-clause-close
returns-clause-close c = λ a b p q h. overlap_close a b h
