use Rattle.rule_check.proofs.Closeness.{too_close}
use Rattle.rule_check.proofs.spacing.TooClosePairTest.reach.Goals as goal

pub returns-clause-close : goal.returns-clause-close
returns-clause-close c = λ a b p q h. too_close c.args.self.now.space a b h
