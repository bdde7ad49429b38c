use Rattle.rule_check.proofs.Closeness.{encloses_close}
use Rattle.rule_check.proofs.enclosure.EnclosesPairTest.reach.Goals as goal

pub returns-clause-close : goal.returns-clause-close
returns-clause-close c = λ a b p q h. encloses_close c.args.self.now.layer c.args.self.now.margin a b p h
