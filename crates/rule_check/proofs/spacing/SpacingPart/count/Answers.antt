use Rattle.std.proofs.lemmas.Option.{slice_get_within}
use Rattle.rule_check.proofs.spacing.SpacingPart.count.Goals as goal

pub returns-clause-within : goal.returns-clause-within
returns-clause-within c = λ a b h. slice_get_within c.args.self.now.kinds.now a h.1.first h.1.first_is
