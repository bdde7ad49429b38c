use Rattle.std.proofs.lemmas.Option.{slice_get_within}
use Rattle.shape_extract.proofs.rules.row_rule.WiresPart.count.Goals as goal

pub returns-clause-within : goal.returns-clause-within
returns-clause-within c = λ a b h. slice_get_within c.args.self.now.flat.now.shapes a h.input.pin h.input.pin_is
