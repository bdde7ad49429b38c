use Rattle.std.proofs.Common.{sym, ◌∙◌}
use Rattle.blif_flat.proofs.Numbering.{added_number, none_of}
use Rattle.blif_flat.proofs.models.numbers.add.Goals as goal

pub returns : goal.returns
returns c = added_number c.args.numbers.now.entries c.insert.new.self.entries c.args.name c.args.number
    (sym c.number_of.ensures ∙ none_of c.number_of.result (sym c.is_some.ensures ∙ c.if-is_some.false))
    (c.in_ok-insert.ensures.updates.0)
