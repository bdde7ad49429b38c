use Rattle.std.proofs.Common.{◌∙◌, sym}
use Rattle.cell_netlist.proofs.Valued.{is_one, is_zero}
use Rattle.cell_netlist.proofs.covers.constant.Goals as goal

pub returns-then-value : goal.returns-then-value
returns-then-value c = is_one c.args.def.now c.requires (sym c.cover_at-value.ensures ∙ c.if-value.true)

pub returns-else-value : goal.returns-else-value
returns-else-value c = is_zero c.args.def.now c.requires (sym c.cover_at-value.ensures ∙ c.if-value.false)
