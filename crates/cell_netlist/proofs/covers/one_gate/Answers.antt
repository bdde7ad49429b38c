use Rattle.std.proofs.Common.{◌∙◌, sym}
use Rattle.cell_netlist.proofs.Valued.{is_buffer, is_inverter, one_none}
use Rattle.cell_netlist.proofs.covers.one_gate.Goals as goal

pub returns-then-high : goal.returns-then-high
returns-then-high c =
    one_none c.args.def.now c.args.x c.requires
    (sym c.cover_at-low.ensures ∙ c.if-low.true ∙ sym c.if-high.true ∙ c.cover_at-high.ensures)

pub returns-else-high : goal.returns-else-high
returns-else-high c =
    is_inverter c.args.def.now c.args.x c.requires (sym c.cover_at-low.ensures ∙ c.if-low.true)
    (sym c.cover_at-high.ensures ∙ c.if-high.false)

pub returns-then-high-2 : goal.returns-then-high-2
returns-then-high-2 c =
    is_buffer c.args.def.now c.args.x c.requires (sym c.cover_at-low.ensures ∙ c.if-low.false)
    (sym c.cover_at-high.ensures ∙ c.if-high-2.true)

pub returns-else-high-2 : goal.returns-else-high-2
returns-else-high-2 c =
    one_none c.args.def.now c.args.x c.requires
    (sym c.cover_at-low.ensures ∙ c.if-low.false ∙ sym c.if-high-2.false ∙ c.cover_at-high.ensures)
