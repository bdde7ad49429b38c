use Rattle.std.proofs.Common.{◌∙◌}
use Rattle.cell_netlist.specs.Code.Tabled.{view_of}
use Rattle.cell_netlist.proofs.Judged.{shares_is, fine_then, fine_else}
use Rattle.cell_netlist.proofs.judge.is_used_well.Goals as goal

pub returns-then-used : goal.returns-then-used
returns-then-used c =
    fine_then (view_of c.args.tabled.now) c.args.j c.args.def.now c.args.gate _ _
    (rw c.input_count.ensures.count at c.is_used-used.ensures)
    ((rw c.as_slice.ensures at c.shares-shared.ensures)
    ∙ shares_is (view_of c.args.tabled.now) c.args.taken.now c.args.def.now.inputs _ c.requires.taken)
    c.if-used.true

pub returns-else-used : goal.returns-else-used
returns-else-used c =
    fine_else (view_of c.args.tabled.now) c.args.j c.args.def.now c.args.gate _
    (rw c.input_count.ensures.count at c.is_used-used.ensures) c.if-used.false
