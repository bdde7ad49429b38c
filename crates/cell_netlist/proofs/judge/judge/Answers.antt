use Rattle.cell_netlist.specs.Code.Tabled.{view_of}
use Rattle.cell_netlist.proofs.Judged.{judged_more}
use Rattle.cell_netlist.proofs.judge.judge.Goals as goal

pub returns-clause-next : goal.returns-clause-next
returns-clause-next c is =
    judged_more (view_of c.args.tabled.now) c.args.j c.args.def.now _ _ _
    c.args.taken.now _ c.requires.here c.requires.judged c.in-Ok.ensures.ok
    (c.add_cell-added.ensures.added c.if-not-added.false) (rw c.as_slice.ensures at c.take_inputs.ensures)
