use Rattle.cell_netlist.specs.Code.Tabled.{view_of}
use Rattle.cell_netlist.proofs.Shown.{used_more}
use Rattle.cell_netlist.proofs.outputs.are_used.Goals as goal

pub loop-input-preserved : goal.loop-input-preserved
loop-input-preserved c =
    used_more (view_of c.args.tabled.now) c.loop-input.input _
    c.loop-input.invariant c.uses_of-uses.ensures c.if-uses-eq0.false
