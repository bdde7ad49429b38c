use Rattle.cell_netlist.proofs.Gated.{gates_pushed}
use Rattle.cell_netlist.proofs.covers.gates_of.Goals as goal

pub loop-def-preserved : goal.loop-def-preserved
loop-def-preserved c =
    rw c.in_ok-push.ensures.items
    (gates_pushed c.args.defs.now c.loop-def.gates.items c.loop-def.def-index c.def-item.result c.gate_of.result
    c.loop-def.invariant c.def-item.is c.loop-def-test.true c.gate_of.ensures)
