use Rattle.cell_netlist.proofs.Judged.{gate_below}
use Rattle.cell_netlist.proofs.judge.checked.Goals as goal

pub gate_at-requires : goal.gate_at-requires
gate_at-requires c = gate_below c.args.tabled.now.net.now _ _ _ c.args.j c.args.def.now c.requires.table c.requires.here
