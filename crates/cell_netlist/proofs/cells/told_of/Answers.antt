use Rattle.cell_netlist.proofs.Ended.{def_told}
use Rattle.cell_netlist.proofs.cells.told_of.Goals as goal

pub returns : goal.returns
returns c = def_told _ _ _ c.requires
