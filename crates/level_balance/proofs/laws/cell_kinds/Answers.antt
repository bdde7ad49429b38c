use Rattle.level_balance.proofs.KindCounts.{inverter_cells, majority_cells}
use Rattle.level_balance.proofs.ConstantCells.{zero_cells, one_cells}
use Rattle.level_balance.proofs.laws.cell_kinds.Goals as goal

pub returns : goal.returns
returns c = record { inverters = inverter_cells; majorities = majority_cells; zeros = zero_cells; ones = one_cells }
