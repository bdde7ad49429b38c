-- A netlist beside its table, as the code has both.
use Rattle.cell_netlist.specs.declared.cells.CellLevels.{CellLevels}
use Rattle.cell_netlist.specs.declared.tabled_net.TabledNet.{TabledNet}
use Rattle.cell_netlist.specs.Faults.{IsCellNet}
use Rattle.cell_netlist.specs.Levels.{level_in}
use Rattle.cell_netlist.specs.Tables.{IsTableOf}
use Rattle.cell_netlist.specs.Uses.{CellView, with_gates}

-- the netlist with the gates of its table, as specifications see it
abbrev pub view_of : TabledNet → CellView
view_of tabled = with_gates tabled.net.now tabled.table.now.gates.items tabled.three

-- the table is that of the netlist
abbrev pub IsTabled : TabledNet → Type 0
IsTabled tabled =
    IsTableOf tabled.net.now tabled.table.now.gates.items tabled.table.now.used.items tabled.table.now.shown.items

-- it is one of cells, and these are their levels
abbrev pub AreLevelsOf : TabledNet → CellLevels → Type 0
AreLevelsOf tabled told = IsCellNet (view_of tabled) (level_in tabled.net.now.inputs told.levels) told.last
