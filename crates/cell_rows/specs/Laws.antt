-- What the rows of a netlist of cells keep.
use Rattle.std.specs.Prelude.{◌≡◌, ℕ, Bool, List, length, Option}
use Rattle.circuit.specs.declared.gate.Gate.{Gate}
use Rattle.circuit.specs.SameAnswers.{SameAnswers}
use Rattle.blif_read.specs.Parts.{NetView}
use Rattle.blif_read.specs.Netlist.{IsNetlist}
use Rattle.blif_read.specs.Equations.{IsAnswer as IsNetlistAnswer}
use Rattle.rowed.specs.RowNets.{RowView, IsRowNet, IsAnswer}
use Rattle.cell_netlist.specs.Kinds.{AreGatesOf}
use Rattle.cell_netlist.specs.Uses.{CellView, with_gates}
use Rattle.cell_netlist.specs.Faults.{IsCellNet}
use Rattle.cell_netlist.specs.Levels.{level_in}
use Rattle.cell_rows.specs.CellRows.{rows_of}

-- a netlist whose definitions compute these gates is one of cells, with these levels
pub record AreCells (d : CellView) (levels : List ℕ) (last : ℕ) : Type 0 where
  pub net_keeps : IsNetlist d.net
  pub gates_are : AreGatesOf d.net.defs d.gates
  pub cells : IsCellNet d (level_in d.net.inputs levels) last

-- its rows are a net that answers every word as the netlist does
pub record KeepsRows (d : CellView) (levels : List ℕ) (last : ℕ) : Type 0 where
  pub rows_keep : IsRowNet (rows_of d levels last)
  pub same : SameAnswers d.net.inputs (rows_of d levels last).inputs (length d.net.outputs)
      (rows_of d levels last).outputs (IsNetlistAnswer d.net) (IsAnswer (rows_of d levels last))

-- these are the rows of a netlist of cells
pub record AreRowsOf (net : NetView) (three : Bool) (levels : List ℕ) (last : ℕ) (rows : RowView) : Type 0 where
  pub gates : List (Option Gate)
  pub cells : AreCells (with_gates net gates three) levels last
  pub rows_are : rows ≡ rows_of (with_gates net gates three) levels last
