-- What is told of a netlist: that it is one of cells, with their levels, or its first fault.
use Rattle.std.specs.Prelude.{ℕ, Bool, List, Option}
use Rattle.circuit.specs.declared.gate.Gate.{Gate}
use Rattle.blif_read.specs.Parts.{NetView}
use Rattle.cell_netlist.specs.declared.fault.CellFault.{CellFault}
use Rattle.cell_netlist.specs.declared.fault.CellsRefusal.{CellsRefusal}
use Rattle.cell_netlist.specs.declared.fault.CellsRefusal.TheVariants.{NotCells, Memory}
use Rattle.cell_netlist.specs.Kinds.{AreGatesOf}
use Rattle.cell_netlist.specs.Uses.{with_gates}
use Rattle.cell_netlist.specs.Levels.{level_in}
use Rattle.cell_netlist.specs.Faults.{IsFault, IsCellNet}

-- the netlist is one of cells; the list tells the level of each definition's cell, and the last level is as low as it
-- can be
pub record IsNetOfCells (net : NetView) (three : Bool) (levels : List ℕ) (last : ℕ) : Type 0 where
  pub gates : List (Option Gate)
  pub gates_are : AreGatesOf net.defs gates
  pub cells : IsCellNet (with_gates net gates three) (level_in net.inputs levels) last

-- the netlist is none of cells, and this is its first fault
pub record HasFirstFault (net : NetView) (three : Bool) (line : ℕ) (kind : CellFault) : Type 0 where
  pub gates : List (Option Gate)
  pub gates_are : AreGatesOf net.defs gates
  pub fault : IsFault (with_gates net gates three) line kind

-- a fact for the line and the fault of a refusal that is no want of memory
abbrev pub IfNotCells : CellsRefusal → (ℕ → CellFault → Type 0) → Type 0
IfNotCells (NotCells line kind) P = P line kind
IfNotCells Memory P = Unit {0}
