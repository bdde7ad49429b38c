-- The steps of writing a chip's netlist.
use Rattle.std.specs.Prelude.{◌≡◌, length}
use Rattle.circuit_extracted.specs.Circuits.{CircuitView}
use Rattle.aqfp_top.specs.Faults.{IsWritingFault}
use Rattle.aqfp_top.specs.declared.counts.ChipCounts.{ChipCounts}
use Rattle.aqfp_top.specs.declared.fault.Fault.{Fault}
use Rattle.aqfp_top.specs.declared.fault.Fault.TheVariants.{WriteFault}

-- the faults of reading the chip, before anything is stored
abbrev pub IsReadingFault : Fault → Type 0
IsReadingFault (WriteFault call) = ⊥
IsReadingFault fault = IsWritingFault fault

-- these are the counts of the circuit
pub record AreCircuitCounts (circuit : CircuitView) (counts : ChipCounts) : Type 0 where
  pub rows : counts.rows ≡ circuit.rows
  pub cells : counts.cells ≡ length circuit.cells
  pub wires : counts.wires ≡ circuit.wires
