use Rattle.std.proofs.Common.{◌≡◌, ◌++◌, map, take}
use Rattle.circuit_gates.specs.CellGates.{gate_of, inputs_to}
use Rattle.circuit_gates.proofs.extracted.gates.Given as goal

abbrev pub invariant-loop-input : goal.invariant-loop-input
invariant-loop-input l = l.gates.items ≡ inputs_to l.input

abbrev pub invariant-loop-cell : goal.invariant-loop-cell
invariant-loop-cell l = l.gates.items ≡ inputs_to l.inputs ++ map (gate_of l.inputs) (take l.cell-index l.cells)
