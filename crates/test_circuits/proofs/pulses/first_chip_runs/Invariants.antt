use Rattle.std.proofs.Common.{◌≡◌, ◌≤◌}
use Rattle.circuit_extracted.specs.FirstCircuit.{first_circuit}
use Rattle.test_circuits.proofs.pulses.first_chip_runs.Given as goal

abbrev pub invariant-loop-bit : goal.invariant-loop-bit
invariant-loop-bit g l = record { circuit : l.pulses.circuit ≡ first_circuit; time : l.pulses.time ≤ l.bit-index }
