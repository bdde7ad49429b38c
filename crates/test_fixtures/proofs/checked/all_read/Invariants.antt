use Rattle.std.proofs.Common.{◌≡◌, ℕ, ◌<◌, slice_get, Some}
use Rattle.circuit.specs.declared.gate.Gate.{Gate}
use Rattle.circuit.specs.CellNets.{Reads}
use Rattle.test_fixtures.proofs.checked.all_read.Given as goal

abbrev pub invariant-loop-place : goal.invariant-loop-place
invariant-loop-place l = (i : ℕ) (g : Gate) → i < l.place → slice_get l.gates i ≡ Some g → Reads l.inputs i g
