use Rattle.std.proofs.Common.{ℕ, ◌≡◌, ◌<◌, get_or}
use Rattle.circuit.specs.declared.cell_kind.CellKind.TheVariants.{Buffer}
use Rattle.cell_library.specs.Kinds.{all_kinds}
use Rattle.cell_library.specs.Library.{pins_of}
use Rattle.cell_library.proofs.same.same_pins.Given as goal

abbrev pub invariant-loop-kind : goal.invariant-loop-kind
invariant-loop-kind l = record {
  items : l.kind-items ≡ all_kinds;
  so_far : (k : ℕ) → k < l.kind-index
      → pins_of l.a (get_or all_kinds k Buffer) ≡ pins_of l.b (get_or all_kinds k Buffer);
}
