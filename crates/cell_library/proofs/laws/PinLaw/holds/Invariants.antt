use Rattle.std.proofs.Common.{ℕ, ◌≡◌, ◌<◌, ◌≤◌, get_or, Some}
use Rattle.circuit.specs.declared.cell_kind.CellKind.TheVariants.{Buffer}
use Rattle.cell_library.specs.declared.draft.Pins.{Pins}
use Rattle.cell_library.specs.Kinds.{all_kinds}
use Rattle.cell_library.specs.Laws.{KindKeeps}
use Rattle.cell_library.specs.Library.{pins_of}
use Rattle.cell_library.proofs.laws.PinLaw.holds.Given as goal

abbrev pub invariant-loop-kind : goal.invariant-loop-kind
invariant-loop-kind l = record {
  items : l.kind-items ≡ all_kinds;
  columns : l.columns ≡ l.draft.columns;
  few : l.columns ≤ 1000;
  so_far : (k : ℕ) → k < l.kind-index → (pins : Pins) → pins_of l.draft (get_or all_kinds k Buffer) ≡ Some pins
      → KindKeeps l.self l.draft.columns (get_or all_kinds k Buffer) pins;
}
