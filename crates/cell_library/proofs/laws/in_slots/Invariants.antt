use Rattle.std.proofs.Common.{ℕ, ◌≡◌, ◌<◌, ◌≤◌, ◌+◌, ◌*◌, get_or}
use Rattle.cell_library.proofs.laws.in_slots.Given as goal

abbrev pub invariant-loop-column : goal.invariant-loop-column
invariant-loop-column l = record {
  first_is : l.first ≡ l.column-index * l.columns;
  so_far : (k : ℕ) → k < l.column-index → (k * l.columns ≤ get_or l.column-items k 0)
      × (get_or l.column-items k 0 < (k + 1) * l.columns);
}
