use Rattle.std.proofs.Common.{◌≡◌, ℕ, ◌-◌, ◌<◌, ◌≤◌, Some, length, ◌≤ℤ◌}
use Rattle.std.specs.Prelude.{slice_get}
use Rattle.poly_cut.specs.declared.ends.End.{End}
use Rattle.poly_cut.proofs.cutting.next_level.Given as goal

abbrev pub invariant-ends : goal.invariant-ends
invariant-ends l = record {
  more : l.number < l.next;
  within : l.next ≤ length l.ends;
  level : (i : ℕ) (e f : End) → slice_get l.ends l.number ≡ Some e → l.number ≤ i → i < l.next
      → slice_get l.ends i ≡ Some f → f.y ≤ℤ e.y;
}

abbrev pub decreases-ends : goal.decreases-ends
decreases-ends l = length l.ends - l.next
