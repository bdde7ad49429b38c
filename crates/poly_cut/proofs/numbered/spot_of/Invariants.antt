use Rattle.std.proofs.Common.{◌≡◌, ◌+◌, ℕ, take}
use Rattle.std.specs.Prelude.{sum_by}
use Rattle.poly_cut.specs.Counts.{item_count}
use Rattle.poly_cut.specs.Code.Counted.{Tell}
use Rattle.poly_cut.proofs.numbered.spot_of.Given as goal

abbrev pub invariant-loop-place : goal.invariant-loop-place
invariant-loop-place l =
    (of : ℕ → ℕ) → Tell l.counts of → sum_by (item_count l.kinds of) (take l.place l.items) + l.left ≡ l.number
