use Rattle.std.proofs.Common.{◌≡◌, ℕ, take}
use Rattle.std.specs.Prelude.{sum_by}
use Rattle.poly_cut.specs.Counts.{item_count, told}
use Rattle.poly_cut.specs.Code.Counted.{Tell}
use Rattle.poly_cut.proofs.counts.items_count.Given as goal

abbrev pub invariant-loop-item : goal.invariant-loop-item
invariant-loop-item l =
    (of : ℕ → ℕ) → Tell l.counts of → l.count ≡ told (sum_by (item_count l.kinds of) (take l.item-index l.items))
