-- Items of a list that stands in another order, and of a sorted one.
use Rattle.std.proofs.Common.{◌≡◌, ℕ, ◌≤◌, false, List, Some, ap, ◌∙◌}
use Rattle.std.specs.Prelude.{slice_get, IsPermutation, IsSorted}
use Rattle.std.specs.declared.cmp.Ordering.{Ordering}
use Rattle.std.specs.Ordering.{is_lt}
use Rattle.std.specs.Cmp.{IsTotalOrder}
use Rattle.std.proofs.lemmas.Option.{slice_get_within, slice_get-get_or, get_or_from_slice_get}
use Rattle.std.proofs.lemmas.List.Sorted.{ranks_by, sorted_far, Contains-permutation}

-- an item has a place in each order
pub moved : {A : Type 0} (xs ys : List A) → IsPermutation xs ys → (x : A) → (k : ℕ) × (slice_get xs k ≡ Some x)
    → (k : ℕ) × (slice_get ys k ≡ Some x)
moved xs ys same x at =
    let new = Contains-permutation xs ys x same
    (at.0, slice_get_within xs at.0 x at.1, get_or_from_slice_get xs at.0 x x at.1) in
    (new.0, slice_get-get_or ys new.0 x new.1 ∙ ap Some new.2)

-- a sorted list doesn't fall
pub far : {A : Type 0} {cmp : A → A → Ordering} → IsTotalOrder cmp → (xs : List A) → IsSorted cmp xs → (i j : ℕ)
    (x y : A) → i ≤ j → slice_get xs i ≡ Some x → slice_get xs j ≡ Some y → is_lt (cmp y x) ≡ false
far {cmp} total xs up i j x y le p q =
    rw (get_or_from_slice_get xs j y x q, get_or_from_slice_get xs i x x p) at
    (sorted_far (λ u v. is_lt (cmp u v)) (ranks_by total (λ u. u)) xs up i j x le (slice_get_within xs j y q))
