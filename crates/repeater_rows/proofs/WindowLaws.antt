-- Putting windows in order removes the inversions inside them, and no more.
use Rattle.std.proofs.Common.{◌≡◌, ℕ, zero, suc, ◌+◌, List, take, drop, refl, sym, ap, ◌∙◌, arith}
use Rattle.std.proofs.lemmas.List.{take-append-drop}
use Rattle.sorting.specs.Sorting.{in_order, passing}
use Rattle.sorting.specs.Numbers.{Same}
use Rattle.sorting.specs.Inversions.{inversions}
use Rattle.sorting.proofs.SortingLaws.{by_key_passing, by_key_in_order}
use Rattle.sorting.proofs.InversionLaws.{across, inversions-append, across-same, across-in_order, passing-append}
use Rattle.sorting.proofs.InversionLaws.{none_in_order, in_order_same}
use Rattle.repeater_rows.specs.Rounds.{windows}

-- the inversions inside the first n windows
abbrev pub inside : ℕ → ℕ → List ℕ → ℕ
inside size zero xs = 0
inside size (suc n) xs = inversions (take size xs) + inside size n (drop size xs)

pub windows_same : (e n : ℕ) (xs : List ℕ) → Same (windows e n xs) xs
windows_same e zero xs p = refl
windows_same e (suc n) xs p =
    passing-append p (in_order (take e xs)) (windows e n (drop e xs))
    ∙ (let a : passing p (in_order (take e xs)) ≡ passing p (take e xs) = by_key_passing p (λ n. n) (take e xs) in
    let b = windows_same e n (drop e xs) p in
    let c : passing p (take e xs) + passing p (drop e xs) ≡ passing p xs =
    sym (passing-append p (take e xs) (drop e xs)) ∙ ap (λ (l : List ℕ). passing p l) (take-append-drop e xs) in
    omega (arith, a, b, c))

pub windows_lower : (e n : ℕ) (xs : List ℕ) → inversions (windows e n xs) + inside e n xs ≡ inversions xs
windows_lower e zero xs = omega arith
windows_lower e (suc n) xs =
    let here : inversions (in_order (take e xs)) ≡ 0 = none_in_order 0 (in_order (take e xs))
    (by_key_in_order (λ n. n) (take e xs)) in
    let a = inversions-append (in_order (take e xs)) (windows e n (drop e xs)) in
    let b : across (in_order (take e xs)) (windows e n (drop e xs)) ≡ across (take e xs) (drop e xs) =
    across-in_order (take e xs) (windows e n (drop e xs))
    ∙ across-same (take e xs) (windows e n (drop e xs)) (drop e xs) (windows_same e n (drop e xs)) in
    let c : inversions xs ≡ inversions (take e xs) + across (take e xs) (drop e xs) + inversions (drop e xs) =
    sym (ap inversions (take-append-drop e xs)) ∙ inversions-append (take e xs) (drop e xs) in
    omega (arith, here, a, b, c, windows_lower e n (drop e xs))

pub windows_stay : (e n : ℕ) (xs : List ℕ) → inside e n xs ≡ 0 → windows e n xs ≡ xs
windows_stay e zero xs none = refl
windows_stay e (suc n) xs none =
    let a : in_order (take e xs) ≡ take e xs = in_order_same (take e xs) (omega (arith, none)) in
    let b : windows e n (drop e xs) ≡ drop e xs = windows_stay e n (drop e xs) (omega (arith, none)) in
    rw (a, b) (take-append-drop e xs)
