-- Names that differ by their numbers: where each stands in a list of them.
use Rattle.std.proofs.Common.{◌≡◌, ℕ, zero, suc, ◌+◌, ◌<◌, ◌≤◌, Bool, true, false, List, [], ◌∷◌, ◌++◌, length, map}
use Rattle.std.proofs.Common.{get_or, refl, ap, ◌∙◌, arith, inl, inr}
use Rattle.std.specs.List.{list_any, AllByRecursion, range_with_len}
use Rattle.std.specs.Str.{bytes_eq}
use Rattle.std.specs.Cmp.{nat_eq_equiv}
use Rattle.std.specs.Cmp.Lexicographic.{lists_equiv}
use Rattle.std.proofs.lemmas.Bool.{cases_Bool}
use Rattle.std.proofs.lemmas.List.Folds.{list_any_at}
use Rattle.std.proofs.lemmas.List.FromFn.{get_or-map-range_with_len, length-map-range_with_len}
use Rattle.std.proofs.lemmas.List.Sums.{position_or_len_is}
use Rattle.std.proofs.lemmas.Slice.Eq.{bytes_eq-Decides}
use Rattle.std.specs.Bool.{Decides}
use Rattle.blif_read.specs.Parts.{number, is_defined}
use Rattle.blif_read.specs.Faults.{adds_again}
use Rattle.blif_flat.proofs.WrittenLines.{IsToken}

-- names of so many signals: each is a token, and they differ
pub record AreNames (name : ℕ → List ℕ) (total : ℕ) : Type 0 where
  pub token : (s : ℕ) → s < total → IsToken (name s)
  pub differ : (s t : ℕ) → s < total → t < total → name s ≡ name t → s ≡ t

-- the name of an earlier signal
pub record IsEarlier (name : ℕ → List ℕ) (s : ℕ) (other : List ℕ) : Type 0 where
  pub signal : ℕ
  pub below : signal < s
  pub is : other ≡ name signal

equal_texts : (b : Bool) (a c : List ℕ) → Decides b (a ≡ c) → b ≡ true → a ≡ c
equal_texts b a c d e = d.0 e

same_name : (a : List ℕ) → bytes_eq a a ≡ true
same_name a = (lists_equiv nat_eq_equiv).refl a

pub range_apart : (a m n : ℕ) → range_with_len a (m + n) ≡ range_with_len a m ++ range_with_len (a + m) n
range_apart a zero n =
    let e : a ≡ a + 0 = omega arith in
    let f : 0 + n ≡ n = omega arith in
    ap (range_with_len a) f ∙ ap (λ b. range_with_len b n) e
range_apart a (suc m) n =
    let e : suc m + n ≡ suc (m + n) = omega arith in
    let f : a + 1 + m ≡ a + suc m = omega arith in
    ap (range_with_len a) e ∙ ap (λ xs. a ∷ xs) (range_apart (a + 1) m n
    ∙ ap (λ b. range_with_len (a + 1) m ++ range_with_len b n) f)

module _ (name : ℕ → List ℕ) (total : ℕ) (names : AreNames name total) where
  other_name : (s t : ℕ) → s < total → t < total → (s ≡ t → ⊥) → bytes_eq (name s) (name t) ≡ false
  other_name s t p q apart = elim (cases_Bool (bytes_eq (name s) (name t))) [
    | inl same ↦ absurd (apart (names.differ s t p q
        (equal_texts (bytes_eq (name s) (name t)) (name s) (name t) (bytes_eq-Decides (name s) (name t)) same)))
    | inr other ↦ other
  ]

  at_place : (s d : ℕ) → s < total → get_or (map name (range_with_len 0 total)) s (name d) ≡ name s
  at_place s d p = let e : 0 + s ≡ s = omega arith in get_or-map-range_with_len name 0 total s s (name d) p e

  pub number_is : (s : ℕ) → s < total → number (map name (range_with_len 0 total)) (name s) ≡ s
  number_is s p =
      let all = map name (range_with_len 0 total) in
      let long : length all ≡ total = length-map-range_with_len name 0 total in
      position_or_len_is (bytes_eq (name s)) all s (name 0) (omega (arith, long))
      (λ k h. let q : k < total = omega arith in ap (bytes_eq (name s)) (at_place k 0 q)
      ∙ other_name s k p q (λ e. absurd (omega (arith, e))))
      (λ h. ap (bytes_eq (name s)) (at_place s 0 p) ∙ same_name (name s))

  pub numbers_are : (signals : List ℕ) → AllByRecursion (λ s. s < total) signals
      → map (number (map name (range_with_len 0 total))) (map name signals) ≡ signals
  numbers_are [] each = refl
  numbers_are (s ∷ signals) each =
      ap (λ n. n ∷ map (number (map name (range_with_len 0 total))) (map name signals)) (number_is s each.0)
      ∙ ap (λ ns. s ∷ ns) (numbers_are signals each.1)

  pub defined_is : (s : ℕ) → s < total → is_defined (map name (range_with_len 0 total)) (name s) ≡ true
  defined_is s p =
      let all = map name (range_with_len 0 total) in
      let long : length all ≡ total = length-map-range_with_len name 0 total in
      list_any_at (bytes_eq (name s)) all s (name 0) (omega (arith, long)) (ap (bytes_eq (name s)) (at_place s 0 p)
      ∙ same_name (name s))

  -- a signal's name is not among those of earlier signals
  pub fresh : (s : ℕ) (known : List (List ℕ)) → s < total → AllByRecursion (IsEarlier name s) known
      → list_any (bytes_eq (name s)) known ≡ false
  fresh s [] p each = refl
  fresh s (other ∷ known) p each =
      let below = each.0.below in
      let q : each.0.signal < total = omega (arith, below) in
      let no : bytes_eq (name s) other ≡ false = ap (bytes_eq (name s)) each.0.is
      ∙ other_name s each.0.signal p q (λ e. absurd (omega (arith, e, below))) in
      rw no (fresh s known p each.1)

  later : (s t : ℕ) → s ≤ t → (known : List (List ℕ)) → AllByRecursion (IsEarlier name s) known
      → AllByRecursion (IsEarlier name t) known
  later s t h [] each = tt
  later s t h (other ∷ known) each =
      let below = each.0.below in
      (record { signal = each.0.signal; below = omega (arith, below, h); is = each.0.is }, later s t h known each.1)

  -- with one name more
  pub one_more : (s : ℕ) (known : List (List ℕ)) → AllByRecursion (IsEarlier name s) known
      → AllByRecursion (IsEarlier name (s + 1)) (name s ∷ known)
  one_more s known each = (
    record { signal = s; below = omega arith; is = refl },
    later s (s + 1)
        (omega arith) known each,
  )

  pub in_order : (s n : ℕ) (known : List (List ℕ)) → s + n ≤ total → AllByRecursion (IsEarlier name s) known
      → adds_again known (map name (range_with_len s n)) ≡ false
  in_order s zero known h each = refl
  in_order s (suc n) known h each =
      let no = fresh s known (omega arith) each in
      rw no (in_order (s + 1) n (name s ∷ known) (omega arith) (one_more s known each))

  pub all_earlier : (s n t : ℕ) → s + n ≤ t → AllByRecursion (IsEarlier name t) (map name (range_with_len s n))
  all_earlier s zero t h = tt
  all_earlier s (suc n) t h = (
    record { signal = s; below = omega arith; is = refl },
    all_earlier (s + 1) n t
        (omega arith),
  )
