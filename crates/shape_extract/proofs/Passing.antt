-- Numbers of the items of a list that pass a test, and how many pass.
use Rattle.std.proofs.Common.{◌≡◌, ℕ, ◌<◌, Bool, true, false, ◌&&◌, List, length, get_or, Some, refl, sym, ap, subst}
use Rattle.std.proofs.Common.{◌∙◌, arith, inl, inr}
use Rattle.std.specs.Prelude.{slice_get, slice_index, count_by}
use Rattle.std.specs.List.{list_any}
use Rattle.std.proofs.lemmas.Bool.{cases_lt, both_ways, and_from, and_parts, false_from_ne_true}
use Rattle.std.proofs.lemmas.Option.{same_Some, get_or_from_slice_get}
use Rattle.shape_extract.proofs.Marked.{place_of_count}
use Rattle.geom.proofs.Filing.{read_at}
use Rattle.layout_rules.proofs.PlaceLaws.{PassesAt, list_any-at, list_any-place, count_by-once, count_by-one}
use Rattle.shape_extract.specs.Searches.{AreThose}
use Rattle.shape_extract.specs.Passing.{PassesIn}

pub passes_here : {X : Type 0} (test : X → Bool) (xs : List X) (n : ℕ) (x : X) → n < length xs → x ≡ get_or xs n x
    → test x ≡ true → PassesIn test xs n
passes_here test xs n x lt is e = record { item = x; item_is = read_at xs n x lt is; passes_so = e }

pub fails_here : {X : Type 0} (test : X → Bool) (xs : List X) (n : ℕ) (x : X) → x ≡ get_or xs n x
    → test x ≡ false → PassesIn test xs n → ⊥
fails_here test xs n x is e pass =
    let same : x ≡ pass.item = is ∙ get_or_from_slice_get xs n pass.item x pass.item_is in
    both_ways (test x) e (ap test same ∙ pass.passes_so)

-- of an item that was got at this number
pub passes_got : {X : Type 0} (test : X → Bool) (xs : List X) (n : ℕ) (x : X) → slice_get xs n ≡ Some x
    → test x ≡ true → PassesIn test xs n
passes_got test xs n x is e = record { item = x; item_is = is; passes_so = e }

pub fails_got : {X : Type 0} (test : X → Bool) (xs : List X) (n : ℕ) (x : X) → slice_get xs n ≡ Some x
    → test x ≡ false → PassesIn test xs n → ⊥
fails_got test xs n x is e pass =
    both_ways (test x) e (ap test (same_Some x pass.item (sym is ∙ pass.item_is)) ∙ pass.passes_so)

module _ {X : Type 0} (test : X → Bool) (xs : List X) (found : List ℕ) (are : AreThose (PassesIn test xs) found) where
  -- where one number is found, one item passes
  pub counted_one : length found ≡ 1 → count_by test xs ≡ 1
  counted_one one =
      let first : PassesIn test xs (slice_index found 0) = are.each 0 (omega arith) in
      count_by-once test xs (slice_index found 0) first.item first.item_is first.passes_so (λ n y at e. (
      let k = are.complete n (record { item = y; item_is = at; passes_so = e }) in
      let zero_place : k.0 ≡ 0 = omega (arith, k.1.0) in
      sym k.1.1 ∙ ap (slice_index found) zero_place
      ))

  -- and where one item passes, one number is found
  pub found_one : count_by test xs ≡ 1 → length found ≡ 1
  found_one one =
      let some : PassesAt test xs = place_of_count test xs 0 one in
      let k = are.complete some.place
      (record { item = some.item; item_is = some.item_is; passes_so = some.passes_so }) in
      elim (cases_lt 1 (length found)) [
        | inl two ↦
            let a : PassesIn test xs (slice_index found 0) = are.each 0 (omega arith) in
            let b : PassesIn test xs (slice_index found 1) = are.each 1 two in
            let same : slice_index found 0 ≡ slice_index found 1 = count_by-one test xs (slice_index found 0)
            (slice_index found 1) a.item b.item one a.item_is a.passes_so b.item_is b.passes_so in
            let less : slice_index found 0 < slice_index found 1 = are.rising 0 1 (omega arith) two in
            absurd (omega arith)
        | inr most ↦ omega (arith, k.1.0)
      ]

  -- the one item that passes is the only one that another test may pass with it
  pub any_of_one : (other : X → Bool) (n : ℕ) (x : X) → length found ≡ 1 → slice_index found 0 ≡ n
      → slice_get xs n ≡ Some x → list_any (λ y. test y && other y) xs ≡ other x
  any_of_one other n x one is got = by_test (other x) refl
    where
      first : PassesIn test xs n
      first = subst (PassesIn test xs) is (are.each 0 (omega arith))

      passes : test x ≡ true
      passes = ap test (same_Some x first.item (sym got ∙ first.item_is)) ∙ first.passes_so

      by_test : (b : Bool) → other x ≡ b → list_any (λ y. test y && other y) xs ≡ other x
      by_test true e = list_any-at (λ y. test y && other y) xs n x got (and_from (test x) (other x) passes e) ∙ sym e
      by_test false e = false_from_ne_true (list_any (λ y. test y && other y) xs) (λ any. (
          let at : PassesAt (λ y. test y && other y) xs = list_any-place (λ y. test y && other y) xs any in
          let both : (test at.item ≡ true)
          × (other at.item ≡ true) = and_parts (test at.item) (other at.item) at.passes_so in
          let k = are.complete at.place (record { item = at.item; item_is = at.item_is; passes_so = both.0 }) in
          let zero_place : k.0 ≡ 0 = omega (arith, k.1.0) in
          let place : n ≡ at.place = sym is ∙ (sym (ap (slice_index found) zero_place) ∙ k.1.1) in
          let same : x ≡ at.item = same_Some x at.item (sym got ∙ (ap (slice_get xs) place ∙ at.item_is)) in
          both_ways (other x) e (ap other same ∙ both.1)
          )) ∙ sym e
