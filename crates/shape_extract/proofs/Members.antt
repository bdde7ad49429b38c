-- Shapes of kinds: how they are listed, and that a query of the kinds finds all shapes that pass a test.
use Rattle.std.proofs.Common.{◌≡◌, ℕ, ◌+◌, ◌<◌, ◌≤◌, Bool, List, length, Some, sym, ap, subst, ◌∙◌, arith, inl, inr}
use Rattle.std.specs.Prelude.{slice_get, slice_index, slice_set, ◌↔◌, Contains}
use Rattle.std.specs.List.Sorted.{IsStrictlyIncreasing}
use Rattle.std.proofs.Math.ListN.{length-set}
use Rattle.std.proofs.lemmas.Bool.{cases_eq, cases_lt}
use Rattle.std.proofs.lemmas.Grind.{get_or_default_zero}
use Rattle.std.proofs.lemmas.List.{get_or-set_same, get_or-set_other}
use Rattle.std.proofs.lemmas.List.Kept.{AllPairs-from_increasing}
use Rattle.std.proofs.lemmas.Option.{same_Some, slice_get_within}
use Rattle.geom.specs.declared.shapes.Shape.{Shape}
use Rattle.layout_rules.specs.Reports.{PassTogether}
use Rattle.shape_extract.specs.Searches.{AreThose}
use Rattle.shape_extract.specs.Distinct.{AreAt, StandsFor, ArePlaces}
use Rattle.shape_extract.specs.Passing.{PassesIn}
use Rattle.shape_extract.specs.Filed.{AreFirsts}
use Rattle.shape_extract.specs.Code.Filed.{IsOfKinds, IsFromOn, AddsRest, ListsMembers}

-- ---- the others of a kind

-- those that come before `later` are added
pub record RestTo (places : List ℕ) (n later : ℕ) (old new : List ℕ) : Type 0 where
  pub above : n < later
  pub end : later ≤ length places
  pub of_this : later < length places → slice_index places later ≡ slice_index places n
  pub longer : length old ≤ length new
  pub kept : (k : ℕ) → k < length old → slice_index new k ≡ slice_index old k
  pub within : (k : ℕ) → length old ≤ k → k < length new → slice_index new k < length places
  pub of_kind : (k : ℕ) → length old ≤ k → k < length new
      → slice_index places (slice_index new k) ≡ slice_index places n
  pub all : (m : ℕ) → n < m → m < later → slice_index places m ≡ slice_index places n → IsFromOn (length old) new m

-- ---- the shapes of kinds

-- the first kinds have their first shape in their place, and the others behind all
pub record MembersTo (at : ℕ) (numbers places kinds found : List ℕ) : Type 0 where
  pub longer : length kinds ≤ length found
  pub rest : (k : ℕ) → at ≤ k → k < length kinds → slice_index found k ≡ slice_index kinds k
  pub firsts : (k : ℕ) → k < at → k < length kinds → slice_index found k ≡ slice_index numbers (slice_index kinds k)
  pub others : (k : ℕ) → length kinds ≤ k → k < length found → IsOfKinds places kinds (slice_index found k)
  pub all : (q m : ℕ) → q < at → q < length kinds → m < length places → slice_index places m ≡ slice_index kinds q
      → slice_index numbers (slice_index kinds q) < m → IsFromOn (length kinds) found m

module _ (at : ℕ) (numbers places kinds found more : List ℕ) (are_firsts : AreFirsts numbers places)
    (of_numbers : (k : ℕ) → k < length kinds → slice_index kinds k < length numbers)
    (are : MembersTo at numbers places kinds found) (lt : at < length kinds) (first : ℕ)
    (first_is : first ≡ slice_index numbers (slice_index kinds at)) where
  pub members_more : AddsRest places first (slice_set found at first) more
      → MembersTo (at + 1) numbers places kinds more
  members_more added =
      let as_long : length (slice_set found at first) ≡ length found = length-set found at first in
      let own : slice_index places first ≡ slice_index kinds at = ap (slice_index places) first_is ∙ are_firsts.own
      (slice_index kinds at) (of_numbers at lt) in
      let kept : (k : ℕ) → k < length found
      → slice_index more k ≡ slice_index (slice_set found at first) k = λ k less. added.kept k
      (omega (arith, as_long)) in
      let same : (k : ℕ) → k < length found → ((k ≡ at) → ⊥)
      → slice_index more k ≡ slice_index found k = λ k less ne. kept k less
      ∙ get_or-set_other found at k first 0 ne in
      record {
        longer = omega (arith, are.longer, added.longer, as_long);
        rest = λ k from lk. same k (omega (arith, are.longer)) (λ e. absurd (omega arith)) ∙ are.rest k
            (omega arith) lk;
        firsts = λ k less lk. elim (cases_eq k at) [
          | inl e ↦ kept k (omega (arith, are.longer)) ∙ (ap (slice_index (slice_set found at first)) e ∙
              (get_or-set_same found at first 0 (omega (arith, are.longer)) ∙
              (first_is ∙ ap (λ (x : ℕ). slice_index numbers (slice_index kinds x)) (sym e))))
          | inr ne ↦ same k (omega (arith, are.longer)) ne ∙ are.firsts k (omega arith) lk
        ];
        others = λ k from lk. elim (cases_lt k (length found)) [
          | inl old ↦ subst (IsOfKinds places kinds) (sym (same k old (λ e. absurd (omega arith))))
              (are.others k from old)
          | inr new ↦ record {
            within = added.within k (omega (arith, as_long)) lk;
            place = at;
            among = lt;
            kind_is = added.of_kind k (omega (arith, as_long)) lk ∙ own;
          }
        ];
        all = λ q m less lq lm of above. elim (cases_eq q at) [
          | inl e ↦
              let here : slice_index places m ≡ slice_index places first = of ∙
              (ap (slice_index kinds) e ∙ sym own) in
              let over : first < m = (let f : slice_index numbers (slice_index kinds q) ≡ first = ap
              (λ (x : ℕ). slice_index numbers (slice_index kinds x)) e ∙ sym first_is in omega arith) in
              let there : IsFromOn (length (slice_set found at first)) more m = added.all m over lm here in
              record {
                place = there.place;
                from_on = omega (arith, there.from_on, as_long, are.longer);
                within = there.within;
                is_so = there.is_so;
              }
          | inr ne ↦
              let there : IsFromOn (length kinds) found m = are.all q m (omega arith) lq lm of above in
              record {
                place = there.place;
                from_on = there.from_on;
                within = omega (arith, there.within, added.longer, as_long);
                is_so = same there.place there.within (λ e. absurd (omega (arith, there.from_on))) ∙ there.is_so;
              }
        ];
      }

module _ (numbers places kinds found : List ℕ) (are_firsts : AreFirsts numbers places)
    (of_numbers : (k : ℕ) → k < length kinds → slice_index kinds k < length numbers) where
  pub members_all : (at : ℕ) → length kinds ≤ at → MembersTo at numbers places kinds found
      → ListsMembers numbers places kinds found
  members_all at end are = record {
    longer = are.longer;
    firsts = λ k lt. are.firsts k (omega arith) lt;
    each = λ k lt. elim (cases_lt k (length kinds)) [
      | inl old ↦
          let is : slice_index found k ≡ slice_index numbers (slice_index kinds k) = are.firsts k (omega arith) old in
          subst (IsOfKinds places kinds) (sym is) (record {
            within = are_firsts.below (slice_index kinds k) (of_numbers k old);
            place = k;
            among = old;
            kind_is = are_firsts.own (slice_index kinds k) (of_numbers k old);
          })
      | inr new ↦ are.others k new lt
    ];
    complete = λ n h.
        let low : slice_index numbers (slice_index places n) ≤ n = are_firsts.least n h.within in
        let is : slice_index numbers (slice_index places n) ≡ slice_index numbers (slice_index kinds h.place) = ap
        (slice_index numbers) h.kind_is in
        elim (cases_eq (slice_index numbers (slice_index kinds h.place)) n) [
          | inl e ↦ record {
            place = h.place;
            from_on = omega arith;
            within = omega (arith, h.among, are.longer);
            is_so = are.firsts h.place (omega (arith, h.among)) h.among ∙ e;
          }
          | inr ne ↦
              let there : IsFromOn (length kinds) found n = are.all h.place n
              (omega (arith, h.among)) h.among h.within h.kind_is (omega arith) in
              record { place = there.place; from_on = omega arith; within = there.within; is_so = there.is_so }
        ];
  }

  -- where no kind has a second shape, the first ones rise
  pub rising_firsts : ListsMembers numbers places kinds found → length found ≤ length kinds
      → ((j k : ℕ) → j < k → k < length kinds → slice_index kinds j < slice_index kinds k)
      → AreThose (IsOfKinds places kinds) found
  rising_firsts are short rising = record {
    each = are.each;
    complete = λ n h. (let at : IsFromOn 0 found n = are.complete n h in (at.place, (at.within, at.is_so)));
    rising = λ j k less lt.
        let lk : k < length kinds = omega arith in
        let fj : slice_index found j ≡ slice_index numbers (slice_index kinds j) = are.firsts j (omega arith) in
        let fk : slice_index found k ≡ slice_index numbers (slice_index kinds k) = are.firsts k lk in
        let up : slice_index numbers (slice_index kinds j) < slice_index numbers (slice_index kinds k) =
        are_firsts.rising (slice_index kinds j) (slice_index kinds k) (rising j k less lk) (of_numbers k lk) in
        omega arith;
  }

  -- and else they were made to rise
  pub rising_all : (made : List ℕ) → ListsMembers numbers places kinds found → IsStrictlyIncreasing made
      → ((n : ℕ) → Contains found n ↔ Contains made n) → AreThose (IsOfKinds places kinds) made
  rising_all made are up same = record {
    each = λ k lt.
        let here : Contains made (slice_index made k) = (k, lt, get_or_default_zero made k (slice_index made k) lt) in
        let there : Contains found (slice_index made k) = (same (slice_index made k)).1 here in
        let is : slice_index found there.0 ≡ slice_index made k = sym
        (get_or_default_zero found there.0 (slice_index made k) there.1) ∙ there.2 in
        subst (IsOfKinds places kinds) is (are.each there.0 there.1);
    complete = λ n h.
        let at : IsFromOn 0 found n = are.complete n h in
        let here : Contains found n = (
          at.place,
          at.within,
          get_or_default_zero found at.place n at.within
              ∙ at.is_so,
        ) in
        let there : Contains made n = (same n).0 here in
        (there.0, (there.1, sym (get_or_default_zero made there.0 n there.1) ∙ there.2));
    rising = λ j k less lt. AllPairs-from_increasing made up j k 0 less lt;
  }

-- ---- shapes that pass a test, by their kinds

module _ (test : Shape → Bool) (shapes : List Shape) (numbers places : List ℕ) (some : List Shape)
    (at : AreAt shapes numbers some) (are : ArePlaces shapes numbers places) where
  -- a shape is that of its kind
  pub kind_shape : (n : ℕ) → n < length shapes → slice_get some (slice_index places n) ≡ slice_get shapes n
  kind_shape n lt =
      let stands : StandsFor shapes numbers n (slice_index places n) = are.each n lt in
      at.each (slice_index places n) stands.within ∙ stands.alike

  pub passing_all : (kinds found : List ℕ) → AreThose (PassesIn test some) kinds
      → AreThose (IsOfKinds places kinds) found → AreThose (PassesIn test shapes) found
  passing_all kinds found pass members = record {
    each = λ k lt.
        let h : IsOfKinds places kinds (slice_index found k) = members.each k lt in
        let p : PassesIn test some (slice_index kinds h.place) = pass.each h.place h.among in
        record {
          item = p.item;
          item_is = sym (kind_shape (slice_index found k) (omega (arith, h.within, are.long))) ∙
              (ap (slice_get some) h.kind_is ∙ p.item_is);
          passes_so = p.passes_so;
        };
    complete = λ n p.
        let lt : n < length shapes = slice_get_within shapes n p.item p.item_is in
        let q : PassesIn test some (slice_index places n) = record {
          item = p.item;
          item_is = kind_shape n lt ∙ p.item_is;
          passes_so = p.passes_so;
        } in
        let k = pass.complete (slice_index places n) q in
        members.complete n (record {
          within = omega (arith, are.long);
          place = k.0;
          among = k.1.0;
          kind_is = sym k.1.1;
        });
    rising = members.rising;
  }

-- what passes is of the kinds
pub passing_within : (test : Shape → Bool) (some : List Shape) (found : List ℕ) (count : ℕ) → length some ≡ count
    → AreThose (PassesIn test some) found → (k : ℕ) → k < length found → slice_index found k < count
passing_within test some found count long pass k lt = (let p : PassesIn test some (slice_index found k) =
    pass.each k lt in omega (arith, slice_get_within some (slice_index found k) p.item p.item_is))

pub together_from : (test : Shape → Shape → Bool) (shapes : List Shape) (a : ℕ) (first : Shape) (found : List ℕ)
    → slice_get shapes a ≡ Some first → AreThose (PassesIn (test first) shapes) found
    → AreThose (PassTogether test shapes a) found
together_from test shapes a first found is pass = record {
  each = λ k lt. (let p : PassesIn (test first) shapes (slice_index found k) = pass.each k lt in record {
    first = first;
    second = p.item;
    first_is = is;
    second_is = p.item_is;
    passes_so = p.passes_so;
  });
  complete = λ n p. (
      let same : p.first ≡ first = same_Some p.first first (sym p.first_is ∙ is) in
      pass.complete n (record {
        item = p.second;
        item_is = p.second_is;
        passes_so = sym (ap (λ (s : Shape). test s p.second) same) ∙ p.passes_so;
      })
      );
  rising = pass.rising;
}
