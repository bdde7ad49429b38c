-- The contacts that each part of a line is to have, judged by the list of them.
use Rattle.std.proofs.Common.{◌≡◌, ◌≢◌, ℕ, ◌-◌, ◌<◌, ◌≤◌, ◌⊎◌, inl, inr, Bool, true, false, List, length, Some, refl}
use Rattle.std.proofs.Common.{sym, ap, subst, ◌∙◌, arith}
use Rattle.std.specs.Prelude.{slice_get, slice_index, not}
use Rattle.std.proofs.lemmas.Bool.{cases_eq, cases_lt, both_ways}
use Rattle.std.proofs.lemmas.Option.{same_Some, slice_get_within}
use Rattle.geom.specs.declared.shapes.Shape.{Shape}
use Rattle.layout_rules.specs.declared.layers.TheConstants.{BAR, LINK, START}
use Rattle.layout_rules.specs.Layers.{is_line}
use Rattle.layout_rules.specs.Reports.{Passes}
use Rattle.layout_rules.specs.ExcitationLines.{Contact, IsPart}
use Rattle.layout_rules.specs.ExcitationRule.{HasStartContacts, HasLinkContacts, HasBarContacts, HasItsContacts}
use Rattle.layout_rules.specs.ExcitationRule.{IsMisjoined}
use Rattle.shape_extract.specs.Searches.{SaysWhether, AreThose}
use Rattle.shape_extract.specs.Code.LineParts.{IsOneBar, AreTwoBars, AreBarEnds}

no_three : (one other a b c : ℕ) → a < b → b < c → (a ≡ one) ⊎ (a ≡ other) → (b ≡ one) ⊎ (b ≡ other)
    → (c ≡ one) ⊎ (c ≡ other) → ⊥
no_three one other a b c ab bc (inl p) (inl q) s = omega arith
no_three one other a b c ab bc (inl p) (inr q) (inl s) = omega arith
no_three one other a b c ab bc (inl p) (inr q) (inr s) = omega arith
no_three one other a b c ab bc (inr p) (inr q) s = omega arith
no_three one other a b c ab bc (inr p) (inl q) (inl s) = omega arith
no_three one other a b c ab bc (inr p) (inl q) (inr s) = omega arith

module _ (shapes : List Shape) (i : ℕ) (contacts : List ℕ) (are : AreThose (Contact shapes i) contacts) where
  pub contacts_within : (p : ℕ) → p < length contacts → slice_index contacts p < length shapes
  contacts_within p lt = let c = are.each p lt in slice_get_within shapes (slice_index contacts p) c.second c.second_is

  -- all numbers of the list are among two
  at_most_two : (one other : ℕ) → ((c : ℕ) → Contact shapes i c → (c ≡ one) ⊎ (c ≡ other)) → length contacts ≤ 2
  at_most_two one other only = elim (cases_lt 2 (length contacts)) [
    | inl more ↦ absurd (no_three one other (slice_index contacts 0) (slice_index contacts 1) (slice_index contacts 2)
        (are.rising 0 1 (omega arith) (omega arith)) (are.rising 1 2 (omega arith) (omega arith))
        (only _ (are.each 0 (omega arith))) (only _ (are.each 1 (omega arith))) (only _ (are.each 2 (omega arith))))
    | inr few ↦ few
  ]

  start_from : IsOneBar shapes contacts → HasStartContacts shapes i
  start_from one = let lt : 0 < length contacts = omega (arith, one.count) in record {
    bar = slice_index contacts 0;
    contact = are.each 0 lt;
    is_bar = one.bars 0 lt;
    only = λ c contact. (let p = are.complete c contact in let e : p.0 ≡ 0 =
        omega (arith, one.count, p.1.0) in sym p.1.1 ∙ ap (slice_index contacts) e);
  }

  start_to : HasStartContacts shapes i → IsOneBar shapes contacts
  start_to has =
      let place = are.complete has.bar has.contact in
      let one : length contacts ≡ 1 = elim (cases_lt 1 (length contacts)) [
        | inl more ↦ absurd (
            let a : slice_index contacts 0 ≡ has.bar = has.only _ (are.each 0 (omega arith)) in
            let b : slice_index contacts 1 ≡ has.bar = has.only _ (are.each 1 more) in
            let lt : slice_index contacts 0 < slice_index contacts 1 = are.rising 0 1 (omega arith) more in
            omega arith
            )
        | inr few ↦ omega (arith, place.1.0)
      ] in
      record { count = one; bars = λ p lt. subst (IsPart shapes BAR) (sym (has.only _ (are.each p lt))) has.is_bar }

  link_from : AreTwoBars shapes contacts → HasLinkContacts shapes i
  link_from two =
      let first : 0 < length contacts = omega (arith, two.count) in
      let second : 1 < length contacts = omega (arith, two.count) in
      record {
        one = slice_index contacts 0;
        other = slice_index contacts 1;
        apart = λ e. (let lt : slice_index contacts 0 < slice_index contacts 1 = are.rising 0 1
            (omega arith) second in omega arith);
        one_contact = are.each 0 first;
        other_contact = are.each 1 second;
        one_bar = two.bars 0 first;
        other_bar = two.bars 1 second;
        only = λ c contact. (let p = are.complete c contact in elim (cases_eq p.0 0) [
          | inl e ↦ inl (sym p.1.1 ∙ ap (slice_index contacts) e)
          | inr ne ↦ let e : p.0 ≡ 1 = omega (arith, two.count, p.1.0) in inr (sym p.1.1 ∙ ap (slice_index contacts) e)
        ]);
      }

  link_to : HasLinkContacts shapes i → AreTwoBars shapes contacts
  link_to has =
      let p = are.complete has.one has.one_contact in
      let q = are.complete has.other has.other_contact in
      let places : p.0 ≢ q.0 = λ e. has.apart (sym p.1.1 ∙ (ap (slice_index contacts) e ∙ q.1.1)) in
      let few : length contacts ≤ 2 = at_most_two has.one has.other has.only in
      record {
        count = omega (arith, p.1.0, q.1.0);
        bars = λ k lt. elim (has.only _ (are.each k lt)) [
          | inl e ↦ subst (IsPart shapes BAR) (sym e) has.one_bar
          | inr e ↦ subst (IsPart shapes BAR) (sym e) has.other_bar
        ];
      }

  bar_from : AreBarEnds shapes contacts → HasBarContacts shapes i
  bar_from ends =
      let first : 0 < length contacts = omega (arith, ends.some) in
      record {
        one = slice_index contacts 0;
        other = slice_index contacts (length contacts - 1);
        one_contact = are.each 0 first;
        only = λ c contact. (let p = are.complete c contact in elim (cases_eq p.0 0) [
          | inl e ↦ inl (sym p.1.1 ∙ ap (slice_index contacts) e)
          | inr ne ↦ let e : p.0 ≡ length contacts - 1 = omega (arith, ends.few, p.1.0) in inr
              (sym p.1.1 ∙ ap (slice_index contacts) e)
        ]);
        no_bar = λ c contact bar.
            (let p = are.complete c contact in ends.no_bars p.0 p.1.0 (subst (IsPart shapes BAR) (sym p.1.1) bar));
      }

  bar_to : HasBarContacts shapes i → AreBarEnds shapes contacts
  bar_to has =
      let p = are.complete has.one has.one_contact in
      record {
        some = omega (arith, p.1.0);
        few = at_most_two has.one has.other has.only;
        no_bars = λ k lt bar. has.no_bar _ (are.each k lt) bar;
      }

  one_datatype : (d e : ℕ) → IsPart shapes d i → IsPart shapes e i → d ≡ e
  one_datatype d e p q = sym p.datatype_is
      ∙ (ap (λ (s : Shape). s.datatype) (same_Some p.shape q.shape (sym p.shape_is ∙ q.shape_is)) ∙ q.datatype_is)

  two_datatypes : (d e : ℕ) → d ≢ e → {A : Type 0} → IsPart shapes d i → IsPart shapes e i → A
  two_datatypes d e ne p q = absurd (ne (one_datatype d e p q))

  module _ (here : Shape) (got : slice_get shapes i ≡ Some here) (line : is_line here ≡ true) where
    part : (d : ℕ) → here.datatype ≡ d → IsPart shapes d i
    part d e = record { shape = here; shape_is = got; line_so = line; datatype_is = e }

    pub joined_start : here.datatype ≡ START → (answer : Bool) → SaysWhether answer (IsOneBar shapes contacts)
        → SaysWhether answer (HasItsContacts shapes i)
    joined_start e true one =
        record {
          start = λ _. start_from one;
          link = two_datatypes START LINK (λ z. omega arith) (part START e);
          bar = two_datatypes START BAR (λ z. omega arith) (part START e);
        }
    joined_start e false not_so = λ has. not_so (start_to (has.start (part START e)))

    pub joined_link : here.datatype ≡ LINK → (answer : Bool) → SaysWhether answer (AreTwoBars shapes contacts)
        → SaysWhether answer (HasItsContacts shapes i)
    joined_link e true two = record {
      start = two_datatypes LINK START (λ z. omega arith) (part LINK e);
      link = λ _. link_from two;
      bar = two_datatypes LINK BAR (λ z. omega arith) (part LINK e);
    }
    joined_link e false not_so = λ has. not_so (link_to (has.link (part LINK e)))

    pub joined_bar : here.datatype ≡ BAR → (answer : Bool) → SaysWhether answer (AreBarEnds shapes contacts)
        → SaysWhether answer (HasItsContacts shapes i)
    joined_bar e true ends = record {
      start = two_datatypes BAR START (λ z. omega arith) (part BAR e);
      link = two_datatypes BAR LINK (λ z. omega arith) (part BAR e);
      bar = λ _. bar_from ends;
    }
    joined_bar e false not_so = λ has. not_so (bar_to (has.bar (part BAR e)))

    pub joined_other : here.datatype ≢ START → here.datatype ≢ LINK → here.datatype ≢ BAR → HasItsContacts shapes i
    joined_other s l b = record {
      start = λ p. absurd (s (one_datatype here.datatype START (part here.datatype refl) p));
      link = λ p. absurd (l (one_datatype here.datatype LINK (part here.datatype refl) p));
      bar = λ p. absurd (b (one_datatype here.datatype BAR (part here.datatype refl) p));
    }

-- ---- the answer for one shape

module _ (shapes : List Shape) (n : ℕ) (here : Shape) (got : slice_get shapes n ≡ Some here) where
  pub misjoined : is_line here ≡ true → (joined : Bool) → SaysWhether joined (HasItsContacts shapes n)
      → SaysWhether (not joined) (IsMisjoined shapes n)
  misjoined line true has = λ fault. fault.not_so has
  misjoined line false has = record { part = record { shape = here; shape_is = got; passes_so = line }; not_so = has }

  pub no_line : is_line here ≡ false → IsMisjoined shapes n → ⊥
  no_line no_so fault = both_ways (is_line here) no_so
      (ap is_line (same_Some here fault.part.shape (sym got ∙ fault.part.shape_is)) ∙ fault.part.passes_so)

-- the shape that is there passes
pub passes_here : (test : Shape → Bool) (shapes : List Shape) (n : ℕ) (here : Shape) → slice_get shapes n ≡ Some here
    → Passes test shapes n → test here ≡ true
passes_here test shapes n here got passes = ap test (same_Some here passes.shape (sym got ∙ passes.shape_is))
    ∙ passes.passes_so
