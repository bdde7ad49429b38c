-- The nets of all shapes by those of their kinds: shapes of one kind are joined where some shape touches them.
use Rattle.std.proofs.Common.{◌≡◌, ℕ, ◌<◌, ◌≤◌, Bool, true, false, cond, List, [], ◌∷◌, length, Some, refl, sym, ap}
use Rattle.std.proofs.Common.{subst, ◌∙◌, arith}
use Rattle.std.specs.Prelude.{slice_get, slice_index}
use Rattle.std.proofs.lemmas.Option.{slice_get_within}
use Rattle.geom.specs.declared.shapes.Shape.{Shape}
use Rattle.layout_rules.specs.Touch.{Touching, IsPath, Joined}
use Rattle.layout_rules.specs.Nets.{AreNets}
use Rattle.layout_rules.proofs.NetLaws.{Touching-back, Touching-within, Joined-self, Joined-trans, Joined-touching}
use Rattle.layout_rules.proofs.NetLaws.{Joined-within, one_number, AreNets-certified}
use Rattle.shape_extract.proofs.Searching.{not_falling}
use Rattle.shape_extract.specs.Searches.{SaysWhether}
use Rattle.shape_extract.specs.Distinct.{AreAt, StandsFor, ArePlaces}
use Rattle.shape_extract.specs.Code.Walk.{HasTouching, is_touched, AreTold, net_at}

module _ (all : List Shape) (numbers places : List ℕ) (some : List Shape) (at : AreAt all numbers some)
    (are : ArePlaces all numbers places) where
  -- ---- from the kinds to all shapes

  up : (p : ℕ) (s : Shape) → slice_get some p ≡ Some s → slice_get all (slice_index numbers p) ≡ Some s
  up p s is = sym (at.each p (omega (arith, slice_get_within some p s is, at.long))) ∙ is

  touching_up : (p q : ℕ) → Touching some p q → Touching all (slice_index numbers p) (slice_index numbers q)
  touching_up p q t = record {
    first = t.first;
    second = t.second;
    first_is = up p t.first t.first_is;
    second_is = up q t.second t.second_is;
    touch_so = t.touch_so;
  }

  path_up : (path : List ℕ) (p q : ℕ) → IsPath some p path q
      → Joined all (slice_index numbers p) (slice_index numbers q)
  path_up [] p q e = ([], ap (slice_index numbers) e)
  path_up (m ∷ path) p q steps = Joined-trans all (slice_index numbers p) (slice_index numbers m)
      (slice_index numbers q) (Joined-touching all (slice_index numbers p) (slice_index numbers m)
      (touching_up p m steps.0)) (path_up path m q steps.1)

  -- ---- from all shapes to their kinds

  down : (n : ℕ) (s : Shape) → slice_get all n ≡ Some s → slice_get some (slice_index places n) ≡ Some s
  down n s is =
      let stands : StandsFor all numbers n (slice_index places n) = are.each n (slice_get_within all n s is) in
      at.each (slice_index places n) stands.within ∙ (stands.alike ∙ is)

  touching_down : (i j : ℕ) → Touching all i j → Touching some (slice_index places i) (slice_index places j)
  touching_down i j t = record {
    first = t.first;
    second = t.second;
    first_is = down i t.first t.first_is;
    second_is = down j t.second t.second_is;
    touch_so = t.touch_so;
  }

  pub place_within : (n : ℕ) → n < length all → slice_index places n < length some
  place_within n lt = (let stands : StandsFor all numbers n (slice_index places n) = are.each n lt in omega
      (arith, stands.within, at.long))

  -- a shape is joined to the one that stands for it, where some shape touches them
  joined_stand_in : (n : ℕ) → n < length all → HasTouching some (slice_index places n)
      → Joined all n (slice_index numbers (slice_index places n))
  joined_stand_in n lt touching =
      let stands : StandsFor all numbers n (slice_index places n) = are.each n lt in
      let there : Touching all (slice_index numbers (slice_index places n)) (slice_index numbers touching.0) =
      touching_up (slice_index places n) touching.0 touching.1 in
      let here : Touching all n (slice_index numbers touching.0) = record {
        first = there.first;
        second = there.second;
        first_is = sym stands.alike ∙ there.first_is;
        second_is = there.second_is;
        touch_so = there.touch_so;
      } in
      Joined-trans all n (slice_index numbers touching.0) (slice_index numbers (slice_index places n))
      (Joined-touching all n (slice_index numbers touching.0) here)
      (Joined-touching all (slice_index numbers touching.0) (slice_index numbers (slice_index places n))
      (Touching-back there))

  not_below : (j k : ℕ) → j ≤ k → k < length numbers → slice_index numbers j ≤ slice_index numbers k
  not_below = not_falling numbers are.rising

  -- ---- the nets

  module _ (labels : List ℕ) (touched : List Bool) (nets : AreNets some labels) (told : AreTold some touched) where
    by_kind : (n : ℕ) → is_touched touched (slice_index places n) ≡ true
        → net_at numbers places labels touched n ≡ slice_index numbers (slice_index labels (slice_index places n))
    by_kind n e = ap (λ (b : Bool). cond {A = ℕ} b (slice_index numbers
        (slice_index labels (slice_index places n))) n) e

    alone : (n : ℕ) → is_touched touched (slice_index places n) ≡ false → net_at numbers places labels touched n ≡ n
    alone n e = ap (λ (b : Bool). cond {A = ℕ} b (slice_index numbers
        (slice_index labels (slice_index places n))) n) e

    pub label_within : (n : ℕ) → n < length all → slice_index labels (slice_index places n) < length numbers
    label_within n lt = omega (
      arith,
      Joined-within some (slice_index places n)
          (slice_index labels (slice_index places n)) (place_within n lt)
          (nets.joined (slice_index places n) (place_within n lt)),
      at.long,
    )

    joined_so : (n : ℕ) → n < length all → (b : Bool) → is_touched touched (slice_index places n) ≡ b
        → Joined all n (net_at numbers places labels touched n)
    joined_so n lt true e =
        let p : ℕ = slice_index places n in
        let path : Joined some p (slice_index labels p) = nets.joined p (place_within n lt) in
        let touching : HasTouching some p = rw e at (told.each p (place_within n lt)) in
        subst (Joined all n) (sym (by_kind n e)) (Joined-trans all n (slice_index numbers p)
        (slice_index numbers (slice_index labels p)) (joined_stand_in n lt touching)
        (path_up path.0 p (slice_index labels p) path.1))
    joined_so n lt false e = subst (Joined all n) (sym (alone n e)) (Joined-self all n)

    not_above : (n : ℕ) → n < length all → (b : Bool) → is_touched touched (slice_index places n) ≡ b
        → net_at numbers places labels touched n ≤ n
    not_above n lt true e =
        let p : ℕ = slice_index places n in
        let stands : StandsFor all numbers n p = are.each n lt in
        let low : slice_index labels p ≤ p = nets.least p p (place_within n lt) (Joined-self some p) in
        let below : slice_index numbers (slice_index labels p) ≤ slice_index numbers p = not_below
        (slice_index labels p) p low stands.within in
        let is : net_at numbers places labels touched n ≡ slice_index numbers (slice_index labels p) = by_kind n e in
        omega (arith, stands.not_above)
    not_above n lt false e = (let is : net_at numbers places labels touched n ≡ n = alone n e in omega arith)

    touched_so : (p q : ℕ) → Touching some p q → (b : Bool) → is_touched touched p ≡ b → is_touched touched p ≡ true
    touched_so p q t true e = e
    touched_so p q t false e = absurd (let none : HasTouching some p → ⊥ = subst
        (λ (b : Bool). SaysWhether b (HasTouching some p)) e (told.each p (Touching-within t).0) in none (q, t))

    agree : (i j : ℕ) → Touching all i j
        → net_at numbers places labels touched i ≡ net_at numbers places labels touched j
    agree i j t =
        let p : ℕ = slice_index places i in
        let q : ℕ = slice_index places j in
        let u : Touching some p q = touching_down i j t in
        let same : slice_index labels p ≡ slice_index labels q = one_number some labels nets p q (Touching-within u).0
        (Joined-touching some p q u) in
        by_kind i (touched_so p q u (is_touched touched p) refl)
        ∙ (ap (slice_index numbers) same ∙ sym (by_kind j (touched_so q p (Touching-back u)
        (is_touched touched q) refl)))

    pub nets_by_kinds : (own : List ℕ) → length own ≡ length all
        → ((n : ℕ) → n < length all → slice_index own n ≡ net_at numbers places labels touched n) → AreNets all own
    nets_by_kinds own long each = AreNets-certified all own (record {
      long = long;
      joined = λ i li. subst (Joined all i) (sym (each i li))
          (joined_so i li (is_touched touched (slice_index places i)) refl);
      not_above = λ i li. (let e : slice_index own i ≡ net_at numbers places labels touched i = each i li in omega
          (arith, not_above i li (is_touched touched (slice_index places i)) refl));
      agree = λ i j t. each i (Touching-within t).0 ∙ (agree i j t ∙ sym (each j (Touching-within t).1));
    })
