-- Rules of geometry, from what is near.
use Rattle.std.proofs.Common.{◌≡◌, ℕ, zero, suc, ◌+◌, ◌<◌, ◌≤◌, Bool, true, false, ◌||◌, ◌&&◌, not, List, [], ◌∷◌}
use Rattle.std.proofs.Common.{length, get_or, eq-eqb, Option, Some, None, refl, sym, ap, subst, ◌∙◌, arith, inl, inr}
use Rattle.std.specs.Prelude.{◌==◌, slice_get, slice_index, nat_lt}
use Rattle.std.proofs.lemmas.Bool.{cases_eq, cases_lt, both_ways, or_left, or_right, or_cases, false_from_ne_true}
use Rattle.std.proofs.lemmas.Bool.{or_from}
use Rattle.std.proofs.lemmas.Bool.{ne_eqb, and_parts, eqb-true}
use Rattle.std.proofs.lemmas.Option.{same_Some, slice_get_within}
use Rattle.geom.specs.declared.shapes.Shape.{Shape}
use Rattle.geom.proofs.Filing.{read_at}
use Rattle.geom.specs.Rectangle.{IsProper, grown, gap_x, gap_y, share_point, within}
use Rattle.layout_rules.proofs.PlaceLaws.{PassesAt, list_any-at, list_any-place}
use Rattle.layout_rules.specs.Reports.{Passes, PassTogether}
use Rattle.layout_rules.specs.declared.layers.TheConstants.{M1, VIA, M2, INPUT_PIN, OUTPUT_PIN}
use Rattle.layout_rules.specs.Layers.{is_lower, is_pin, is_upper, is_via}
use Rattle.layout_rules.specs.Limits.{Limits}
use Rattle.layout_rules.specs.GeometryRules.{is_covered, are_of_one_group, are_too_close, SpacingBroken}
use Rattle.shape_extract.specs.Searches.{FindsAt, AreThose, passes_in}
use Rattle.rule_check.specs.Code.Close.{encloses, is_of_a_group}
use Rattle.rule_check.specs.Code.Cover.{any_at}
use Rattle.rule_check.specs.Code.Above.{FindsAbove}
use Rattle.rule_check.specs.Code.Sheets.{HaveSides}
use Rattle.shape_extract.specs.declared.planes.Plane.{Plane}
use Rattle.shape_extract.specs.declared.planes.Plane.TheVariants.{Lower, Vias, Upper}
use Rattle.shape_extract.specs.Passing.{PassesIn}
use Rattle.shape_extract.specs.Planes.{in_plane}

pub passes_not : (test : Shape → Bool) (shapes : List Shape) (n : ℕ) (s : Shape) → slice_get shapes n ≡ Some s
    → test s ≡ false → Passes test shapes n → ⊥
passes_not test shapes n s is e pass = both_ways (test s) e (ap test (same_Some s pass.shape (sym is ∙ pass.shape_is))
    ∙ pass.passes_so)

-- ---- the first partner above

-- of all partners, rising, the first above a is the least above it
pub first_above_of : (test : Shape → Shape → Bool) (shapes : List Shape) (a : ℕ) (found : List ℕ) (r : Option ℕ)
    → AreThose (PassTogether test shapes a) found → FindsAbove found a r
    → FindsAt (λ x y. (x < y) × PassTogether test shapes x y) a r
first_above_of test shapes a found None are none =
    λ b h. (let k = are.complete b h.1 in let le : slice_index found k.0 ≤ a = none k.0 k.1.0 in
    let e : slice_index found k.0 ≡ b = k.1.1 in let lt : a < b = h.0 in absurd (omega arith))
first_above_of test shapes a found (Some b) are first = record {
  reported = (first.above, subst (PassTogether test shapes a) first.number_is (are.each first.place first.within));
  least = λ d h. (
      let k = are.complete d h.1 in
      let e : slice_index found k.0 ≡ d = k.1.1 in
      let is : slice_index found first.place ≡ b = first.number_is in
      let above : a < d = h.0 in
      elim (cases_lt k.0 first.place) [
        | inl less ↦ absurd (let le : slice_index found k.0 ≤ a = first.before k.0 less in omega arith)
        | inr ge ↦ elim (cases_eq k.0 first.place) [
          | inl same ↦ (let q : slice_index found k.0 ≡ slice_index found first.place = ap (slice_index found) same in
              omega arith)
          | inr ne ↦ (let lt : slice_index found first.place < slice_index found k.0 = are.rising first.place k.0
              (omega arith) k.1.0 in omega arith)
        ]
      ]
      );
}

pub above_more : (numbers : List ℕ) (a i : ℕ) → ((k : ℕ) → k < i → slice_index numbers k ≤ a)
    → slice_index numbers i ≤ a → (k : ℕ) → k < i + 1 → slice_index numbers k ≤ a
above_more numbers a i before here k lt =
    elim (cases_eq k i) [
      | inl e ↦ (let q : slice_index numbers k ≡ slice_index numbers i = ap (slice_index numbers) e in
          omega arith)
      | inr ne ↦ before k (omega arith)
    ]

-- ---- enclosure

covered_some : (shapes : List Shape) (layer margin : ℕ) (s : Shape) (found : List ℕ)
    → AreThose (PassesIn (encloses layer margin s) shapes) found → 0 < length found
    → is_covered shapes layer (grown margin s.rect) ≡ true
covered_some shapes layer margin s found are some =
    let pass : PassesIn (encloses layer margin s) shapes (slice_index found 0) = are.each 0 some in
    list_any-at (λ (t : Shape). encloses layer margin s t) shapes (slice_index found 0) pass.item pass.item_is
    pass.passes_so

covered_none : (shapes : List Shape) (layer margin : ℕ) (s : Shape) (found : List ℕ)
    → AreThose (PassesIn (encloses layer margin s) shapes) found → length found ≡ 0
    → is_covered shapes layer (grown margin s.rect) ≡ false
covered_none shapes layer margin s found are none =
    false_from_ne_true (is_covered shapes layer (grown margin s.rect)) (λ any. (
    let at : PassesAt (λ (t : Shape). encloses layer margin s t) shapes =
    list_any-place (λ (t : Shape). encloses layer margin s t) shapes any in
    let k = are.complete at.place (record { item = at.item; item_is = at.item_is; passes_so = at.passes_so }) in
    let lt : k.0 < length found = k.1.0 in
    omega arith
    ))

pub covered : (shapes : List Shape) (layer margin : ℕ) (s : Shape) (found : List ℕ) (b : Bool)
    → AreThose (PassesIn (encloses layer margin s) shapes) found
    → b ≡ (length found == 0) → not b ≡ is_covered shapes layer (grown margin s.rect)
covered shapes layer margin s found b are e = elim (cases_eq (length found) 0) [
  | inl none ↦ ap not (e ∙ eq-eqb (length found) 0 none) ∙ sym (covered_none shapes layer margin s found are none)
  | inr some ↦ ap not (e ∙ ne_eqb (length found) 0 some)
      ∙ sym (covered_some shapes layer margin s found are (omega arith))
]

-- ---- among some numbers

pub any_at_here : (test : Shape → Bool) (shapes : List Shape) (ns : List ℕ) (k d : ℕ) → k < length ns
    → passes_in test (slice_get shapes (get_or ns k d)) ≡ true → any_at test shapes ns ≡ true
any_at_here test shapes [] k d lt e = absurd (omega arith)
any_at_here test shapes (n ∷ ns) zero d lt e = or_left (passes_in test (slice_get shapes n)) (any_at test shapes ns) e
any_at_here test shapes (n ∷ ns) (suc k) d lt e = or_right (passes_in test (slice_get shapes n)) (any_at test shapes ns)
    (any_at_here test shapes ns k d (omega arith) e)

abbrev pub NoneAt : (Shape → Bool) → List Shape → List ℕ → ℕ → Type 0
NoneAt test shapes ns n = (k : ℕ) → k < n → passes_in test (slice_get shapes (slice_index ns k)) ≡ false

pub none_more : (test : Shape → Bool) (shapes : List Shape) (ns : List ℕ) (i : ℕ) → NoneAt test shapes ns i
    → passes_in test (slice_get shapes (slice_index ns i)) ≡ false → NoneAt test shapes ns (i + 1)
none_more test shapes ns i before here k lt =
    elim (cases_eq k i) [
      | inl e ↦ ap (λ (j : ℕ). passes_in test (slice_get shapes (slice_index ns j))) e
          ∙ here
      | inr ne ↦ before k (omega arith)
    ]

pub any_at_none : (test : Shape → Bool) (shapes : List Shape) (ns : List ℕ) (n : ℕ) → length ns ≤ n
    → NoneAt test shapes ns n → any_at test shapes ns ≡ false
any_at_none test shapes [] n all none = refl
any_at_none test shapes (m ∷ ns) n all none =
    or_from (passes_in test (slice_get shapes m)) (any_at test shapes ns) (none 0 (omega arith))
    (any_at_none test shapes ns (length ns) (omega arith) (λ k lt. none (suc k) (omega arith)))

-- some number passes
pub any_at_found : (test : Shape → Bool) (shapes : List Shape) (ns : List ℕ) → any_at test shapes ns ≡ true
    → (k : ℕ) × ((k < length ns) × (passes_in test (slice_get shapes (slice_index ns k)) ≡ true))
any_at_found test shapes [] e = absurd (both_ways false refl e)
any_at_found test shapes (n ∷ ns) e = elim (or_cases (passes_in test (slice_get shapes n)) (any_at test shapes ns) e) [
  | inl here ↦ (0, (omega arith, here))
  | inr later ↦ (let k = any_at_found test shapes ns later in (suc k.0, (omega (arith, k.1.0), k.1.1)))
]

pub passes_at : (test : Shape → Bool) (shapes : List Shape) (n : ℕ) (s : Shape) (b : Bool) → slice_get shapes n ≡ Some s
    → b ≡ test s → (c : Bool) → b ≡ c → passes_in test (slice_get shapes n) ≡ c
passes_at test shapes n s b is e c h = ap (passes_in test) is ∙ (sym e ∙ h)

-- the shape of a number of the list, as it is read
pub read_through : (test : Shape → Bool) (shapes : List Shape) (ns : List ℕ) (k : ℕ) (s : Shape) (b : Bool)
    → k < length ns → get_or ns k 0 < length shapes → s ≡ get_or shapes (get_or ns k 0) s → test s ≡ b
    → passes_in test (slice_get shapes (get_or ns k 0)) ≡ b
read_through test shapes ns k s b lt within is e = ap (passes_in test) (read_at shapes (get_or ns k 0) s within is) ∙ e

-- and as it was got
pub got_through : (test : Shape → Bool) (shapes : List Shape) (n : ℕ) (s : Shape) (b : Bool)
    → slice_get shapes n ≡ Some s → test s ≡ b → passes_in test (slice_get shapes n) ≡ b
got_through test shapes n s b is e = ap (passes_in test) is ∙ e

-- ---- shapes of no group

no_group : (l v u ol ov ou share gaps : Bool) → ((l || v) || u) ≡ false
    → (((((l && ol) || (v && ov)) || (u && ou)) && share) && gaps) ≡ false
no_group true v u ol ov ou share gaps e = absurd cc
no_group false true u ol ov ou share gaps e = absurd cc
no_group false false true ol ov ou share gaps e = absurd cc
no_group false false false ol ov ou share gaps e = refl

pub no_group_none : (limits : Limits) (shapes : List Shape) (a : ℕ) (s : Shape) → slice_get shapes a ≡ Some s
    → is_of_a_group s ≡ false → (b : ℕ) → SpacingBroken limits shapes a b → ⊥
no_group_none limits shapes a s got other b h =
    let first : h.1.first ≡ s = same_Some h.1.first s (sym h.1.first_is ∙ got) in
    both_ways (are_too_close limits.space s h.1.second)
    (no_group (is_lower s) (is_via s) (is_upper s) (is_lower h.1.second) (is_via h.1.second) (is_upper h.1.second)
    (not (share_point s.rect h.1.second.rect)) (nat_lt (gap_x s.rect h.1.second.rect) limits.space
    && nat_lt (gap_y s.rect h.1.second.rect) limits.space) other)
    (sym (ap (λ (t : Shape). are_too_close limits.space t h.1.second) first) ∙ h.1.passes_so)

-- the shapes of the first n numbers
pub record AreAtTo (n : ℕ) (shapes : List Shape) (numbers : List ℕ) (some : List Shape) : Type 0 where
  pub long : length some ≡ n
  pub each : (k : ℕ) → k < n → slice_get some k ≡ slice_get shapes (slice_index numbers k)

-- the first n shapes are proper
abbrev pub HaveSidesTo : ℕ → List Shape → Type 0
HaveSidesTo n shapes = (k : ℕ) (s : Shape) → k < n → slice_get shapes k ≡ Some s → IsProper s.rect

pub sides_more : (n : ℕ) (shapes : List Shape) (s : Shape) → HaveSidesTo n shapes → slice_get shapes n ≡ Some s
    → IsProper s.rect → HaveSidesTo (n + 1) shapes
sides_more n shapes s before is proper k t lt at = elim (cases_eq k n) [
  | inl e ↦ subst (λ (u : Shape). IsProper u.rect)
      (same_Some s t (sym is ∙ (ap (slice_get shapes) (sym e) ∙ at))) proper
  | inr ne ↦ before k t (omega arith) at
]

pub sides_all : (n : ℕ) (shapes : List Shape) → length shapes ≤ n → HaveSidesTo n shapes → HaveSides shapes
sides_all n shapes all before k s at = before k s (omega (arith, slice_get_within shapes k s at)) at

-- ---- shapes of one group lie in one plane

lower_alone : (layer : ℕ) → (layer == M1 || (layer == INPUT_PIN || layer == OUTPUT_PIN)) ≡ true
    → ((layer == VIA) ≡ false) × ((layer == M2) ≡ false)
lower_alone layer h = elim (or_cases (layer == M1) (layer == INPUT_PIN || layer == OUTPUT_PIN) h) [
  | inl e ↦ at M1 (eqb-true layer M1 e) (refl, refl)
  | inr pin ↦ elim (or_cases (layer == INPUT_PIN) (layer == OUTPUT_PIN) pin) [
    | inl e ↦ at INPUT_PIN (eqb-true layer INPUT_PIN e) (refl, refl)
    | inr e ↦ at OUTPUT_PIN (eqb-true layer OUTPUT_PIN e) (refl, refl)
  ]
]
  where
    at : (n : ℕ) → layer ≡ n → ((n == VIA) ≡ false) × ((n == M2) ≡ false)
        → ((layer == VIA) ≡ false) × ((layer == M2) ≡ false)
    at n e k = subst (λ (m : ℕ). ((m == VIA) ≡ false) × ((m == M2) ≡ false)) (sym e) k

via_alone : (layer : ℕ) → (layer == VIA) ≡ true → (layer == M2) ≡ false
via_alone layer h = subst (λ (m : ℕ). (m == M2) ≡ false) (sym (eqb-true layer VIA h)) refl

one_left : (l v u ol ov ou : Bool) → v ≡ false → u ≡ false → (((l && ol) || (v && ov)) || (u && ou)) ≡ true → ol ≡ true
one_left l true u ol ov ou nv nu h = absurd cc
one_left l false true ol ov ou nv nu h = absurd cc
one_left true false false true ov ou nv nu h = refl
one_left true false false false ov ou nv nu h = h
one_left false false false ol ov ou nv nu h = absurd cc

one_mid : (l v u ol ov ou : Bool) → l ≡ false → u ≡ false → (((l && ol) || (v && ov)) || (u && ou)) ≡ true → ov ≡ true
one_mid true v u ol ov ou nl nu h = absurd cc
one_mid false v true ol ov ou nl nu h = absurd cc
one_mid false true false ol true ou nl nu h = refl
one_mid false true false ol false ou nl nu h = h
one_mid false false false ol ov ou nl nu h = absurd cc

one_right : (l v u ol ov ou : Bool) → l ≡ false → v ≡ false → (((l && ol) || (v && ov)) || (u && ou)) ≡ true → ou ≡ true
one_right true v u ol ov ou nl nv h = absurd cc
one_right false true u ol ov ou nl nv h = absurd cc
one_right false false true ol ov ou nl nv h = h
one_right false false false ol ov ou nl nv h = absurd cc

pub lower_group : (s t : Shape) → is_lower s ≡ true → are_of_one_group s t ≡ true → in_plane Lower t ≡ true
lower_group s t h g =
    let other = lower_alone s.layer h in
    one_left (is_lower s) (is_via s) (is_upper s) (is_lower t) (is_via t) (is_upper t) other.0 other.1 g

pub via_group : (s t : Shape) → is_lower s ≡ false → is_via s ≡ true → are_of_one_group s t ≡ true
    → in_plane Vias t ≡ true
via_group s t nl h g = one_mid (is_lower s) (is_via s) (is_upper s) (is_lower t) (is_via t) (is_upper t) nl
    (via_alone s.layer h) g

pub upper_group : (s t : Shape) → is_lower s ≡ false → is_via s ≡ false → are_of_one_group s t ≡ true
    → in_plane Upper t ≡ true
upper_group s t nl nv g = one_right (is_lower s) (is_via s) (is_upper s) (is_lower t) (is_via t) (is_upper t) nl nv g

pub group_too_close : (space : ℕ) (s t : Shape) → are_too_close space s t ≡ true → are_of_one_group s t ≡ true
group_too_close space s t h = (and_parts (are_of_one_group s t) (not (share_point s.rect t.rect))
    (and_parts (are_of_one_group s t && not (share_point s.rect t.rect))
    (nat_lt (gap_x s.rect t.rect) space && nat_lt (gap_y s.rect t.rect) space) h).0).0

-- ---- planes of metals

pub metal_lower : (s : Shape) → (s.layer == M1) ≡ true → in_plane Lower s ≡ true
metal_lower s h = or_left (s.layer == M1) (is_pin s) h

pub enclosing_in : (layer margin : ℕ) (plane : Plane) (v : Shape)
    → ((s : Shape) → (s.layer == layer) ≡ true → in_plane plane s ≡ true) → (s : Shape)
    → encloses layer margin v s ≡ true → in_plane plane s ≡ true
enclosing_in layer margin plane v planar s h =
    planar s (and_parts (s.layer == layer) (within (grown margin v.rect) s.rect) h).0
