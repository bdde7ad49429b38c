-- Frames that collide: those near, and those whose bands meet.
use Rattle.std.proofs.Common.{◌≡◌, ◌≢◌, ℕ, ◌+◌, ◌<◌, ◌≤◌, true, false, ◌&&◌, ◌||◌, List, length, get_or}
use Rattle.std.proofs.Common.{◌-◌, Some, refl, sym, ap, subst, ◌∙◌, arith, inl, inr}
use Rattle.std.specs.Prelude.{slice_get, slice_index, Contains, int_le, int_lt}
use Rattle.std.proofs.lemmas.Bool.{cases_eq, cases_lt, both_ways, and_parts, and_from, or_cases}
use Rattle.std.proofs.lemmas.Int.{ints}
use Rattle.std.proofs.lemmas.Option.{same_Some, slice_get_within, slice_get-get_or, slice_get-map}
use Rattle.geom.specs.declared.shapes.Shape.{Shape}
use Rattle.geom.specs.Near.{rects_of, IsClose, AreNear}
use Rattle.geom.specs.Rectangle.{Rectangle, IsProper, share_x, share_y, overlap, meet_y}
use Rattle.layout_rules.specs.Layers.{is_frame}
use Rattle.layout_rules.specs.Reports.{PassTogether}
use Rattle.layout_rules.specs.GeometryRules.{collide, FramesBroken}
use Rattle.shape_extract.specs.Searches.{FindsAt, AreThose, passes_in}
use Rattle.shape_extract.proofs.Sharing.{sharing_close}
use Rattle.rule_check.specs.Code.Cover.{any_at}
use Rattle.rule_check.specs.Code.Bands.{collide_across, frames_overlap, band_of, AreBands, CollidesWithNone}
use Rattle.rule_check.proofs.Geometry.{any_at_here}

-- ---- a search number by number

pub none_next : (shapes : List Shape) (a b : ℕ) (s t : Shape)
    → ((d : ℕ) → a < d → d < b → PassTogether collide shapes a d → ⊥) → slice_get shapes a ≡ Some s
    → slice_get shapes b ≡ Some t → collide s t ≡ false → (d : ℕ) → a < d → d < b + 1 → PassTogether collide shapes a d
    → ⊥
none_next shapes a b s t before is at apart d above lt pass = elim (cases_eq d b) [
  | inl e ↦
      let one : pass.first ≡ s = same_Some pass.first s (sym pass.first_is ∙ is) in
      let two : pass.second ≡ t = same_Some pass.second t (sym pass.second_is ∙ (ap (slice_get shapes) e ∙ at)) in
      both_ways (collide s t) apart (sym (ap (λ (x : Shape). collide x t) one)
      ∙ (sym (ap (λ (y : Shape). collide pass.first y) two) ∙ pass.passes_so))
  | inr ne ↦ before d above (omega arith) pass
]

pub first_collides : (shapes : List Shape) (a b : ℕ) (s t : Shape)
    → ((d : ℕ) → a < d → d < b → PassTogether collide shapes a d → ⊥) → a < b → slice_get shapes a ≡ Some s
    → slice_get shapes b ≡ Some t → collide s t ≡ true → FindsAt (FramesBroken shapes) a (Some b)
first_collides shapes a b s t before above is at so = record {
  reported = (above, record { first = s; second = t; first_is = is; second_is = at; passes_so = so });
  least = λ d h. elim (cases_lt d b) [ inl less ↦ absurd (before d h.0 less h.1) | inr ge ↦ ge ];
}

pub none_collides : (shapes : List Shape) (a n : ℕ) → ((d : ℕ) → a < d → d < n → PassTogether collide shapes a d → ⊥)
    → length shapes ≤ n → (b : ℕ) → FramesBroken shapes a b → ⊥
none_collides shapes a n before all b h =
    (let lt : b < length shapes = slice_get_within shapes b h.1.second h.1.second_is in before b h.0 (omega arith) h.1)

-- ---- bands

pub contains_at : {X : Type 0} (xs : List X) (x : X) → Contains xs x
    → (k : ℕ) × ((k < length xs) × (slice_get xs k ≡ Some x))
contains_at xs x c = (c.0, (c.1, slice_get-get_or xs c.0 x c.1 ∙ ap Some c.2))

-- bands that meet are near, as they stand at one place in x
band_close : (a b : Shape) → meet_y a.rect b.rect ≡ true → IsClose (band_of a).rect (band_of b).rect 0
band_close a b h =
    let p = and_parts (int_lt a.rect.y0 b.rect.y1) (int_lt b.rect.y0 a.rect.y1) h in
    sharing_close (band_of a).rect (band_of b).rect
    (and_from (share_x (band_of a).rect (band_of b).rect) (share_y (band_of a).rect (band_of b).rect) refl
    (and_from (int_le a.rect.y0 b.rect.y1) (int_le b.rect.y0 a.rect.y1) (grind (arith, ints, p.0))
    (grind (arith, ints, p.1))))

module _ (shapes bands : List Shape) (a : ℕ) (s : Shape) (found near : List ℕ) (got : slice_get shapes a ≡ Some s)
    (frame_so : is_frame s ≡ true) (are_bands : AreBands shapes bands)
    (are : AreThose (PassTogether frames_overlap shapes a) found) (one : length found ≤ 1)
    (are_near : AreNear (rects_of bands) (band_of s).rect 0 near)
    (none : any_at (λ band. collide_across s.rect band.rect) bands near ≡ false) where
  -- a frame that overlaps this one is among the found, with this one if that overlaps itself
  two_found : (b : ℕ) (t : Shape) → b ≢ a → slice_get shapes b ≡ Some t → is_frame t ≡ true
      → overlap s.rect s.rect ≡ true → overlap s.rect t.rect ≡ true → ⊥
  two_found b t ne at frame own over =
      let k = are.complete b (record {
        first = s;
        second = t;
        first_is = got;
        second_is = at;
        passes_so =
            and_from (is_frame s && is_frame t) (overlap s.rect t.rect)
            (and_from (is_frame s) (is_frame t) frame_so frame) over;
      }) in
      let j = are.complete a (record {
        first = s;
        second = s;
        first_is = got;
        second_is = got;
        passes_so =
            and_from (is_frame s && is_frame s) (overlap s.rect s.rect)
            (and_from (is_frame s) (is_frame s) frame_so frame_so) own;
      }) in
      let same : k.0 ≡ j.0 = omega (arith, k.1.0, j.1.0) in
      ne (sym k.1.1 ∙ (ap (slice_index found) same ∙ j.1.1))

  across : (b : ℕ) (t : Shape) → slice_get shapes b ≡ Some t → is_frame t ≡ true → collide_across s.rect t.rect ≡ true
      → ⊥
  across b t at frame so =
      let band = contains_at bands (band_of t) (are_bands b t at frame) in
      let meets : meet_y s.rect t.rect ≡ true = (and_parts (meet_y s.rect t.rect) _ so).0 in
      let rect_is : slice_get (rects_of bands) band.0 ≡ Some (band_of t).rect =
      slice_get-map (λ (u : Shape). u.rect) bands band.0 ∙ (rw band.1.1 refl) in
      let here : Contains near band.0 =
      are_near.complete band.0 (record {
        other = (band_of t).rect;
        other_is = rect_is;
        close = band_close s t meets;
      }) in
      let passes : passes_in (λ (u : Shape). collide_across s.rect u.rect) (slice_get bands (get_or near here.0 band.0))
      ≡ true = ap (λ (n : ℕ). passes_in (λ (u : Shape). collide_across s.rect u.rect) (slice_get bands n)) here.2
      ∙ (ap (passes_in (λ (u : Shape). collide_across s.rect u.rect)) band.1.1 ∙ so) in
      both_ways (any_at (λ (u : Shape). collide_across s.rect u.rect) bands near) none
      (any_at_here (λ (u : Shape). collide_across s.rect u.rect) bands near here.0 band.0 here.1 passes)

  pub frame_free : overlap s.rect s.rect ≡ true → CollidesWithNone shapes a
  frame_free own b ne pass =
      let first : pass.first ≡ s = same_Some pass.first s (sym pass.first_is ∙ got) in
      let so : collide s pass.second ≡ true = sym (ap (λ (t : Shape). collide t pass.second) first) ∙ pass.passes_so in
      let p = and_parts (is_frame s && is_frame pass.second)
      (overlap s.rect pass.second.rect || collide_across s.rect pass.second.rect) so in
      let frame : is_frame pass.second ≡ true = (and_parts (is_frame s) (is_frame pass.second) p.0).1 in
      elim (or_cases (overlap s.rect pass.second.rect) (collide_across s.rect pass.second.rect) p.1) [
        | inl over ↦ two_found b pass.second ne pass.second_is frame own over
        | inr wrong ↦ across b pass.second pass.second_is frame wrong
      ]

-- ---- the bands of all frames, each once

pub distinct_more : (bands kept : List Shape) (n : ℕ) (s : Shape)
    → ((k : ℕ) (t : Shape) → k < n → slice_get bands k ≡ Some t → Contains kept t) → slice_get bands n ≡ Some s
    → Contains kept s → (k : ℕ) (t : Shape) → k < n + 1 → slice_get bands k ≡ Some t → Contains kept t
distinct_more bands kept n s before got here k t lt is = elim (cases_eq k n) [
  | inl e ↦ subst (Contains kept) (same_Some s t (sym got ∙ (ap (slice_get bands) (sym e) ∙ is))) here
  | inr ne ↦ before k t (omega arith) is
]

pub distinct_all : (bands kept : List Shape) (n : ℕ) → length bands ≤ n
    → ((k : ℕ) (t : Shape) → k < n → slice_get bands k ≡ Some t → Contains kept t) → (band : Shape)
    → Contains bands band → Contains kept band
distinct_all bands kept n all before band c =
    (let k = contains_at bands band c in before k.0 band (omega (arith, k.1.0)) k.1.1)

-- ---- one shape

pub last_is : (bands : List Shape) (s band : Shape) → 0 < length bands → s ≡ get_or bands (length bands - 1) s
    → s ≡ band → Contains bands band
last_is bands s band some is same =
    (length bands - 1, omega arith, sym (ap (λ (t : Shape). get_or bands (length bands - 1) t) same) ∙ (sym is ∙ same))

-- ---- what is free

pub own_overlap : (r : Rectangle) → IsProper r → overlap r r ≡ true
own_overlap r proper =
    let x : int_lt r.x0 r.x1 ≡ true = grind (arith, ints, proper.wide) in
    let y : int_lt r.y0 r.y1 ≡ true = grind (arith, ints, proper.high) in
    and_from (int_lt r.x0 r.x1 && int_lt r.x0 r.x1) (int_lt r.y0 r.y1 && int_lt r.y0 r.y1)
    (and_from (int_lt r.x0 r.x1) (int_lt r.x0 r.x1) x x) (and_from (int_lt r.y0 r.y1) (int_lt r.y0 r.y1) y y)

pub free_none : (shapes : List Shape) (a : ℕ) → CollidesWithNone shapes a → (b : ℕ) → FramesBroken shapes a b → ⊥
free_none shapes a free b h = free b (λ e. (let lt : a < b = h.0 in absurd (omega arith))) h.1

pub no_frame_none : (shapes : List Shape) (a : ℕ) (s : Shape) → slice_get shapes a ≡ Some s → is_frame s ≡ false
    → (b : ℕ) → FramesBroken shapes a b → ⊥
no_frame_none shapes a s got other b h =
    let first : h.1.first ≡ s = same_Some h.1.first s (sym h.1.first_is ∙ got) in
    let p = and_parts (is_frame h.1.first && is_frame h.1.second) (overlap h.1.first.rect h.1.second.rect
    || collide_across h.1.first.rect h.1.second.rect) h.1.passes_so in
    both_ways (is_frame s) other (sym (ap is_frame first)
    ∙ (and_parts (is_frame h.1.first) (is_frame h.1.second) p.0).0)
