-- Metal over cells is found among what is near the metal.
use Rattle.std.proofs.Common.{◌≡◌, ℕ, ◌<◌, Bool, true, false, ◌||◌, ◌&&◌, not, List, length, Option, Some, None, ℤ}
use Rattle.std.proofs.Common.{refl, sym, ap, ◌∙◌, arith, inl, inr}
use Rattle.std.specs.Prelude.{◌==◌, slice_get, slice_index, Contains, int_le, int_lt}
use Rattle.std.specs.Int.{int_min, int_max}
use Rattle.std.proofs.lemmas.Bool.{cases_eq, cases_lt, both_ways, and_parts, and_from}
use Rattle.std.proofs.lemmas.Int.{ints}
use Rattle.std.proofs.lemmas.Grind.{get_or_default_zero}
use Rattle.std.proofs.lemmas.List.Kept.{AllPairs-from_increasing}
use Rattle.std.proofs.lemmas.Option.{same_Some}
use Rattle.geom.specs.declared.shapes.Shape.{Shape}
use Rattle.geom.specs.Rectangle.{Rectangle, IsProper, share_x, share_y, share_point, within, overlap, meet_x}
use Rattle.geom.specs.Rectangle.{meet_y}
use Rattle.layout_rules.specs.declared.layers.TheConstants.{M1}
use Rattle.layout_rules.specs.Layers.{is_frame, is_via, is_upper}
use Rattle.layout_rules.specs.Pins.{lies_in}
use Rattle.layout_rules.proofs.PlaceLaws.{PassesAt, list_any-at, list_any-place}
use Rattle.layout_rules.specs.Reports.{PassTogether}
use Rattle.layout_rules.specs.GeometryRules.{is_at_pin, trespasses, CoverBroken}
use Rattle.geom.specs.Rectangle.{common}
use Rattle.shape_extract.specs.Searches.{FindsAt, passes_in}
use Rattle.shape_extract.specs.declared.planes.Plane.{Plane}
use Rattle.shape_extract.specs.declared.planes.Plane.TheVariants.{Frames, Pins}
use Rattle.shape_extract.specs.Planes.{in_plane, AreNearIn}
use Rattle.shape_extract.proofs.Sharing.{sharing_close, overlap_shares}
use Rattle.shape_extract.proofs.InPlanes.{pin_pinned}
use Rattle.rule_check.specs.Code.Cover.{is_at_pin_of, any_at, may_trespass, trespasses_by, FindsTrespass}
use Rattle.rule_check.proofs.Geometry.{any_at_here, any_at_found}

same_bool : (x y : Bool) → (x ≡ true → y ≡ true) → (y ≡ true → x ≡ true) → x ≡ y
same_bool true y p q = sym (p refl)
same_bool false true p q = q refl
same_bool false false p q = refl

-- ---- a pin that holds what metal and frame have in common is near the metal

meets_low : (s0 s1 f0 f1 p1 : ℤ) → int_lt s0 s1 ≡ true → int_lt s0 f1 ≡ true → int_le (int_min s1 f1) p1 ≡ true
    → int_le s0 p1 ≡ true
meets_low s0 s1 f0 f1 p1 a b c = grind (arith, ints)

meets_high : (s0 s1 f0 f1 p0 : ℤ) → int_lt s0 s1 ≡ true → int_lt f0 s1 ≡ true → int_le p0 (int_max s0 f0) ≡ true
    → int_le p0 s1 ≡ true
meets_high s0 s1 f0 f1 p0 a b c = grind (arith, ints)

wide_so : (r : Rectangle) → IsProper r → int_lt r.x0 r.x1 ≡ true
wide_so r proper = grind (arith, ints, proper.wide)

high_so : (r : Rectangle) → IsProper r → int_lt r.y0 r.y1 ≡ true
high_so r proper = grind (arith, ints, proper.high)

common_shares : (s f pin : Rectangle) → IsProper s → overlap s f ≡ true → within (common s f) pin ≡ true
    → share_point s pin ≡ true
common_shares s f pin proper over holds =
    let o = and_parts (meet_x s f) (meet_y s f) over in
    let ox = and_parts (int_lt s.x0 f.x1) (int_lt f.x0 s.x1) o.0 in
    let oy = and_parts (int_lt s.y0 f.y1) (int_lt f.y0 s.y1) o.1 in
    let w = and_parts (int_le pin.x0 (int_max s.x0 f.x0) && int_le (int_min s.x1 f.x1) pin.x1)
    (int_le pin.y0 (int_max s.y0 f.y0) && int_le (int_min s.y1 f.y1) pin.y1) holds in
    let wx = and_parts (int_le pin.x0 (int_max s.x0 f.x0)) (int_le (int_min s.x1 f.x1) pin.x1) w.0 in
    let wy = and_parts (int_le pin.y0 (int_max s.y0 f.y0)) (int_le (int_min s.y1 f.y1) pin.y1) w.1 in
    and_from (share_x s pin) (share_y s pin)
    (and_from (int_le s.x0 pin.x1) (int_le pin.x0 s.x1)
    (meets_low s.x0 s.x1 f.x0 f.x1 pin.x1 (wide_so s proper) ox.0 wx.1)
    (meets_high s.x0 s.x1 f.x0 f.x1 pin.x0 (wide_so s proper) ox.1 wx.0))
    (and_from (int_le s.y0 pin.y1) (int_le pin.y0 s.y1)
    (meets_low s.y0 s.y1 f.y0 f.y1 pin.y1 (high_so s proper) oy.0 wy.1)
    (meets_high s.y0 s.y1 f.y0 f.y1 pin.y0 (high_so s proper) oy.1 wy.0))

-- ---- what is near decides

and_same : (p u v x y : Bool) → (p ≡ true → x ≡ y) → (p && (u || (v && not x))) ≡ (p && (u || (v && not y)))
and_same true u v x y same = ap (λ (b : Bool). u || (v && not b)) (same refl)
and_same false u v x y same = refl

module _ (shapes : List Shape) (a : ℕ) (s : Shape) (frames pins : List ℕ) (got : slice_get shapes a ≡ Some s)
    (proper : IsProper s.rect) (are : AreNearIn Frames shapes s.rect 0 frames)
    (are_pins : AreNearIn Pins shapes s.rect 0 pins) where
  -- shapes of a plane that share a point with this one are among those near it
  place_of : (plane : Plane) (near : List ℕ) → AreNearIn plane shapes s.rect 0 near → (n : ℕ) (t : Shape)
      → slice_get shapes n ≡ Some t → in_plane plane t ≡ true → share_point s.rect t.rect ≡ true
      → (k : ℕ) × ((k < length near) × (slice_index near k ≡ n))
  place_of plane near near_are n t is in_it share =
      let here : Contains near n = near_are.complete n t is in_it (sharing_close s.rect t.rect share) in
      (here.0, (here.1, sym (get_or_default_zero near here.0 n here.1) ∙ here.2))

  pin_near : (frame : Shape) → overlap s.rect frame.rect ≡ true → is_at_pin shapes s frame ≡ true
      → any_at (is_at_pin_of s frame) shapes pins ≡ true
  pin_near frame over any =
      let at : PassesAt (is_at_pin_of s frame) shapes = list_any-place (is_at_pin_of s frame) shapes any in
      let holds = and_parts (lies_in at.item frame) (within (common s.rect frame.rect) at.item.rect) at.passes_so in
      let k = place_of Pins pins are_pins at.place at.item at.item_is (pin_pinned frame at.item holds.0)
      (common_shares s.rect frame.rect at.item.rect proper over holds.1) in
      any_at_here (is_at_pin_of s frame) shapes pins k.0 0 k.1.0
      (ap (λ (n : ℕ). passes_in (is_at_pin_of s frame) (slice_get shapes n)) k.1.1
      ∙ (ap (passes_in (is_at_pin_of s frame)) at.item_is ∙ at.passes_so))

  near_pin : (frame : Shape) → any_at (is_at_pin_of s frame) shapes pins ≡ true → is_at_pin shapes s frame ≡ true
  near_pin frame any = (let k = any_at_found (is_at_pin_of s frame) shapes pins any in
      by_case (slice_index pins k.0) (slice_get shapes (slice_index pins k.0)) refl k.1.1)
    where
      by_case : (n : ℕ) (o : Option Shape) → slice_get shapes n ≡ o
          → passes_in (is_at_pin_of s frame) (slice_get shapes n) ≡ true → is_at_pin shapes s frame ≡ true
      by_case n None is e = absurd (both_ways (passes_in (is_at_pin_of s frame) (slice_get shapes n))
          (ap (passes_in (is_at_pin_of s frame)) is) e)
      by_case n (Some pin) is e = list_any-at (is_at_pin_of s frame) shapes n pin is
          (sym (ap (passes_in (is_at_pin_of s frame)) is) ∙ e)

  same_trespass : (frame : Shape) → trespasses shapes s frame ≡ trespasses_by shapes pins s frame
  same_trespass frame =
      and_same (is_frame frame && overlap s.rect frame.rect) (is_via s || is_upper s) (s.layer == M1)
      (is_at_pin shapes s frame) (any_at (is_at_pin_of s frame) shapes pins)
      (λ both. (let over : overlap s.rect frame.rect ≡ true =
      (and_parts (is_frame frame) (overlap s.rect frame.rect) both).1 in
      same_bool (is_at_pin shapes s frame) (any_at (is_at_pin_of s frame) shapes pins) (pin_near frame over)
      (near_pin frame)))

  -- a frame on which the shape trespasses has a place among the near ones, and is found there
  record IsTrespassAt (b : ℕ) : Type 0 where
    pub place : ℕ
    pub within_so : place < length frames
    pub number_is : slice_index frames place ≡ b
    pub so : passes_in (trespasses_by shapes pins s) (slice_get shapes (slice_index frames place)) ≡ true

  trespass_at : (b : ℕ) → PassTogether (trespasses shapes) shapes a b → IsTrespassAt b
  trespass_at b pass =
      let first : pass.first ≡ s = same_Some pass.first s (sym pass.first_is ∙ got) in
      let so : trespasses shapes s pass.second ≡ true = sym (ap (λ (t : Shape). trespasses shapes t pass.second) first)
      ∙ pass.passes_so in
      let on = and_parts (is_frame pass.second) (overlap s.rect pass.second.rect)
      (and_parts (is_frame pass.second && overlap s.rect pass.second.rect)
      (is_via s || is_upper s || (s.layer == M1 && not (is_at_pin shapes s pass.second))) so).0 in
      let k = place_of Frames frames are b pass.second pass.second_is on.0
      (overlap_shares s.rect pass.second.rect on.1) in
      record {
        place = k.0;
        within_so = k.1.0;
        number_is = k.1.1;
        so = ap (λ (n : ℕ). passes_in (trespasses_by shapes pins s) (slice_get shapes n)) k.1.1
            ∙ (ap (passes_in (trespasses_by shapes pins s)) pass.second_is ∙ (sym (same_trespass pass.second) ∙ so));
      }

  reported_at : (b : ℕ) → passes_in (trespasses_by shapes pins s) (slice_get shapes b) ≡ true
      → PassTogether (trespasses shapes) shapes a b
  reported_at b e = by_case (slice_get shapes b) refl
    where
      by_case : (o : Option Shape) → slice_get shapes b ≡ o → PassTogether (trespasses shapes) shapes a b
      by_case None is = absurd (both_ways (passes_in (trespasses_by shapes pins s) (slice_get shapes b))
          (ap (passes_in (trespasses_by shapes pins s)) is) e)
      by_case (Some frame) is = record {
        first = s;
        second = frame;
        first_is = got;
        second_is = is;
        passes_so = same_trespass frame ∙ (sym (ap (passes_in (trespasses_by shapes pins s)) is) ∙ e);
      }

  pub trespass_found : (r : Option ℕ) → FindsTrespass shapes frames pins s r → FindsAt (CoverBroken shapes) a r
  trespass_found None none = λ b pass. (let at : IsTrespassAt b = trespass_at b pass in
      both_ways (passes_in (trespasses_by shapes pins s) (slice_get shapes (slice_index frames at.place)))
      (none at.place at.within_so) at.so)
  trespass_found (Some b) first = record {
    reported = reported_at b first.trespasses_so;
    least = λ d pass. (
        let at : IsTrespassAt d = trespass_at d pass in
        let e : slice_index frames at.place ≡ d = at.number_is in
        let is : slice_index frames first.place ≡ b = first.number_is in
        elim (cases_lt at.place first.place) [
          | inl less ↦ absurd (both_ways
              (passes_in (trespasses_by shapes pins s) (slice_get shapes (slice_index frames at.place)))
              (first.before at.place less) at.so)
          | inr ge ↦ elim (cases_eq at.place first.place) [
            | inl same ↦ (let q : slice_index frames at.place ≡ slice_index frames first.place =
                ap (slice_index frames) same in omega arith)
            | inr ne ↦ (let lt : slice_index frames first.place < slice_index frames at.place =
                AllPairs-from_increasing frames are.rising first.place at.place 0 (omega arith) at.within_so in
                omega arith)
          ]
        ]
        );
  }

-- where no frame is near, there is nothing to trespass on
pub no_frame_none : (shapes : List Shape) (a : ℕ) (s : Shape) (frames : List ℕ) → slice_get shapes a ≡ Some s
    → AreNearIn Frames shapes s.rect 0 frames → length frames ≡ 0 → (b : ℕ) → CoverBroken shapes a b → ⊥
no_frame_none shapes a s frames got are none b pass =
    let first : pass.first ≡ s = same_Some pass.first s (sym pass.first_is ∙ got) in
    let so : trespasses shapes s pass.second ≡ true = sym (ap (λ (t : Shape). trespasses shapes t pass.second) first)
    ∙ pass.passes_so in
    let on = and_parts (is_frame pass.second) (overlap s.rect pass.second.rect)
    (and_parts (is_frame pass.second && overlap s.rect pass.second.rect)
    (is_via s || is_upper s || (s.layer == M1 && not (is_at_pin shapes s pass.second))) so).0 in
    let here : Contains frames b = are.complete b pass.second pass.second_is on.0
    (sharing_close s.rect pass.second.rect (overlap_shares s.rect pass.second.rect on.1)) in
    omega (arith, here.1)

-- ---- shapes of other layers

no_trespass : (p v u m x : Bool) → ((v || u) || m) ≡ false → (p && ((v || u) || (m && not x))) ≡ false
no_trespass p true u m x e = absurd cc
no_trespass p false true m x e = absurd cc
no_trespass p false false true x e = absurd cc
no_trespass true false false false x e = refl
no_trespass false false false false x e = refl

pub no_layer_none : (shapes : List Shape) (a : ℕ) (s : Shape) → slice_get shapes a ≡ Some s → may_trespass s ≡ false
    → (b : ℕ) → CoverBroken shapes a b → ⊥
no_layer_none shapes a s got other b pass =
    let first : pass.first ≡ s = same_Some pass.first s (sym pass.first_is ∙ got) in
    both_ways (trespasses shapes s pass.second)
    (no_trespass (is_frame pass.second && overlap s.rect pass.second.rect) (is_via s) (is_upper s) (s.layer == M1)
    (is_at_pin shapes s pass.second) other)
    (sym (ap (λ (t : Shape). trespasses shapes t pass.second) first) ∙ pass.passes_so)
