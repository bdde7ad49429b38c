-- What is kept of the rules of geometry, as the rules report it.
use Rattle.std.proofs.Common.{◌≡◌, ℕ, ◌+◌, Bool, true, not, ◌&&◌, ◌||◌, ◌==◌, refl, ap, ◌∙◌, arith, inl, inr, List, []}
use Rattle.std.proofs.Common.{◌∷◌, slice_index, int_lt, ℤ, zip}
use Rattle.std.specs.Ordering.{int_eq}
use Rattle.std.proofs.lemmas.Bool.{both_ways, and_parts, and_from, or_cases, eqb-true, eq-eqb}
use Rattle.std.proofs.lemmas.Bool.Decides.{Decides-int_eq}
use Rattle.std.proofs.lemmas.List.Sums.{sum_by-cons}
use Rattle.geom.specs.declared.shapes.Shape.{Shape}
use Rattle.geom.specs.Rectangle.{within, overlap, meet_y, grown, common}
use Rattle.layout_rules.specs.declared.layers.TheConstants.{M1, M2}
use Rattle.layout_rules.specs.Layers.{is_frame, is_pin, is_via, is_upper}
use Rattle.layout_rules.specs.Pins.{lies_in}
use Rattle.layout_rules.specs.Reports.{ReportsNone}
use Rattle.layout_rules.proofs.PlaceLaws.{list_any-at}
use Rattle.layout_rules.specs.GeometryRules.{is_too_small, SizesBroken, are_too_close, SpacingBroken, is_covered}
use Rattle.layout_rules.specs.GeometryRules.{EnclosureBroken, is_at_pin, CoverBroken, FramesBroken}
use Rattle.layout_rules.specs.LengthRule.{length_in, net_length, LengthsBroken}
use Rattle.cell_library.specs.Library.{LibraryView, limits_of}
use Rattle.layout_make.proofs.KeptRules.{G1, G2, G3, G4, G5, Encloses, OverPin}
use Rattle.layout_make.proofs.Lengths.{weights, total, NetsShort}

pub sizes_kept : (l : LibraryView) (shapes : List Shape) → G1 l shapes → ReportsNone (SizesBroken (limits_of l) shapes)
sizes_kept l shapes g a b (p, e) = both_ways (is_too_small (limits_of l) p.shape) (g a p.shape p.shape_is) p.passes_so

pub spacing_kept : (l : LibraryView) (shapes : List Shape) → G2 l shapes
    → ReportsNone (SpacingBroken (limits_of l) shapes)
spacing_kept l shapes g a b (lt, p) = both_ways (are_too_close l.space p.first p.second)
    (g a b p.first p.second p.first_is p.second_is) p.passes_so

-- G3

covered : (l : LibraryView) (shapes : List Shape) (layer : ℕ) (v : Shape) → Encloses l shapes layer v
    → is_covered shapes layer (grown l.enclose v.rect) ≡ true
covered l shapes layer v e = list_any-at (λ (s : Shape). s.layer == layer && within (grown l.enclose v.rect) s.rect)
    shapes e.number e.shape e.at (and_from (e.shape.layer == layer) (within (grown l.enclose v.rect) e.shape.rect)
    (eq-eqb e.shape.layer layer e.of_layer) e.contains)

pub enclosure_kept : (l : LibraryView) (shapes : List Shape) → G3 l shapes
    → ReportsNone (EnclosureBroken (limits_of l) shapes)
enclosure_kept l shapes g a b (p, e) =
    let v = p.shape in
    let parts = and_parts (is_via v)
    (not (is_covered shapes M1 (grown l.enclose v.rect) && is_covered shapes M2 (grown l.enclose v.rect)))
    p.passes_so in
    let both = g a v p.shape_is (eqb-true v.layer 11 parts.0) in
    none (is_covered shapes M1 (grown l.enclose v.rect)) (is_covered shapes M2 (grown l.enclose v.rect)) parts.1
    (covered l shapes 10 v both.0) (covered l shapes 12 v both.1)
  where
    none : (x y : Bool) → not (x && y) ≡ true → x ≡ true → y ≡ true → ⊥
    none x y n p q = grind arith

-- G4

pub cover_kept : (shapes : List Shape) → G4 shapes → ReportsNone (CoverBroken shapes)
cover_kept shapes g a b p =
    let s = p.first in
    let f = p.second in
    let parts = and_parts (is_frame f && overlap s.rect f.rect)
    (is_via s || is_upper s || (s.layer == M1 && not (is_at_pin shapes s f))) p.passes_so in
    let over = and_parts (is_frame f) (overlap s.rect f.rect) parts.0 in
    let frame = eqb-true f.layer 20 over.0 in
    elim (or_cases (is_via s || is_upper s) (s.layer == M1 && not (is_at_pin shapes s f)) parts.1) [
      | inl h ↦ elim (or_cases (is_via s) (is_upper s) h) [
        | inl via ↦ g.upper a b s f p.first_is p.second_is (inl (eqb-true s.layer 11 via)) frame over.1
        | inr across ↦ g.upper a b s f p.first_is p.second_is (inr (eqb-true s.layer 12 across)) frame over.1
      ]
      | inr h ↦
          let m = and_parts (s.layer == M1) (not (is_at_pin shapes s f)) h in
          let pin = g.lower a b s f p.first_is p.second_is (eqb-true s.layer 10 m.0) frame over.1 in
          none (is_at_pin shapes s f) m.1 (at_pin s f pin over.0)
    ]
  where
    none : (x : Bool) → not x ≡ true → x ≡ true → ⊥
    none x n p = grind arith

    at_pin : (s f : Shape) → OverPin shapes s f → is_frame f ≡ true → is_at_pin shapes s f ≡ true
    at_pin s f pin frame = list_any-at (λ (q : Shape). lies_in q f && within (common s.rect f.rect) q.rect) shapes
        pin.number pin.pin pin.at
        (and_from (lies_in pin.pin f) (within (common s.rect f.rect) pin.pin.rect)
        (and_from (is_pin pin.pin && is_frame f) (within pin.pin.rect f.rect)
        (and_from (is_pin pin.pin) (is_frame f) pin.of_pin frame) pin.in_frame) pin.common)

-- G5

same_true : (y z : ℤ) → y ≡ z → int_eq y z ≡ true
same_true y z e = (Decides-int_eq y z).1 e

pub frames_kept : (shapes : List Shape) → G5 shapes → ReportsNone (FramesBroken shapes)
frames_kept shapes g a b (lt, p) =
    let s = p.first in
    let t = p.second in
    let parts = and_parts (is_frame s && is_frame t)
    (overlap s.rect t.rect
    || (meet_y s.rect t.rect && not (int_eq s.rect.y0 t.rect.y0 && int_eq s.rect.y1 t.rect.y1))) p.passes_so in
    let frames = and_parts (is_frame s) (is_frame t) parts.0 in
    let fs = eqb-true s.layer 20 frames.0 in
    let ft = eqb-true t.layer 20 frames.1 in
    elim (or_cases (overlap s.rect t.rect)
    (meet_y s.rect t.rect && not (int_eq s.rect.y0 t.rect.y0 && int_eq s.rect.y1 t.rect.y1)) parts.1) [
      | inl o ↦ let k = g.apart a b s t p.first_is p.second_is fs ft o in absurd (omega arith)
      | inr h ↦
          let m = and_parts (meet_y s.rect t.rect) (not (int_eq s.rect.y0 t.rect.y0 && int_eq s.rect.y1 t.rect.y1)) h in
          let y = and_parts (int_lt s.rect.y0 t.rect.y1) (int_lt t.rect.y0 s.rect.y1) m.0 in
          let level = g.level a b s t p.first_is p.second_is fs ft y.0 y.1 in
          none (int_eq s.rect.y0 t.rect.y0) (int_eq s.rect.y1 t.rect.y1) m.1 (same_true s.rect.y0 t.rect.y0 level.0)
          (same_true s.rect.y1 t.rect.y1 level.1)
    ]
  where
    none : (x y : Bool) → not (x && y) ≡ true → x ≡ true → y ≡ true → ⊥
    none x y n p q = grind arith

-- E5

lengths_are : (n : ℕ) (shapes : List Shape) (nets : List ℕ) → net_length shapes nets n ≡ total (weights n shapes nets)
lengths_are n [] nets = refl
lengths_are n (s ∷ ss) [] = refl
lengths_are n (s ∷ ss) (m ∷ nets) = sum_by-cons (length_in n) (s, m) (zip ss nets)
    ∙ ap (λ (k : ℕ). length_in n (s, m) + k) (lengths_are n ss nets)

pub lengths_kept : (l : LibraryView) (shapes : List Shape) → NetsShort shapes l.limit
    → ReportsNone (LengthsBroken (limits_of l) shapes)
lengths_kept l shapes short a b (p, e) =
    let n = slice_index p.nets a in
    let k = short p.nets p.are_nets n in
    let h = p.too_long in
    absurd (omega (arith, lengths_are n shapes p.nets))
