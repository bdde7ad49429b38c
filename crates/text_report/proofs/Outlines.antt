-- A rectangle that holds two.
use Rattle.std.proofs.Common.{◌≡◌, ap, ◌∙◌, arith, ℤ}
use Rattle.std.specs.Prelude.{◌<ℤ◌}
use Rattle.std.specs.Int.{int_min, int_max}
use Rattle.std.proofs.lemmas.Int.{ints, clamps}
use Rattle.geom.specs.Rectangle.{Rectangle, IsProper}
use Rattle.text_report.specs.Outline.{joined}

wider : (a0 a1 b0 b1 : ℤ) → a0 <ℤ a1 → int_min a0 b0 <ℤ int_max a1 b1
wider a0 a1 b0 b1 h = omega (arith, ints, clamps)

pub joined_proper : (a b : Rectangle) → IsProper a → IsProper (joined a b)
joined_proper a b proper = record {
  wide = wider a.x0 a.x1 b.x0 b.x1 proper.wide;
  high = wider a.y0 a.y1 b.y0 b.y1 proper.high;
}

pub rectangle_is : (r s : Rectangle) → r.x0 ≡ s.x0 → r.y0 ≡ s.y0 → r.x1 ≡ s.x1 → r.y1 ≡ s.y1 → r ≡ s
rectangle_is r s x0 y0 x1 y1 =
    ap (λ (v : ℤ). let t : Rectangle = record { x0 = v; y0 = r.y0; x1 = r.x1; y1 = r.y1 } in t) x0
    ∙ (ap (λ (v : ℤ). let t : Rectangle = record { x0 = s.x0; y0 = v; x1 = r.x1; y1 = r.y1 } in t) y0
    ∙ (ap (λ (v : ℤ). let t : Rectangle = record { x0 = s.x0; y0 = s.y0; x1 = v; y1 = r.y1 } in t) x1
    ∙ ap (λ (v : ℤ). let t : Rectangle = record { x0 = s.x0; y0 = s.y0; x1 = s.x1; y1 = v } in t) y1))
