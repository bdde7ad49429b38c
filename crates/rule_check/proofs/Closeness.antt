-- Shapes that pass the tests of geometry together are close.
use Rattle.std.specs.Prelude.{◌≡◌, ℕ, ◌-◌, ◌≤◌, ◌==◌, ◌&&◌, ◌-ℤ◌, ◌+ℤ◌, pos, not, true, nat_lt, int_le}
use Rattle.std.proofs.Common.{arith}
use Rattle.std.proofs.lemmas.Bool.{and_parts, and_from}
use Rattle.std.proofs.lemmas.Bool.Decides.{nat_tests}
use Rattle.std.proofs.lemmas.Int.{ints}
use Rattle.geom.specs.declared.shapes.Shape.{Shape}
use Rattle.geom.specs.Near.{IsClose}
use Rattle.geom.specs.Rectangle.{Rectangle, IsProper, gap_x, gap_y, share_point, within, grown, overlap}
use Rattle.layout_rules.specs.Layers.{is_frame}
use Rattle.layout_rules.specs.GeometryRules.{are_of_one_group, are_too_close}
use Rattle.shape_extract.proofs.Sharing.{sharing_close, within_shares, overlap_shares}
use Rattle.rule_check.specs.Code.Close.{encloses}
use Rattle.rule_check.specs.Code.Bands.{frames_overlap}

-- a gap of less than the least distance is at most that distance less 1 nanometre
less : (g space : ℕ) → nat_lt g space ≡ true → g ≤ space - 1
less g space h = grind (arith, nat_tests)

-- shapes that break the spacing rule are near each other: their gaps are below the least distance
pub too_close : (space : ℕ) (a b : Shape) → are_too_close space a b ≡ true → IsClose a.rect b.rect (space - 1)
too_close space a b h =
    let gaps = and_parts (nat_lt (gap_x a.rect b.rect) space) (nat_lt (gap_y a.rect b.rect) space)
    (and_parts (are_of_one_group a b && not (share_point a.rect b.rect))
    (nat_lt (gap_x a.rect b.rect) space && nat_lt (gap_y a.rect b.rect) space) h).1 in
    record { in_x = less (gap_x a.rect b.rect) space gaps.0; in_y = less (gap_y a.rect b.rect) space gaps.1 }

-- what contains a rectangle with a margin contains it
ungrown : (margin : ℕ) (a b : Rectangle) → within (grown margin a) b ≡ true → within a b ≡ true
ungrown margin a b h =
    let p = and_parts (int_le b.x0 (a.x0 -ℤ pos margin) && int_le (a.x1 +ℤ pos margin) b.x1)
    (int_le b.y0 (a.y0 -ℤ pos margin) && int_le (a.y1 +ℤ pos margin) b.y1) h in
    let x = and_parts (int_le b.x0 (a.x0 -ℤ pos margin)) (int_le (a.x1 +ℤ pos margin) b.x1) p.0 in
    let y = and_parts (int_le b.y0 (a.y0 -ℤ pos margin)) (int_le (a.y1 +ℤ pos margin) b.y1) p.1 in
    and_from (int_le b.x0 a.x0 && int_le a.x1 b.x1) (int_le b.y0 a.y0 && int_le a.y1 b.y1)
    (and_from (int_le b.x0 a.x0) (int_le a.x1 b.x1) (grind (arith, ints, x.0)) (grind (arith, ints, x.1)))
    (and_from (int_le b.y0 a.y0) (int_le a.y1 b.y1) (grind (arith, ints, y.0)) (grind (arith, ints, y.1)))

-- a shape that encloses another with a margin, as metal does a via, is at distance 0 from it
pub encloses_close : (layer margin : ℕ) (a b : Shape) → IsProper a.rect → encloses layer margin a b ≡ true
    → IsClose a.rect b.rect 0
encloses_close layer margin a b proper h = sharing_close a.rect b.rect
    (within_shares a.rect b.rect proper
    (ungrown margin a.rect b.rect (and_parts (b.layer == layer) (within (grown margin a.rect) b.rect) h).1))

-- frames that overlap are at distance 0, so that a query of the index finds them
pub overlap_close : (a b : Shape) → frames_overlap a b ≡ true → IsClose a.rect b.rect 0
overlap_close a b h = sharing_close a.rect b.rect
    (overlap_shares a.rect b.rect (and_parts (is_frame a && is_frame b) (overlap a.rect b.rect) h).1)
