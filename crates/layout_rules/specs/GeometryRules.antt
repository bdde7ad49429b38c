-- The rules of geometry: sizes, spacing, enclosure of vias, metal over cells, and cells beside each other, as design
-- rules of planar processes have them.
use Rattle.std.specs.Prelude.{ℕ, ◌<◌, ◌==◌, ◌&&◌, ◌||◌, not, Bool, List, nat_lt}
use Rattle.std.specs.List.{list_any}
use Rattle.std.specs.Ordering.{int_eq}
use Rattle.geom.specs.declared.shapes.Shape.{Shape}
use Rattle.geom.specs.Rectangle.{Rectangle, width, height, gap_x, gap_y, share_point, within, overlap, meet_y, grown}
use Rattle.geom.specs.Rectangle.{common}
use Rattle.layout_rules.specs.declared.layers.TheConstants.{M1, M2}
use Rattle.layout_rules.specs.Layers.{is_frame, is_pin, is_via, is_metal, is_lower, is_upper}
use Rattle.layout_rules.specs.Limits.{Limits}
use Rattle.layout_rules.specs.Pins.{lies_in}
use Rattle.layout_rules.specs.Reports.{Alone, Passes, PassTogether}

-- narrower than the first number or lower than the second
abbrev pub is_below : ℕ → ℕ → Rectangle → Bool
is_below least_width least_height r = nat_lt (width r) least_width || nat_lt (height r) least_height

-- metal, a via or a pin that is too small
abbrev pub is_too_small : Limits → Shape → Bool
is_too_small limits s = (is_metal s && is_below limits.wire limits.wire s.rect)
    || (is_via s && is_below limits.via limits.via s.rect)
    || (is_pin s && is_below limits.wire limits.pin s.rect)

-- a shape that is too small
abbrev pub SizesBroken : Limits → List Shape → ℕ → ℕ → Type 0
SizesBroken limits shapes = Alone (Passes (is_too_small limits) shapes)

-- shapes that must keep their distance where they don't share a point
abbrev pub are_of_one_group : Shape → Shape → Bool
are_of_one_group a b = (is_lower a && is_lower b) || (is_via a && is_via b) || (is_upper a && is_upper b)

-- such shapes, without a common point, that are nearer to each other than this in x and in y
abbrev pub are_too_close : ℕ → Shape → Shape → Bool
are_too_close space a b = are_of_one_group a b && not (share_point a.rect b.rect)
    && (nat_lt (gap_x a.rect b.rect) space && nat_lt (gap_y a.rect b.rect) space)

-- two shapes that are too close; the lesser number is reported first
abbrev pub SpacingBroken : Limits → List Shape → ℕ → ℕ → Type 0
SpacingBroken limits shapes a b = (a < b) × PassTogether (are_too_close limits.space) shapes a b

-- some shape of the layer contains the rectangle
abbrev pub is_covered : List Shape → ℕ → Rectangle → Bool
is_covered shapes layer r = list_any (λ s. s.layer == layer && within r s.rect) shapes

-- a via whose margin is not within one shape of each metal
abbrev pub is_bare : Limits → List Shape → Shape → Bool
is_bare limits shapes v = is_via v
    && not (is_covered shapes M1 (grown limits.enclose v.rect) && is_covered shapes M2 (grown limits.enclose v.rect))

-- a via that is bare
abbrev pub EnclosureBroken : Limits → List Shape → ℕ → ℕ → Type 0
EnclosureBroken limits shapes = Alone (Passes (is_bare limits shapes) shapes)

-- a pin of the frame holds all that the metal has in common with the frame
abbrev pub is_at_pin : List Shape → Shape → Shape → Bool
is_at_pin shapes metal frame =
    list_any (λ pin. lies_in pin frame && within (common metal.rect frame.rect) pin.rect) shapes

-- over a frame lie no via and no upper metal, and lower metal only at a pin
abbrev pub trespasses : List Shape → Shape → Shape → Bool
trespasses shapes s frame = is_frame frame && overlap s.rect frame.rect
    && (is_via s || is_upper s || (s.layer == M1 && not (is_at_pin shapes s frame)))

-- a shape, and a frame over which it must not lie
abbrev pub CoverBroken : List Shape → ℕ → ℕ → Type 0
CoverBroken shapes = PassTogether (trespasses shapes) shapes

-- frames that overlap, or whose heights meet though they don't stand in one row
abbrev pub collide : Shape → Shape → Bool
collide a b = is_frame a && is_frame b
    && (overlap a.rect b.rect
    || (meet_y a.rect b.rect && not (int_eq a.rect.y0 b.rect.y0 && int_eq a.rect.y1 b.rect.y1)))

-- two frames that collide; the lesser number is reported first
abbrev pub FramesBroken : List Shape → ℕ → ℕ → Type 0
FramesBroken shapes a b = (a < b) × PassTogether collide shapes a b
