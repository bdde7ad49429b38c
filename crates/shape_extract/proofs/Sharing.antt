-- Shapes that pass the tests of extraction together share a point, so that a query of the index finds them.
use Rattle.std.specs.Prelude.{◌≡◌, ◌≤◌, ◌==◌, ◌&&◌, Bool, true, int_le, int_lt}
use Rattle.std.proofs.Common.{◌∙◌, arith}
use Rattle.std.proofs.lemmas.Bool.{and_parts, and_from}
use Rattle.std.proofs.lemmas.Int.{ints}
use Rattle.geom.specs.declared.shapes.Shape.{Shape}
use Rattle.geom.specs.Near.{IsClose}
use Rattle.geom.specs.Rectangle.{Rectangle, IsProper, gap_x, gap_y, share_x, share_y, share_point}
use Rattle.geom.specs.Rectangle.{within, overlap, meet_x, meet_y}
use Rattle.layout_rules.specs.Layers.{is_frame, is_line, is_pin}
use Rattle.layout_rules.specs.Pins.{lies_in}
use Rattle.layout_rules.specs.Touch.{conducts, touch}
use Rattle.layout_rules.specs.ExcitationLines.{meet}
use Rattle.layout_rules.proofs.NetLaws.{share_point_comm}
use Rattle.shape_extract.specs.Code.Cells.{holds_pin}
use Rattle.shape_extract.specs.Code.Lines.{lies_over}

-- rectangles whose extents in x share a coordinate have no gap in x
share_x-gap : (a b : Rectangle) → share_x a b ≡ true → gap_x a b ≤ 0
share_x-gap a b e = (let h = and_parts (int_le a.x0 b.x1) (int_le b.x0 a.x1) e in grind (arith, ints, h.0, h.1))

-- rectangles whose extents in y share a coordinate have no gap in y
share_y-gap : (a b : Rectangle) → share_y a b ≡ true → gap_y a b ≤ 0
share_y-gap a b e = (let h = and_parts (int_le a.y0 b.y1) (int_le b.y0 a.y1) e in grind (arith, ints, h.0, h.1))

-- between shapes that share a point there is no gap
pub sharing_close : (a b : Rectangle) → share_point a b ≡ true → IsClose a b 0
sharing_close a b e =
    let h = and_parts (share_x a b) (share_y a b) e in
    record { in_x = share_x-gap a b h.0; in_y = share_y-gap a b h.1 }

-- shapes that touch, as extraction takes electrical contact, are at distance 0 in x and in y
pub touch_close : (a b : Shape) → touch a b ≡ true → IsClose a.rect b.rect 0
touch_close a b h = sharing_close a.rect b.rect (and_parts (conducts a b) (share_point a.rect b.rect) h).1

-- the same of shapes that touch and keep a further condition, as that the second is in a given plane
pub touch_in_close : (in_it : Bool) (a b : Shape) → (in_it && touch a b) ≡ true → IsClose a.rect b.rect 0
touch_in_close in_it a b h = touch_close a b (and_parts in_it (touch a b) h).1

-- parts of excitation lines on one layer that meet are at distance 0
pub meet_close : (a b : Shape) → meet a b ≡ true → IsClose a.rect b.rect 0
meet_close a b h =
    sharing_close a.rect b.rect (and_parts (is_line a && a.layer == b.layer) (share_point a.rect b.rect) h).1

-- extents in x that overlap in more than an edge share a coordinate
overlap_x : (a b : Rectangle) → meet_x a b ≡ true → share_x a b ≡ true
overlap_x a b h =
    let p = and_parts (int_lt a.x0 b.x1) (int_lt b.x0 a.x1) h in
    and_from (int_le a.x0 b.x1) (int_le b.x0 a.x1) (grind (arith, ints, p.0)) (grind (arith, ints, p.1))

-- extents in y that overlap in more than an edge share a coordinate
overlap_y : (a b : Rectangle) → meet_y a b ≡ true → share_y a b ≡ true
overlap_y a b h =
    let p = and_parts (int_lt a.y0 b.y1) (int_lt b.y0 a.y1) h in
    and_from (int_le a.y0 b.y1) (int_le b.y0 a.y1) (grind (arith, ints, p.0)) (grind (arith, ints, p.1))

-- rectangles with a common area share a point
pub overlap_shares : (a b : Rectangle) → overlap a b ≡ true → share_point a b ≡ true
overlap_shares a b h =
    let p = and_parts (meet_x a b) (meet_y a b) h in
    and_from (share_x a b) (share_y a b) (overlap_x a b p.0) (overlap_y a b p.1)

-- a rectangle of positive width and height shares a point with each that contains it
pub within_shares : (a b : Rectangle) → IsProper a → within a b ≡ true → share_point a b ≡ true
within_shares a b proper h =
    let p = and_parts (int_le b.x0 a.x0 && int_le a.x1 b.x1) (int_le b.y0 a.y0 && int_le a.y1 b.y1) h in
    let x = and_parts (int_le b.x0 a.x0) (int_le a.x1 b.x1) p.0 in
    let y = and_parts (int_le b.y0 a.y0) (int_le a.y1 b.y1) p.1 in
    and_from (share_x a b) (share_y a b)
    (and_from (int_le a.x0 b.x1) (int_le b.x0 a.x1)
    (grind (arith, ints, x.0, x.1, proper.wide)) (grind (arith, ints, x.0, x.1, proper.wide)))
    (and_from (int_le a.y0 b.y1) (int_le b.y0 a.y1)
    (grind (arith, ints, y.0, y.1, proper.high)) (grind (arith, ints, y.0, y.1, proper.high)))

-- a pin shares a point with the frame of the cell in which it lies
pub pin_shares : (pin frame : Shape) → IsProper pin.rect → lies_in pin frame ≡ true
    → share_point pin.rect frame.rect ≡ true
pin_shares pin frame proper h =
    let inside = (and_parts (is_pin pin && is_frame frame) (within pin.rect frame.rect) h).1 in
    within_shares pin.rect frame.rect proper inside

-- a pin is at distance 0 from the frame in which it lies: a query at the pin finds the frame
pub pin_close : (pin frame : Shape) → IsProper pin.rect → lies_in pin frame ≡ true → IsClose pin.rect frame.rect 0
pin_close pin frame proper h = sharing_close pin.rect frame.rect (pin_shares pin frame proper h)

-- a frame is at distance 0 from each pin that it holds: a query at the frame finds the pin
pub frame_close : (frame pin : Shape) → IsProper pin.rect → holds_pin frame pin ≡ true → IsClose frame.rect pin.rect 0
frame_close frame pin proper h =
    sharing_close frame.rect pin.rect (share_point_comm frame.rect pin.rect ∙ pin_shares pin frame proper h)

-- a frame is at distance 0 from each part of an excitation line that lies over it
pub over_close : (frame part : Shape) → lies_over frame part ≡ true → IsClose frame.rect part.rect 0
over_close frame part h =
    let over = (and_parts (is_line part) (overlap part.rect frame.rect) h).1 in
    let point = overlap_shares part.rect frame.rect over in
    sharing_close frame.rect part.rect (share_point_comm frame.rect part.rect ∙ point)
