use Rattle.gds_records.proofs.RectangleRings.{rectangle_ring, rectangle_is_ring}
use Rattle.gds_records.proofs.laws.rectangles_are_rings.Goals as goal

pub returns-clause-cut : goal.returns-clause-cut
returns-clause-cut c = rectangle_ring c.rectangle_is_cut_whole.ensures.along_x c.rectangle_is_cut_whole.ensures.along_y

pub returns-clause-ring : goal.returns-clause-ring
returns-clause-ring c =
    rectangle_is_ring (rectangle_ring c.rectangle_is_cut_whole.ensures.along_x c.rectangle_is_cut_whole.ensures.along_y)
