use Rattle.shape_extract.proofs.CellPlaces.{some_places, one_places, in_turn, none_past}
use Rattle.shape_extract.proofs.circuits.cell_places.cells_have_places.Goals as goal

pub returns-clause-some : goal.returns-clause-some
returns-clause-some c = λ flat circuit is. some_places flat circuit is (c.one_place.ensures.placed flat.shapes)

pub returns-clause-once : goal.returns-clause-once
returns-clause-once c = λ flat limits near far other_near other_far kept p q cell.
    one_places flat.shapes kept (c.one_place.ensures.once flat.shapes) near far other_near other_far p q cell

pub returns-clause-spans : goal.returns-clause-spans
returns-clause-spans c = λ flat near far places cell. in_turn flat.shapes near far places cell

pub returns-clause-no_more : goal.returns-clause-no_more
returns-clause-no_more c = λ flat circuit near far is places cell le. none_past flat circuit is near far places cell le
