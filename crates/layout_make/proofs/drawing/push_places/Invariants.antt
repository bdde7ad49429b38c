use Rattle.std.proofs.Common.{◌≡◌, ◌++◌, map, drop}
use Rattle.layout_make.specs.Spots.{spots_of}
use Rattle.layout_make.specs.Code.Boxes.{place_box}
use Rattle.layout_make.proofs.drawing.push_places.Given as goal

abbrev pub invariant-loop-number : goal.invariant-loop-number
invariant-loop-number l =
    l.elements.items ++ map (place_box l.library l.kinds l.edge)
    (drop l.number (spots_of l.row.cells.now l.row.slots.now))
    ≡ l.fn.elements.items ++ map (place_box l.library l.kinds l.edge) (spots_of l.row.cells.now l.row.slots.now)
