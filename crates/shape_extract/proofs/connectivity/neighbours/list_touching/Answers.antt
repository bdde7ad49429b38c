use Rattle.shape_extract.proofs.InPlanes.{touching_from}
use Rattle.shape_extract.proofs.connectivity.neighbours.list_touching.Goals as goal

pub returns : goal.returns
returns c =
    rw (
      c.in_ok-extend_from_slice-2.ensures.items,
      c.in_ok-extend_from_slice.ensures.items,
      c.as_slice.ensures.value,
      c.as_slice-2.ensures.value,
    )
    (touching_from c.args.kinds.now c.args.from c.get-shape.result.now c.get-shape.ensures
    c.list_touching_in.new.found.items
    c.list_touching_in-2.new.found.items c.list_touching_in-3.new.found.items
    (rw c.meets_lower-lower.ensures at c.in_ok-list_touching_in.ensures)
    (rw c.meets_vias-vias.ensures at c.in_ok-list_touching_in-2.ensures)
    (rw c.meets_upper-upper.ensures at c.in_ok-list_touching_in-3.ensures))
