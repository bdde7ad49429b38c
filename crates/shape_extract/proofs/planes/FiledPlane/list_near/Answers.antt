use Rattle.shape_extract.proofs.InPlanes.{near_in_plane}
use Rattle.shape_extract.proofs.planes.FiledPlane.list_near.Goals as goal

pub returns : goal.returns
returns c = λ plane shapes is.
    near_in_plane plane shapes c.args.self.now is c.args.rect.now c.args.margin c.list_near.new.found.items
    c.name_places.new.found.items
    c.in_ok-list_near.ensures (rw c.as_slice.ensures.value at c.name_places.ensures) c.known.ensures
