use Rattle.blif_flat.proofs.models.outlines.ModelPlaces.place.Goals as goal

pub returns : goal.returns
returns c = rw (← c.self.view_is) (c.place_of.ensures _ c.self.invariant)
