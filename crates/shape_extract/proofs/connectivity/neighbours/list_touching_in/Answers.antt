use Rattle.shape_extract.proofs.InPlanes.{none_wanted}
use Rattle.shape_extract.proofs.connectivity.neighbours.list_touching_in.Goals as goal

pub returns : goal.returns
returns c = rw c.if-wanted.false (none_wanted c.args.plane c.args.from.now c.args.kinds.now c.clear.new.self.items
    c.clear.ensures.items)
