use Rattle.union_find.proofs.Bounds.{some_heights}
use Rattle.union_find.proofs.heights.Heights.known.Goals as goal

pub returns : goal.returns
returns c = rw (← c.self.view_is) (some_heights _ c.self.invariant.known)
