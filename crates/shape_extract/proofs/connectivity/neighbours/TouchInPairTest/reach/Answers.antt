use Rattle.shape_extract.specs.Planes.{in_plane}
use Rattle.shape_extract.proofs.Sharing.{touch_in_close}
use Rattle.shape_extract.proofs.connectivity.neighbours.TouchInPairTest.reach.Goals as goal

pub returns-clause-close : goal.returns-clause-close
returns-clause-close c = λ a b p q h. touch_in_close (in_plane c.args.self.now.plane b) a b h
