use Rattle.std.proofs.Common.{sym}
use Rattle.geom.proofs.Placing.{length-unfiled}
use Rattle.geom.proofs.index.buckets.Buckets.len.Goals as goal

pub returns : goal.returns
returns c = rw (← c.self.view_is) (sym (length-unfiled _ _))
