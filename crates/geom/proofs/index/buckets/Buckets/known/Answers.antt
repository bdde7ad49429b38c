use Rattle.geom.proofs.index.buckets.Buckets.known.Goals as goal

pub returns : goal.returns
returns c = rw (← c.self.view_is) c.self.invariant.placed.proper
