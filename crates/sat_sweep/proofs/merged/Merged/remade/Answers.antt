use Rattle.sat_sweep.proofs.Merging.{known_later}
use Rattle.sat_sweep.proofs.merged.Merged.remade.Goals as goal

pub invariant_of-self : goal.invariant_of-self
invariant_of-self c =
    known_later c.self.inside.builder c.maj.new.self c.self.inside.representatives.items c.self.inside.clauses.items
    c.maj.ensures.grown c.self.invariant
