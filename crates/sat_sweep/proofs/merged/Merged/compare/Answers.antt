use Rattle.sat_sweep.proofs.merged.Merged.compare.Goals as goal

pub invariant_of-self : goal.invariant_of-self
invariant_of-self c = record {
  are_merged = c.self.invariant.are_merged;
  are_clauses = c.compare_literals.ensures.clauses;
}
