use Rattle.std.proofs.Common.{arith, subst, [], ◌∷◌}
use Rattle.std.proofs.lemmas.Bool.{eqb-true}
use Rattle.mig_rewrite.specs.Code.Cones.{Computes}
use Rattle.mig_rewrite.proofs.remap.agrees.Goals as goal

pub returns-in-Some : goal.returns-in-Some
returns-in-Some c = λ yes. record {
  idle = c.args.idle.first ∷ c.args.idle.second ∷ c.args.idle.third ∷ [];
  few = omega arith;
  computes = subst
      (λ t. Computes c.args.graph.now
      (c.args.leaves.first ∷ c.args.leaves.second ∷ c.args.leaves.third
      ∷ c.args.idle.first ∷ c.args.idle.second ∷ c.args.idle.third ∷ []) c.args.node t)
      (eqb-true c.in-Some.found c.args.table yes) c.in-Some.ensures;
}
