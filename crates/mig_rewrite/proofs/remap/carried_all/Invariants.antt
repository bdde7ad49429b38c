use Rattle.std.proofs.Common.{◌≡◌, ◌++◌, map, drop, Some}
use Rattle.mig_rewrite.specs.Code.Cones.{carried_at}
use Rattle.mig_rewrite.proofs.remap.carried_all.Given as goal

abbrev pub invariant-loop-literal : goal.invariant-loop-literal
invariant-loop-literal l = map Some l.all.items ++ map (carried_at l.found) (drop l.literal-index l.literals) ≡ map
    (carried_at l.found) l.literals
