use Rattle.std.proofs.Common.{◌≡◌, map, take}
use Rattle.blif_flat.specs.Code.Joins.{ports_for}
use Rattle.blif_flat.proofs.models.joins.ports_for.Given as goal

abbrev pub invariant-loop-number : goal.invariant-loop-number
invariant-loop-number l = l.ports.items ≡ ports_for l.names
    (map (λ p. p.formal) (take l.number l.call.ports))
