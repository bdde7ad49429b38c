use Rattle.std.proofs.Common.{◌≡◌, ◌++◌, map, take, drop}
use Rattle.blif_read.specs.Faults.{adds_again}
use Rattle.blif_read.specs.Code.Seen.{texts}
use Rattle.blif_flat.proofs.faults.ports.add_formals.Given as goal

abbrev pub invariant-loop-port : goal.invariant-loop-port
invariant-loop-port l = (texts l.formals.keys ≡ texts l.fn.formals.keys ++ map (λ p. p.formal)
    (take l.port-index l.ports))
    × (adds_again (texts l.formals.keys) (map (λ p. p.formal) (drop l.port-index l.ports)) ≡ adds_again
    (texts l.fn.formals.keys) (map (λ p. p.formal) l.ports))
