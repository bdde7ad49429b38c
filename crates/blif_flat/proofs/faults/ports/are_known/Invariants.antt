use Rattle.std.proofs.Common.{◌≡◌, ◌++◌, drop}
use Rattle.std.specs.List.{list_all}
use Rattle.blif_read.specs.Parts.{is_defined}
use Rattle.blif_flat.specs.Designs.{names_in}
use Rattle.blif_flat.proofs.faults.ports.are_known.Given as goal

abbrev pub invariant-loop-port : goal.invariant-loop-port
invariant-loop-port l = list_all (λ p. is_defined (names_in l.model.inputs ++ names_in l.model.outputs) p.formal)
    (drop l.port-index l.ports) ≡ list_all
    (λ p. is_defined (names_in l.model.inputs ++ names_in l.model.outputs) p.formal) l.ports
