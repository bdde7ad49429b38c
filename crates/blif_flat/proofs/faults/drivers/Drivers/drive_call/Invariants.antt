use Rattle.std.proofs.Common.{◌≡◌, drop, filter}
use Rattle.blif_read.specs.Parts.{is_defined}
use Rattle.blif_read.specs.declared.models.Port.{Port}
use Rattle.blif_flat.specs.Designs.{names_in, actuals}
use Rattle.blif_flat.specs.Code.Joining.{drive_all, driving}
use Rattle.blif_flat.proofs.faults.drivers.Drivers.drive_call.Given as goal

abbrev pub invariant-loop-port : goal.invariant-loop-port
invariant-loop-port l = drive_all (driving l.self)
    (actuals l.call.line (filter (λ (p : Port). is_defined (names_in l.model.outputs) p.formal)
    (drop l.port-index l.port-items)))
    ≡ drive_all (driving l.fn.self)
    (actuals l.call.line (filter (λ (p : Port). is_defined (names_in l.model.outputs) p.formal) l.port-items))
