use Rattle.std.proofs.Common.{◌≡◌, drop, filter}
use Rattle.blif_read.specs.Parts.{is_defined}
use Rattle.blif_read.specs.declared.models.Port.{Port}
use Rattle.blif_flat.specs.Designs.{names_in, actuals}
use Rattle.blif_flat.specs.Code.Numbering.{number_in}
use Rattle.blif_flat.specs.Code.Joining.{least_of, undefined_in}
use Rattle.blif_flat.proofs.faults.uses.call_told.Given as goal

abbrev pub invariant-loop-port : goal.invariant-loop-port
invariant-loop-port l = least_of l.best
    (undefined_in (number_in l.drivers.lines.entries)
    (actuals l.call.line (filter (λ (p : Port). is_defined (names_in l.model.inputs) p.formal)
    (drop l.port-index l.port-items))))
    ≡ least_of l.fn.best (undefined_in (number_in l.drivers.lines.entries)
    (actuals l.call.line (filter (λ (p : Port). is_defined (names_in l.model.inputs) p.formal) l.port-items)))
