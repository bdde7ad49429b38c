use Rattle.std.proofs.Common.{◌≡◌, drop}
use Rattle.std.specs.List.{flat_map}
use Rattle.blif_flat.specs.Designs.{actuals, input_ports}
use Rattle.blif_flat.specs.Code.Numbering.{number_in}
use Rattle.blif_flat.specs.Code.Joining.{least_of, undefined_in}
use Rattle.blif_flat.proofs.faults.uses.calls_told.Given as goal

abbrev pub invariant-loop-call : goal.invariant-loop-call
invariant-loop-call l = least_of l.best
    (undefined_in (number_in l.drivers.lines.entries)
    (flat_map (λ c. actuals c.line (input_ports l.design c)) (drop l.call-index l.calls)))
    ≡ least_of l.fn.best (undefined_in (number_in l.drivers.lines.entries)
    (flat_map (λ c. actuals c.line (input_ports l.design c)) l.calls))
