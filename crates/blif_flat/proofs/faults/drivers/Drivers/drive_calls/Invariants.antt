use Rattle.std.proofs.Common.{◌≡◌, drop}
use Rattle.std.specs.List.{flat_map}
use Rattle.blif_flat.specs.Designs.{actuals, output_ports}
use Rattle.blif_flat.specs.Code.Joining.{drive_all, driving}
use Rattle.blif_flat.proofs.faults.drivers.Drivers.drive_calls.Given as goal

abbrev pub invariant-loop-call : goal.invariant-loop-call
invariant-loop-call l = drive_all (driving l.self)
    (flat_map (λ c. actuals c.line (output_ports l.design c)) (drop l.call-index l.calls)) ≡ drive_all
    (driving l.fn.self) (flat_map (λ c. actuals c.line (output_ports l.design c)) l.calls)
