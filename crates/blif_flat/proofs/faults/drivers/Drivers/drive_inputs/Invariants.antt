use Rattle.std.proofs.Common.{◌≡◌, drop}
use Rattle.blif_flat.specs.Code.Joining.{drive_all, driving}
use Rattle.blif_flat.proofs.faults.drivers.Drivers.drive_inputs.Given as goal

abbrev pub invariant-loop-input : goal.invariant-loop-input
invariant-loop-input l = drive_all (driving l.self) (drop l.input-index l.inputs) ≡ drive_all
    (driving l.fn.self) l.inputs
