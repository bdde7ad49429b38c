use Rattle.std.proofs.Common.{◌≡◌, drop}
use Rattle.blif_flat.specs.Code.Numbering.{number_in}
use Rattle.blif_flat.specs.Code.Joining.{least_of, undefined_in}
use Rattle.blif_flat.proofs.faults.uses.outputs_told.Given as goal

abbrev pub invariant-loop-output : goal.invariant-loop-output
invariant-loop-output l = least_of l.best
    (undefined_in (number_in l.drivers.lines.entries) (drop l.output-index l.outputs)) ≡ least_of l.fn.best
    (undefined_in (number_in l.drivers.lines.entries) l.outputs)
