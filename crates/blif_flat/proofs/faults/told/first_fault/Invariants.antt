use Rattle.std.proofs.Common.{◌≡◌, drop, None}
use Rattle.blif_flat.specs.Code.Joining.{least_of, twice_named, told_in}
use Rattle.blif_flat.proofs.faults.told.first_fault.Given as goal

abbrev pub invariant-loop-model : goal.invariant-loop-model
invariant-loop-model l = told_in l.models l.best (drop l.model-index l.models) ≡ told_in l.models
    (least_of None (twice_named l.models 0 l.models)) l.models
