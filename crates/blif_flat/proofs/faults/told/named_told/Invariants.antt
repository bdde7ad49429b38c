use Rattle.std.proofs.Common.{◌≡◌, drop, None}
use Rattle.blif_flat.specs.Code.Joining.{least_of, twice_named}
use Rattle.blif_flat.proofs.faults.told.named_told.Given as goal

abbrev pub invariant-loop-number : goal.invariant-loop-number
invariant-loop-number l = least_of l.best (twice_named l.design l.number (drop l.number l.models)) ≡ least_of None
    (twice_named l.design 0 l.models)
