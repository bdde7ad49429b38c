use Rattle.std.proofs.Common.{◌≡◌, drop}
use Rattle.std.specs.List.{flat_map}
use Rattle.blif_flat.specs.Code.Joining.{least_of, call_faults}
use Rattle.blif_flat.proofs.faults.told.calls_told.Given as goal

abbrev pub invariant-loop-call : goal.invariant-loop-call
invariant-loop-call l = least_of l.best (flat_map (call_faults l.design) (drop l.call-index l.calls)) ≡ least_of
    l.fn.best (flat_map (call_faults l.design) l.calls)
