use Rattle.std.proofs.Common.{◌≡◌, map, take}
use Rattle.blif_flat.specs.Code.Calls.{call_def}
use Rattle.blif_flat.proofs.models.calls.call_defs.Given as goal

abbrev pub invariant-loop-model : goal.invariant-loop-model
invariant-loop-model l = l.defs ≡ map (call_def l.models) (take l.model-index l.models)
