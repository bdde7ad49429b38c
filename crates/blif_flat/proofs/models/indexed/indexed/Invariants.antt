use Rattle.std.proofs.Common.{◌≡◌, take}
use Rattle.blif_flat.proofs.models.indexed.indexed.Given as goal

abbrev pub invariant-loop-model : goal.invariant-loop-model
invariant-loop-model l = l.indexed.items ≡ take l.model-index l.models
