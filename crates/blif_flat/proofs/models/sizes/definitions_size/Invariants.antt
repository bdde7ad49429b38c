use Rattle.std.proofs.Common.{◌≡◌, take}
use Rattle.std.specs.List.{sum_by}
use Rattle.blif_flat.specs.DesignSize.{definition_size}
use Rattle.blif_flat.specs.Code.Sizes.{told}
use Rattle.blif_flat.proofs.models.sizes.definitions_size.Given as goal

abbrev pub invariant-loop-def : goal.invariant-loop-def
invariant-loop-def l = l.size ≡ told (sum_by definition_size (take l.def-index l.defs))
