use Rattle.std.proofs.Common.{◌≡◌, ◌+◌, length, take}
use Rattle.std.specs.List.{sum_by}
use Rattle.blif_flat.specs.Code.Sizes.{told}
use Rattle.blif_flat.proofs.models.sizes.definition_size.Given as goal

abbrev pub invariant-loop-cube : goal.invariant-loop-cube
invariant-loop-cube l = l.size ≡ told
    (1 + length l.def.inputs + length l.def.cubes + sum_by (λ c. length c.plane) (take l.cube-index l.def.cubes))
