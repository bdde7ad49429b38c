use Rattle.std.proofs.Common.{◌≡◌, drop}
use Rattle.maj_mapping.specs.Values.{some_takes}
use Rattle.maj_mapping.proofs.cover.cover.Given as goal

abbrev pub invariant-loop-cube : goal.invariant-loop-cube
invariant-loop-cube l = some_takes (drop l.cube-index l.def.cubes) l.values ≡ some_takes l.def.cubes l.values
