use Rattle.std.proofs.Common.{◌≡◌, drop}
use Rattle.std.specs.List.{list_any}
use Rattle.circuit.specs.Gates.{valuation}
use Rattle.blif_read.specs.Equations.{matches}
use Rattle.blif_read.proofs.values.cover_value.Given as goal

abbrev pub invariant-loop-cube : goal.invariant-loop-cube
invariant-loop-cube l = list_any (λ cube. matches cube.plane l.def.inputs (valuation l.values))
    (drop l.cube-index l.def.cubes) ≡ list_any
    (λ cube. matches cube.plane l.def.inputs (valuation l.values)) l.def.cubes
