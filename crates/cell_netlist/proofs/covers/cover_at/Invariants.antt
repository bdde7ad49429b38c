use Rattle.std.proofs.Common.{◌≡◌, drop}
use Rattle.std.specs.List.{list_any}
use Rattle.cell_netlist.specs.Code.Covers.{takes_each}
use Rattle.cell_netlist.proofs.covers.cover_at.Given as goal

abbrev pub invariant-loop-cube : goal.invariant-loop-cube
invariant-loop-cube l =
    list_any (λ cube. takes_each cube.plane l.values) (drop l.cube-index l.def.cubes)
    ≡ list_any (λ cube. takes_each cube.plane l.values) l.def.cubes
