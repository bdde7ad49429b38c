use Rattle.std.proofs.Common.{◌≡◌, ◌++◌, map, drop}
use Rattle.layout_make.specs.Draw.{cell_structure}
use Rattle.layout_make.proofs.drawing.kind_structures.Given as goal

abbrev pub invariant-loop-kind : goal.invariant-loop-kind
invariant-loop-kind l = l.structures.items ++ map (cell_structure l.library) (drop l.kind-index l.kinds) ≡ map
    (cell_structure l.library) l.kinds
