use Rattle.std.proofs.Common.{◌≡◌, drop}
use Rattle.std.specs.List.{list_any}
use Rattle.layout_make.specs.Draw.{row_has}
use Rattle.layout_make.proofs.structures.uses.Given as goal

abbrev pub invariant-loop-row : goal.invariant-loop-row
invariant-loop-row l = list_any (row_has l.kind) (drop l.row-index l.placed.net.rows) ≡ list_any (row_has l.kind)
    l.placed.net.rows
