use Rattle.std.proofs.Common.{◌≡◌, ◌++◌}
use Rattle.poly_cut.specs.Turns.{row_points}
use Rattle.poly_cut.specs.Code.Strides.{IsRow}
use Rattle.poly_cut.proofs.grids.push_row.Given as goal

abbrev pub invariant-columns : goal.invariant-columns
invariant-columns l = record {
  whole : l.points.items ++ row_points l.left l.step l.at ≡ l.initial.points.items
      ++ row_points l.columns l.step l.start;
  row : IsRow l.left l.step l.at;
}

abbrev pub decreases-columns : goal.decreases-columns
decreases-columns l = l.left
