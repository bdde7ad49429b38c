use Rattle.std.proofs.Common.{◌<◌, ◌≤◌, ◌^◌}
use Rattle.geom.proofs.index.survey.lay_out.Given as goal

abbrev pub invariant-loop : goal.invariant-loop
invariant-loop l = record {
  some_columns : 0 < l.columns;
  some_rows : 0 < l.rows;
  few_columns : l.columns ≤ 2 ^ 16;
  few_rows : l.rows ≤ 2 ^ 11;
  short_x : l.shift_x < 64;
  short_y : l.shift_y < 64;
}
