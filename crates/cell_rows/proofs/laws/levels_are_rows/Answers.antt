use Rattle.std.proofs.Common.{arith}
use Rattle.cell_rows.proofs.Rows.{level_low, row_some, rows_few}
use Rattle.cell_rows.proofs.laws.levels_are_rows.Goals as goal

pub returns : goal.returns
returns c = record {
  low = λ d levels last j known lt name. level_low known j (record { below = lt; no_name = name });
  some = λ d levels last r known le. row_some known r le;
  few = λ d levels last known. let few = rows_few known in omega (arith, few);
}
