use Rattle.cell_rows.proofs.Netted.{row_net}
use Rattle.cell_rows.proofs.Answered.{same_answers}
use Rattle.cell_rows.proofs.laws.rows_of_cells.Goals as goal

pub returns : goal.returns
returns c d levels last known = record { rows_keep = row_net known; same = same_answers known }
