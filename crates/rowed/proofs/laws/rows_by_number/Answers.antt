use Rattle.rowed.proofs.NumberedRows.{placed_long, row_there}
use Rattle.rowed.proofs.laws.rows_by_number.Goals as goal

pub returns : goal.returns
returns c = record { count = placed_long; row = λ p k known lt. row_there p known k lt }
