use Rattle.layout_rules.proofs.RowLaws.{row_of-certified, row_count-certified}
use Rattle.layout_rules.proofs.laws.rising_edges_are_rows.Goals as goal

pub returns-clause-row : goal.returns-clause-row
returns-clause-row c = λ shapes edges r y rows at. row_of-certified shapes edges rows r y at

pub returns-clause-count : goal.returns-clause-count
returns-clause-count c = row_count-certified
