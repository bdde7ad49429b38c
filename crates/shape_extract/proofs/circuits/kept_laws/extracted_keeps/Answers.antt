use Rattle.layout_rules.proofs.RowsExist.{some_rows}
use Rattle.shape_extract.proofs.KeptFacts.{keeps_facts}
use Rattle.shape_extract.proofs.circuits.kept_laws.extracted_keeps.Goals as goal

pub returns : goal.returns
returns c = λ flat circuit few few_cells five is.
    let rows = some_rows flat.shapes in
    keeps_facts flat five rows.0 rows.1 circuit is few few_cells
