use Rattle.example_faulty_chips.proofs.CircuitsJudged.{wire_within_a_row}
use Rattle.example_faulty_chips.proofs.laws.wires_lead_up.Goals as goal

pub returns : goal.returns
returns c = wire_within_a_row
