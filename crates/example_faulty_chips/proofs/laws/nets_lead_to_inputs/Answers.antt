use Rattle.example_faulty_chips.proofs.CircuitsJudged.{joined_outputs, joined_inputs, cut_wire, labelled_wire}
use Rattle.example_faulty_chips.proofs.laws.nets_lead_to_inputs.Goals as goal

pub returns-clause-outputs : goal.returns-clause-outputs
returns-clause-outputs c = joined_outputs

pub returns-clause-inputs : goal.returns-clause-inputs
returns-clause-inputs c = joined_inputs

pub returns-clause-cut : goal.returns-clause-cut
returns-clause-cut c = cut_wire

pub returns-clause-labelled : goal.returns-clause-labelled
returns-clause-labelled c = labelled_wire
