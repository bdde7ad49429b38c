use Rattle.text_report.proofs.AddedWires.{added_wires}
use Rattle.text_report.proofs.laws.wires_add_up.Goals as goal

pub returns : goal.returns
returns c = λ flat circuit limits is kept. added_wires flat circuit limits is kept
