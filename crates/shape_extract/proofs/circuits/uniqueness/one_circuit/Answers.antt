use Rattle.shape_extract.proofs.OneCircuit.{one_circuit}
use Rattle.shape_extract.proofs.circuits.uniqueness.one_circuit.Goals as goal

pub returns : goal.returns
returns c = λ flat limits first second cells lines labels one other. one_circuit flat cells lines
    labels first second one other
