use Rattle.shape_extract.proofs.CircuitExists.{some_circuit}
use Rattle.shape_extract.proofs.circuits.kept_laws.some_circuit.Goals as goal

pub returns : goal.returns
returns c = some_circuit
