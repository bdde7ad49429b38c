use Rattle.shape_extract.proofs.FirstCells.{first_circuit_is}
use Rattle.shape_extract.proofs.circuits.first_chip.first_chip_extracted.Goals as goal

pub returns-clause-circuit : goal.returns-clause-circuit
returns-clause-circuit c = first_circuit_is
