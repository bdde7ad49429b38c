use Rattle.circuit_extracted.proofs.FirstFacts.{kept_facts}
use Rattle.circuit_extracted.proofs.first_circuit.first_circuit_keeps.Goals as goal

pub returns : goal.returns
returns c = kept_facts
