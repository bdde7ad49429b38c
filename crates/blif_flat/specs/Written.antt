-- What the text of a circuit says: a netlist that answers as the circuit does.
use Rattle.std.specs.Prelude.{◌≡◌, ◌↔◌, Bool, List, length}
use Rattle.blif_read.specs.Parts.{NetView}
use Rattle.blif_read.specs.Says.{SaysNet}
use Rattle.blif_read.specs.Equations.{IsAnswer as NetAnswer}
use Rattle.circuit_extracted.specs.Circuits.{CircuitView}
use Rattle.circuit_extracted.specs.Answers.{IsAnswer}
use Rattle.blif_flat.specs.BlifText.{blif_text}

-- the text says a netlist with the circuit's inputs and outputs, whose answers to each word are those of the circuit
pub record AnswersAsWritten (circuit : CircuitView) : Type 0 where
  pub net : NetView
  pub says : SaysNet (blif_text circuit) net
  pub inputs : net.inputs ≡ circuit.inputs
  pub outputs : length net.outputs ≡ length circuit.outputs
  pub answers : (word answer : List Bool) → NetAnswer net word answer ↔ IsAnswer circuit word answer
