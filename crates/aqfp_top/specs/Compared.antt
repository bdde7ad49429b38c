-- What an `equal` has shown of a chip and a netlist that are equal.
use Rattle.std.specs.Prelude.{Bool, List}
use Rattle.std.specs.List.{AllZip}
use Rattle.blif_read.specs.Parts.{NetView}
use Rattle.blif_read.specs.Equations.{IsAnswer}
use Rattle.circuit_extracted.specs.Circuits.{CircuitView}
use Rattle.pulse_sim.specs.Shows.{Shows}
use Rattle.pulse_sim.specs.Clocked.{ShowsByClocks}
use Rattle.text_answers.specs.Counts.{delay_of}

-- in every run, whatever the order of switching, and by every clock whose windows keep clear at each cell and its
-- feeds, the circuit shows the answers of the equations to these words
pub record ShowsNet (circuit : CircuitView) (equations : NetView) (given : List (List Bool)) : Type 0 where
  pub answers : List (List Bool)
  pub are_answers : AllZip (IsAnswer equations) given answers
  pub shows : Shows circuit (delay_of circuit) given answers
  pub by_clocks : ShowsByClocks circuit (delay_of circuit) given answers
