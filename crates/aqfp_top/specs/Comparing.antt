-- What `equal` makes of the texts of a layout, of a library and of a netlist: whether the chip's circuit answers every
-- word as the netlist, or that the two have other counts, or too many subfunctions; and what it prints.
use Rattle.std.specs.Prelude.{ℕ, ◌≡◌, ◌≢◌, ◌<◌, ◌++◌, Bool, false, List, length, codes}
use Rattle.std.specs.Prelude.{slice_index_or, map}
use Rattle.std.specs.Fmt.{decimal}
use Rattle.circuit.specs.SameAnswers.{SameAnswers}
use Rattle.blif_read.specs.Parts.{NetView}
use Rattle.blif_read.specs.Netlist.{IsNetlist}
use Rattle.blif_flat.specs.DesignText as netlist
use Rattle.blif_read.specs.Equations as equations
use Rattle.maj_mapping.specs.Plan.{map_net}
use Rattle.circuit_extracted.specs.Circuits.{CircuitView, KeepsFacts}
use Rattle.circuit_extracted.specs.Answers.{IsAnswer}
use Rattle.circuit_gates.specs.CellGates.{cells_of}
use Rattle.decide.specs.Subfunctions.{HasAtMost}
use Rattle.decide.specs.Verdicts.{Before}
use Rattle.decide.specs.declared.verdict.Verdict.{Verdict}
use Rattle.decide.specs.declared.verdict.Verdict.TheVariants.{Equal, LeastDifference, SomeDifference}
use Rattle.text_answers.specs.WordLines.{digit_of, word_line}
use Rattle.aqfp_top.specs.Checks.{MakesCircuit}
use Rattle.aqfp_top.specs.declared.fault.Fault.{Fault}
use Rattle.aqfp_top.specs.declared.fault.Fault.TheVariants.{Widths}

-- the texts of a layout and of a library make this circuit, and that of a netlist says these equations
pub record MakesBoth (gds lib net : List ℕ) (circuit : CircuitView) (view : NetView) : Type 0 where
  pub makes : MakesCircuit gds lib circuit
  pub says : netlist.SaysNetlist net view

-- the two have these counts, and not as many inputs, or not as many outputs
pub record HasWidths (gds lib net : List ℕ) (inputs outputs net_inputs net_outputs : ℕ) : Type 0 where
  pub circuit : CircuitView
  pub view : NetView
  pub both : MakesBoth gds lib net circuit view
  pub inputs_are : inputs ≡ circuit.inputs
  pub outputs_are : outputs ≡ length circuit.outputs
  pub net_inputs_are : net_inputs ≡ view.inputs
  pub net_outputs_are : net_outputs ≡ length view.outputs
  pub other : ¬ ((inputs ≡ net_inputs) × (outputs ≡ net_outputs))

-- the counts differ
abbrev pub IsWidthsFault : List ℕ → List ℕ → List ℕ → Fault → Type 0
IsWidthsFault gds lib net (Widths inputs outputs net_inputs net_outputs) =
    HasWidths gds lib net inputs outputs net_inputs net_outputs
IsWidthsFault gds lib net _ = ⊥

-- the gates of the chip's cells and those that the netlist is mapped to have more than 1,000,000 subfunctions
abbrev pub AreManyFunctions : CircuitView → NetView → ℕ → Type 0
AreManyFunctions circuit view count =
    (count ≡ 1000001) × ¬ HasAtMost (cells_of circuit) (map_net view) 1000000

-- so have those of the circuit and of the equations of the texts
pub record HasManyFunctions (gds lib net : List ℕ) (count : ℕ) : Type 0 where
  pub circuit : CircuitView
  pub view : NetView
  pub both : MakesBoth gds lib net circuit view
  pub many : AreManyFunctions circuit view count

-- an output, in an answer
abbrev pub at : List Bool → ℕ → Bool
at answer k = slice_index_or answer k false

-- whatever the circuit and the equations answer to the word, output k of both is the same
abbrev pub AgreeAt : CircuitView → NetView → ℕ → List Bool → Type 0
AgreeAt circuit view k word = (answer reply : List Bool) → IsAnswer circuit word answer
    → equations.IsAnswer view word reply → at answer k ≡ at reply k

-- output k of their answers to the word differs
pub record DifferAt (circuit : CircuitView) (view : NetView) (k : ℕ) (word : List Bool) : Type 0 where
  pub answer : List Bool
  pub reply : List Bool
  pub answers : IsAnswer circuit word answer
  pub replies : equations.IsAnswer view word reply
  pub differ : at answer k ≢ at reply k

-- the output is the least on which the answers to some word differ, and the word is the least such word for it
pub record IsFirstDifference (circuit : CircuitView) (view : NetView) (output : ℕ) (word : List Bool) : Type 0 where
  pub output_within : output < length circuit.outputs
  pub long : length word ≡ circuit.inputs
  pub differ : DifferAt circuit view output word
  pub least_output : (k : ℕ) (x : List Bool) → k < output → length x ≡ circuit.inputs → AgreeAt circuit view k x
  pub least_word : (x : List Bool) → length x ≡ circuit.inputs → Before x word → AgreeAt circuit view output x

-- the answers to the word differ in this output, and the two have too many subfunctions to be compared: other
-- differences may come before
pub record IsSomeDifference (circuit : CircuitView) (view : NetView) (output : ℕ) (word : List Bool) : Type 0 where
  pub output_within : output < length circuit.outputs
  pub long : length word ≡ circuit.inputs
  pub differ : DifferAt circuit view output word
  pub many : ¬ HasAtMost (cells_of circuit) (map_net view) 1000000

-- what a verdict says of the circuit and of the equations: they have the same answers to every word, or this is their
-- first difference, or some difference
abbrev pub IsTrueOf : CircuitView → NetView → Verdict → Type 0
IsTrueOf circuit view Equal =
    SameAnswers circuit.inputs view.inputs (length circuit.outputs) (length view.outputs) (IsAnswer circuit)
    (equations.IsAnswer view)
IsTrueOf circuit view (LeastDifference output word) = IsFirstDifference circuit view output word
IsTrueOf circuit view (SomeDifference output word) = IsSomeDifference circuit view output word

-- the line of a verdict
abbrev pub verdict_text : Verdict → List ℕ
verdict_text Equal = codes "equal\n"
verdict_text (LeastDifference output word) = codes "differ O" ++ decimal output ++ codes " at " ++ word_line word
verdict_text (SomeDifference output word) =
    codes "differ O" ++ decimal output ++ codes " at " ++ map digit_of word ++ codes ", perhaps not the least\n"

-- the texts make a circuit and equations, of which the verdict is true
pub record HasVerdict (gds lib net : List ℕ) (verdict : Verdict) : Type 0 where
  pub circuit : CircuitView
  pub view : NetView
  pub both : MakesBoth gds lib net circuit view
  pub circuit_keeps : KeepsFacts circuit
  pub net_keeps : IsNetlist view
  pub holds : IsTrueOf circuit view verdict
