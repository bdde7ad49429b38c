-- What is due of the texts that a command was given: the bytes that OUT is to take, if it writes a file, and the text
-- that `out` is to gain.
use Rattle.std.specs.Prelude.{ℕ, ◌≡◌, All, List, [], ◌∷◌, length, Option, Some, None}
use Rattle.blif_read.specs.Parts.{NetView}
use Rattle.cell_library.specs.Library.{LibraryView}
use Rattle.rowed.specs.PlacedNets.{PlacedView}
use Rattle.circuit_extracted.specs.Circuits.{CircuitView, KeepsFacts}
use Rattle.blif_flat.specs.BlifText.{blif_text}
use Rattle.decide.specs.declared.verdict.Verdict.{Verdict}
use Rattle.text_answers.specs.Counts.{counts_line}
use Rattle.text_answers.specs.WordsText.{words_of}
use Rattle.aqfp_top.specs.Designs.{SaysDesign, IsChipFor, IsPlanBy, stream_of, counts_of}
use Rattle.aqfp_top.specs.Checks.{MakesCircuit, IsSound, text_of}
use Rattle.aqfp_top.specs.Comparing.{HasVerdict, verdict_text}
use Rattle.aqfp_top.specs.Reported.{IsReport}
use Rattle.aqfp_top.specs.Shown.{AreShapes}
use Rattle.aqfp_top.specs.Samples.{IsSampled}
use Rattle.aqfp_top.specs.declared.planner.Planner.{Planner}
use Rattle.aqfp_top.specs.declared.check.Printing.{Printing}
use Rattle.aqfp_top.specs.declared.check.Printing.TheVariants.{Answers, Fluxes}
use Rattle.aqfp_top.specs.declared.words.Form.{Form}
use Rattle.aqfp_top.specs.declared.words.Form.TheVariants.{Make, Verify, Trace, Equal, Write, Report, Shapes, Sample}

-- the bytes are the stream of a chip of the netlist's and the library's texts by this plan, and the text has its counts
pub record IsMadeBy (planner : Planner) (net lib bytes text : List ℕ) : Type 0 where
  pub equations : NetView
  pub cells : LibraryView
  pub says : SaysDesign net lib equations cells
  pub chip : PlacedView
  pub of_net : IsChipFor equations cells chip
  pub planned : IsPlanBy planner equations cells chip
  pub bytes_are : bytes ≡ stream_of chip cells
  pub text_is : text ≡ counts_of chip

-- the bytes are the netlist of the circuit that the texts of a layout and a library make, and the text has its counts
pub record IsNetlistOf (gds lib bytes text : List ℕ) : Type 0 where
  pub circuit : CircuitView
  pub makes : MakesCircuit gds lib circuit
  pub keeps : KeepsFacts circuit
  pub bytes_are : bytes ≡ blif_text circuit
  pub text_is : text ≡ counts_line circuit

-- nothing is wrong with the three texts, and this is what is printed of their circuit and words
pub record IsCheckOf (printing : Printing) (gds lib given text : List ℕ) : Type 0 where
  pub circuit : CircuitView
  pub sound : IsSound gds lib given circuit
  pub keeps : KeepsFacts circuit
  pub wide : All (λ word. length word ≡ circuit.inputs) (words_of given)
  pub text_is : text ≡ text_of printing circuit (words_of given)

-- the text is the line of a verdict that is true of the circuit and the netlist of the texts
pub record IsVerdictOf (gds lib net text : List ℕ) : Type 0 where
  pub verdict : Verdict
  pub found : HasVerdict gds lib net verdict
  pub text_is : text ≡ verdict_text verdict

-- so it is by the form of the words
abbrev pub IsDue : Form → List (List ℕ) → Option (List ℕ) → List ℕ → Type 0
IsDue (Make planner) (net ∷ lib ∷ []) (Some bytes) text = IsMadeBy planner net lib bytes text
IsDue Write (gds ∷ lib ∷ []) (Some bytes) text = IsNetlistOf gds lib bytes text
IsDue Verify (gds ∷ lib ∷ given ∷ []) None text = IsCheckOf Answers gds lib given text
IsDue Trace (gds ∷ lib ∷ given ∷ []) None text = IsCheckOf Fluxes gds lib given text
IsDue Equal (gds ∷ lib ∷ net ∷ []) None text = IsVerdictOf gds lib net text
IsDue Report (gds ∷ lib ∷ []) None text = IsReport gds lib text
IsDue (Shapes first second) (gds ∷ []) None text = AreShapes gds first second text
IsDue (Sample bits) [] None text = IsSampled bits (λ sampled. text ≡ sampled)
IsDue form texts file text = ⊥
