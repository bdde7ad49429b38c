-- What verify and trace make of the texts of a layout, of a library and of words: their circuit, or a fault of the
-- stream, of its size, of the rules or of the words; and what they print.
use Rattle.std.specs.Prelude.{ℕ, ◌≤◌, Bool, List}
use Rattle.geom.specs.FlatForm.{flat_count, shape_limit}
use Rattle.poly_cut.specs.declared.layout.WideLayout.{WideLayout}
use Rattle.poly_cut.specs.FlatForm.{wide_flat}
use Rattle.gds_records.specs.Stream.{IsWideStream}
use Rattle.gds_records.specs.Faults.{WideFault}
use Rattle.gds_read.specs.WideReading.{IsWideTooLarge}
use Rattle.layout_rules.specs.declared.rule.Rule.{Rule}
use Rattle.layout_rules.specs.Rules.{KeepsRules, FirstBroken}
use Rattle.cell_library.specs.Library.{limits_of}
use Rattle.circuit_extracted.specs.Circuits.{CircuitView}
use Rattle.shape_extract.specs.Extraction.{IsCircuitOf}
use Rattle.text_answers.specs.WordsText.{SaysWords, IsBadLine}
use Rattle.text_answers.specs.WordLines.{answers_to, answers_text}
use Rattle.text_answers.specs.FluxLines.{trace_text}
use Rattle.aqfp_top.specs.Designs.{SaysLibrary}
use Rattle.aqfp_top.specs.declared.check.Printing.{Printing}
use Rattle.aqfp_top.specs.declared.check.Printing.TheVariants.{Answers, Fluxes}
use Rattle.aqfp_top.specs.declared.fault.Large.TheVariants.{Shapes}
use Rattle.aqfp_top.specs.declared.fault.Fault.{Fault}
use Rattle.aqfp_top.specs.declared.fault.Fault.TheVariants.{TooLarge, BadStream, RuleBroken, BadWords}

-- the bytes are a wide stream of this layout, whose flat form is of a size that is taken
pub record IsLayoutOf (gds : List ℕ) (layout : WideLayout) : Type 0 where
  pub stream : IsWideStream gds layout
  pub within : flat_count (wide_flat layout) ≤ shape_limit

-- the layout's shapes break a rule with the numbers of the library: this one first
pub record IsUnruly (gds lib : List ℕ) (rule : Rule) (first second : ℕ) : Type 0 where
  pub layout : WideLayout
  pub read : IsLayoutOf gds layout
  pub library : SaysLibrary lib
  pub broken : FirstBroken (wide_flat layout) (limits_of library.view) rule first second

-- the layout's shapes keep all rules with the numbers of the library, and make this circuit
pub record MakesCircuit (gds lib : List ℕ) (circuit : CircuitView) : Type 0 where
  pub layout : WideLayout
  pub read : IsLayoutOf gds layout
  pub library : SaysLibrary lib
  pub rules : KeepsRules (wide_flat layout) (limits_of library.view)
  pub circuit_is : IsCircuitOf (wide_flat layout) circuit

-- the first line of the words that is no word for the circuit
pub record IsMisworded (gds lib text : List ℕ) (line : ℕ) : Type 0 where
  pub circuit : CircuitView
  pub makes : MakesCircuit gds lib circuit
  pub bad : IsBadLine circuit.inputs text line

-- nothing is wrong with the three texts
pub record IsSound (gds lib text : List ℕ) (circuit : CircuitView) : Type 0 where
  pub makes : MakesCircuit gds lib circuit
  pub says : SaysWords circuit.inputs text

-- the layout makes a circuit with the library, and the words are words for it
pub record SaysSound (gds lib text : List ℕ) : Type 0 where
  pub circuit : CircuitView
  pub sound : IsSound gds lib text circuit

-- the bytes of a layout have this fault
abbrev pub IsStreamFault : List ℕ → Fault → Type 0
IsStreamFault gds (BadStream offset kind) = WideFault gds offset kind
IsStreamFault gds _ = ⊥

-- the layout has too many shapes
abbrev pub IsSizeFault : List ℕ → Fault → Type 0
IsSizeFault gds (TooLarge Shapes count) = IsWideTooLarge gds count
IsSizeFault gds _ = ⊥

-- its shapes break this rule first
abbrev pub IsRuleFault : List ℕ → List ℕ → Fault → Type 0
IsRuleFault gds lib (RuleBroken rule first second) = IsUnruly gds lib rule first second
IsRuleFault gds lib _ = ⊥

-- this line is the first that is no word for its circuit
abbrev pub IsWordsFault : List ℕ → List ℕ → List ℕ → Fault → Type 0
IsWordsFault gds lib text (BadWords line) = IsMisworded gds lib text line
IsWordsFault gds lib text _ = ⊥

-- what is printed of a circuit and words: its answers, or its fluxes
abbrev pub text_of : Printing → CircuitView → List (List Bool) → List ℕ
text_of Answers circuit words = answers_text circuit (answers_to circuit words)
text_of Fluxes circuit words = trace_text circuit words
