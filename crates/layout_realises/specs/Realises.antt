-- What the bytes of a chip realise: a layout whose shapes keep every rule, and whose circuit shows the answers in
-- every run.
use Rattle.std.specs.Prelude.{◌≡◌, ℕ, Bool, All, List, length}
use Rattle.std.specs.List.{AllZip}
use Rattle.geom.specs.declared.layout.Layout.{Layout}
use Rattle.geom.specs.FlatForm.{flat_of}
use Rattle.geom.specs.Writable.{IsWritable}
use Rattle.gds_records.specs.Writing.{bytes_of}
use Rattle.layout_rules.specs.Limits.{Limits}
use Rattle.layout_rules.specs.Rules.{KeepsRules}
use Rattle.circuit_extracted.specs.Circuits.{CircuitView}
use Rattle.shape_extract.specs.Extraction.{IsCircuitOf}
use Rattle.pulse_sim.specs.Clocked.{ShowsByClocks}

-- the words have these answers, which the circuit shows after the delay by every clock whose windows keep clear at each
-- cell and its feeds
pub record AnswersAll (circuit : CircuitView) (delay : ℕ) (answers : List Bool → List Bool → Type 0)
    (words : List (List Bool)) : Type 0 where
  pub replies : List (List Bool)
  pub are_answers : AllZip answers words replies
  pub by_clocks : ShowsByClocks circuit delay words replies

-- The bytes are those of a layout that can be written; its shapes keep all rules under the limits; the circuit that is
-- extracted from these shapes has so many inputs and outputs, and answers every list of words.
pub record Realises (bytes : List ℕ) (limits : Limits) (inputs outputs : ℕ) (answers : List Bool → List Bool → Type 0)
    (circuit : CircuitView) (delay : ℕ) : Type 0 where
  pub layout : Layout
  pub writable : IsWritable layout
  pub stream : bytes ≡ bytes_of layout
  pub rules : KeepsRules (flat_of layout) limits
  pub extracted : IsCircuitOf (flat_of layout) circuit
  pub input_count : circuit.inputs ≡ inputs
  pub output_count : length circuit.outputs ≡ outputs
  pub answers_all : (words : List (List Bool)) → All (λ word. length word ≡ inputs) words
      → AnswersAll circuit delay answers words
