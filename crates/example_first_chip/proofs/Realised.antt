-- What the bytes of the first chip realise: each word of one bit is its own answer, of the netlist and of the circuit.
use Rattle.std.proofs.Common.{◌≡◌, ℕ, zero, suc, ◌-◌, ◌<◌, Bool, false, List, [], ◌∷◌, length}
use Rattle.std.proofs.Common.{refl, sym, ap, subst, arith}
use Rattle.std.specs.Prelude.{slice_index_or}
use Rattle.std.specs.List.{AllZip, AllByRecursion}
use Rattle.std.proofs.lemmas.List.Elements.{recursion_from_All}
use Rattle.std.proofs.lemmas.Option.{same_Some}
use Rattle.geom.specs.declared.shapes.Flat.{Flat}
use Rattle.geom.specs.FirstChip.{first_layout, first_flat}
use Rattle.geom.specs.FlatForm.{flat_of}
use Rattle.geom.specs.Writable.{IsWritable}
use Rattle.gds_records.specs.FirstChip.{first_bytes}
use Rattle.gds_records.specs.Writing.{bytes_of}
use Rattle.layout_rules.specs.FirstLimits.{first_limits}
use Rattle.layout_rules.specs.Rules.{KeepsRules}
use Rattle.blif_read.specs.Equations.{IsAnswer}
use Rattle.cell_library.specs.Library.{limits_of}
use Rattle.cell_library.specs.LibraryA.{library_a_view}
use Rattle.circuit_extracted.specs.declared.cells.ExCell.{ExCell}
use Rattle.circuit_extracted.specs.Answers as circuits
use Rattle.circuit_extracted.specs.Circuits.{CircuitView, KeepsFacts}
use Rattle.circuit_extracted.specs.FirstCircuit.{lower_buffer, upper_buffer, first_circuit}
use Rattle.shape_extract.specs.Extraction.{IsCircuitOf}
use Rattle.pulse_sim.specs.Clocked.{ShowsByClocks}
use Rattle.layout_realises.specs.Realises.{Realises}
use Rattle.example_first_chip.specs.Wire.{wire}

-- what lower crates say of the first chip, and of every circuit
pub record LowerLaws : Type 0 where
  pub flat : flat_of first_layout ≡ first_flat
  pub writable : IsWritable first_layout
  pub bytes : bytes_of first_layout ≡ first_bytes
  pub rules : KeepsRules first_flat first_limits
  pub keeps : KeepsFacts first_circuit
  pub extracted : IsCircuitOf first_flat first_circuit
  pub by_clocks : (circuit : CircuitView) (words answers : List (List Bool)) → KeepsFacts circuit
      → AllZip (circuits.IsAnswer circuit) words answers → ShowsByClocks circuit (circuit.rows - 1) words answers

-- ---- one word

first_bit : (bit : Bool) (i : ℕ) → i < 1 → bit ≡ slice_index_or (bit ∷ []) i false
first_bit bit zero below = refl
first_bit bit (suc i) below = absurd (omega arith)

net_answer : (word : List Bool) → length word ≡ 1 → IsAnswer wire word word
net_answer [] wide = absurd cc
net_answer (bit ∷ []) wide =
    record { values = λ s. bit; fit = record { bits = first_bit bit; covers = λ j def is. absurd cc }; shown = refl }
net_answer (bit ∷ other ∷ word) wide = absurd (omega arith)

each_cell : (bit : Bool) → circuits.IsValuation first_circuit (bit ∷ []) (λ c. bit)
unfolding first_circuit
each_cell bit zero cell is =
    ap (λ (x : ExCell). circuits.cell_value (bit ∷ []) (λ c. bit) x) (same_Some lower_buffer cell is)
each_cell bit (suc zero) cell is =
    ap (λ (x : ExCell). circuits.cell_value (bit ∷ []) (λ c. bit) x) (same_Some upper_buffer cell is)
each_cell bit (suc (suc c)) cell is = absurd cc

circuit_answer : (word : List Bool) → length word ≡ 1 → circuits.IsAnswer first_circuit word word
unfolding first_circuit
circuit_answer [] wide = absurd cc
circuit_answer (bit ∷ []) wide = record { value = λ c. bit; fits = each_cell bit; answer_is = refl }
circuit_answer (bit ∷ other ∷ word) wide = absurd (omega arith)

-- ---- all words

each_word : (R : List Bool → List Bool → Type 0) → ((word : List Bool) → length word ≡ 1 → R word word)
    → (words : List (List Bool)) → AllByRecursion (λ word. length word ≡ 1) words → AllZip R words words
each_word R one [] wide = tt
each_word R one (word ∷ words) wide = (one word wide.0, each_word R one words wide.1)

pub realised : LowerLaws → Realises first_bytes (limits_of library_a_view) 1 1 (IsAnswer wire) first_circuit 1
unfolding first_circuit
realised laws = record {
  layout = first_layout;
  writable = laws.writable;
  stream = sym laws.bytes;
  rules = subst (λ (flat : Flat). KeepsRules flat first_limits) (sym laws.flat) laws.rules;
  extracted = subst (λ (flat : Flat). IsCircuitOf flat first_circuit) (sym laws.flat) laws.extracted;
  input_count = refl;
  output_count = refl;
  answers_all = λ words wide.
      let each = recursion_from_All (λ (word : List Bool). length word ≡ 1) words wide in
      record {
        replies = words;
        are_answers = each_word (IsAnswer wire) net_answer words each;
        by_clocks = laws.by_clocks first_circuit words words laws.keeps
            (each_word (circuits.IsAnswer first_circuit) circuit_answer words each);
      };
}
