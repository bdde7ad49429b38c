-- What a `build`, a `compact` or a `draw` that ends well has made: bytes that are a chip of NET's netlist, which keeps
-- the rules with the numbers of LIB, and its counts on `out`; and what follows of it, since it was planned.
use Rattle.std.specs.Prelude.{◌≡◌, ◌<◌, ◌≤◌, ℕ, Bool, All, List, length}
use Rattle.aq_base.specs.Output.{Output}
use Rattle.aq_base.specs.Output as output
use Rattle.geom.specs.FlatForm.{flat_of, flat_count, shape_limit}
use Rattle.gds_records.specs.Stream.{IsStream}
use Rattle.layout_rules.specs.Limits.{Limits}
use Rattle.blif_read.specs.Parts.{NetView}
use Rattle.blif_read.specs.Equations.{IsAnswer}
use Rattle.blif_flat.specs.Meaning.{inputs_of, outputs_of, TextAnswers}
use Rattle.cell_library.specs.Library.{LibraryView, limits_of}
use Rattle.cell_library.specs.Says as library
use Rattle.circuit_extracted.specs.Circuits.{CircuitView, KeepsFacts}
use Rattle.pulse_sim.specs.Shows.{Shows}
use Rattle.text_answers.specs.Counts.{counts_line, delay_of}
use Rattle.layout_realises.specs.Realises.{Realises}
use Rattle.layout_realises.specs.RealisesNet.{most_bytes}

-- The bytes are a chip of the two texts: they realise what NET's text answers, under the numbers that LIB's text gives,
-- by every clock whose windows keep clear; and `out` has the counts of their circuit.
pub record IsChipOfTexts (net lib bytes : List ℕ) (out out' : Output) : Type 0 where
  pub limits : Limits
  pub lib_says : library.SaysLimits lib limits
  pub circuit : CircuitView
  pub realises : Realises bytes limits (inputs_of net) (outputs_of net) (TextAnswers net) circuit (delay_of circuit)
  pub printed : out' ≡ output.printed (counts_line circuit) out

-- What follows where the bytes are those of a plan for a netlist and a library: they realise the netlist's equations
-- with the library's numbers; they are a stream, and their shapes few enough to be read back; the circuit keeps what
-- extracted circuits keep, and shows its answers by ticks too, in every order of switching.
pub record IsPlannedChip (equations : NetView) (cells : LibraryView) (bytes : List ℕ) (circuit : CircuitView)
    : Type 0 where
  pub realises : Realises bytes (limits_of cells) equations.inputs (length equations.outputs) (IsAnswer equations)
      circuit (delay_of circuit)
  pub stream : IsStream bytes realises.layout
  pub short : length bytes < most_bytes
  pub small : flat_count (flat_of realises.layout) ≤ shape_limit
  pub circuit_keeps : KeepsFacts circuit
  pub shows : (words : List (List Bool)) (wide : All (λ word. length word ≡ equations.inputs) words)
      → Shows circuit (delay_of circuit) words (realises.answers_all words wide).replies
