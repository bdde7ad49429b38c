-- What follows of a chip of two texts that was made by a plan: its layout is the plan's drawing, and its circuit the one
-- that the drawing realises.
use Rattle.std.proofs.Common.{◌≡◌, ℕ, ◌<◌, ◌≤◌, Bool, List, [], ◌∷◌, length, refl, sym, ap, ◌∙◌, subst}
use Rattle.std.specs.Prelude.{All}
use Rattle.aq_base.specs.History.{Event, Created, took}
use Rattle.aq_base.specs.Output.{Output}
use Rattle.geom.specs.declared.layout.Layout.{Layout}
use Rattle.geom.specs.declared.shapes.Flat.{Flat}
use Rattle.geom.specs.FlatForm.{flat_of, flat_count, shape_limit}
use Rattle.geom.specs.Writable.{IsWritable}
use Rattle.gds_records.specs.Stream.{IsStream}
use Rattle.gds_records.specs.Writing.{bytes_of}
use Rattle.layout_rules.specs.Limits.{Limits}
use Rattle.layout_rules.specs.Rules.{Keeps}
use Rattle.layout_rules.specs.declared.rule.Rule.TheVariants.{E1, E2, E6}
use Rattle.blif_read.specs.Parts.{NetView}
use Rattle.blif_read.specs.Equations.{IsAnswer}
use Rattle.blif_read.proofs.OneAnswer.{answer_length}
use Rattle.blif_flat.specs.DesignText.{SaysNetlist}
use Rattle.blif_flat.specs.Meaning.{inputs_of, outputs_of, TextAnswers}
use Rattle.circuit.specs.SameAnswers.{SameAnswers}
use Rattle.cell_library.specs.Library.{LibraryView, limits_of}
use Rattle.cell_library.specs.Says as library
use Rattle.rowed.specs.PlacedNets.{PlacedView}
use Rattle.circuit_extracted.specs.Circuits.{CircuitView, KeepsFacts}
use Rattle.shape_extract.specs.Extraction.{IsCircuitOf}
use Rattle.layout_make.specs.Draw.{draw}
use Rattle.layout_make.specs.MayDraw.{MayDraw}
use Rattle.layout_make.specs.Size.{element_number}
use Rattle.rowed.specs.Limits.{element_limit}
use Rattle.pulse_sim.specs.Shows.{Shows}
use Rattle.pulse_sim.specs.Clocked.{ShowsByClocks}
use Rattle.text_answers.specs.Counts.{delay_of}
use Rattle.layout_realises.specs.Realises.{Realises}
use Rattle.layout_realises.specs.RealisesNet.{RealisesNet, most_bytes}
use Rattle.layout_realises.proofs.RealisesAs.{realises_as}
use Rattle.layout_realises.proofs.ShownByTicks.{shown_by_ticks}
use Rattle.aqfp_top.specs.Chips.{IsChipOfTexts, IsPlannedChip}
use Rattle.aqfp_top.specs.Designs.{SaysDesign, IsChipFor, stream_of}
use Rattle.aqfp_top.specs.Histories.{loaded, stored, BuiltHistory, HearsChip}
use Rattle.aqfp_top.specs.Words.{word_at}
use Rattle.aqfp_top.specs.declared.planner.Planner.{Planner}
use Rattle.aqfp_top.proofs.Headline.{stream_is}
use Rattle.aqfp_top.proofs.OneFault.{one_table}

-- the laws that the proof rests on
pub record Laws : Type 0 where
  pub answers : (net : List ℕ) (equations : NetView) → SaysNetlist net equations
      → SameAnswers (inputs_of net) equations.inputs (outputs_of net) (length equations.outputs) (TextAnswers net)
      (IsAnswer equations)
  pub writable : (p : PlacedView) (l : LibraryView) → MayDraw p l → IsWritable (draw p l)
  pub stream : (layout : Layout) → IsWritable layout → IsStream (bytes_of layout) layout
  pub one_layout : (bytes : List ℕ) (layout other : Layout) → IsStream bytes layout → IsStream bytes other
      → layout ≡ other
  pub realised : (p : PlacedView) (l : LibraryView) → MayDraw p l → element_number p ≤ element_limit → RealisesNet p l
  pub one_circuit : (flat : Flat) (limits : Limits) (first second : CircuitView)
      → Keeps E1 flat limits → Keeps E2 flat limits → Keeps E6 flat limits
      → IsCircuitOf flat first → IsCircuitOf flat second → first ≡ second
  pub enough : (circuit : CircuitView) (words answers : List (List Bool)) → KeepsFacts circuit
      → length answers ≡ length words → All (λ word. length word ≡ circuit.inputs) words
      → All (λ answer. length answer ≡ length circuit.outputs) answers
      → ShowsByClocks circuit (delay_of circuit) words answers → Shows circuit (delay_of circuit) words answers

-- a text that says a library gives the rules its numbers alone
one_limits : (lib : List ℕ) (limits : Limits) (cells : LibraryView) → library.SaysLimits lib limits
    → library.SaysLibrary lib cells → limits ≡ limits_of cells
one_limits lib limits cells says other =
    says.values ∙ ap library.limits_in (one_table lib says.table other.table says.document other.document)
    ∙ ap limits_of (sym other.values)

-- answers both ways are the same the other way round
turned : (i j o q : ℕ) (f g : List Bool → List Bool → Type 0) → SameAnswers i j o q f g → SameAnswers j i q o g f
turned i j o q f g same = record {
  same_inputs = sym same.same_inputs;
  same_outputs = sym same.same_outputs;
  there = λ x y wide. same.back x y (wide ∙ same.same_inputs);
  back = λ x y wide. same.there x y (wide ∙ same.same_inputs);
}

module _ (laws : Laws) (net lib bytes : List ℕ) (out after : Output) (equations : NetView) (cells : LibraryView)
    (placed : PlacedView) (chip : IsChipOfTexts net lib bytes out after) (says : SaysDesign net lib equations cells)
    (of_net : IsChipFor equations cells placed) (is : bytes ≡ stream_of placed cells) where
  made : RealisesNet placed cells
  made = laws.realised placed cells of_net.draws of_net.small

  drawing : bytes ≡ bytes_of (draw placed cells)
  drawing = is ∙ stream_is placed cells

  -- bytes of a layout that can be written are a stream of it, and here of the drawing
  layout_is : (layout : Layout) → IsWritable layout → bytes ≡ bytes_of layout → layout ≡ draw placed cells
  layout_is layout writable of =
      laws.one_layout bytes layout (draw placed cells)
      (subst (λ b. IsStream b layout) (sym of) (laws.stream layout writable))
      (subst (λ b. IsStream b (draw placed cells)) (sym drawing)
      (laws.stream (draw placed cells) (laws.writable placed cells of_net.draws)))

  drawn : chip.realises.layout ≡ draw placed cells
  drawn = layout_is chip.realises.layout chip.realises.writable chip.realises.stream

  made_drawn : made.realises.layout ≡ draw placed cells
  made_drawn = layout_is made.realises.layout made.realises.writable (drawing ∙ made.realises.stream)

  circuit_is : chip.circuit ≡ made.circuit
  circuit_is =
      let flat = flat_of chip.realises.layout in
      laws.one_circuit flat chip.limits chip.circuit made.circuit (chip.realises.rules E1) (chip.realises.rules E2)
      (chip.realises.rules E6) chip.realises.extracted
      (subst (λ layout. IsCircuitOf (flat_of layout) made.circuit) (made_drawn ∙ sym drawn) made.realises.extracted)

  keeps : KeepsFacts chip.circuit
  keeps = subst KeepsFacts (sym circuit_is) made.keeps

  of_equations : Realises bytes (limits_of cells) equations.inputs (length equations.outputs) (IsAnswer equations)
      chip.circuit (delay_of chip.circuit)
  of_equations =
      let same = laws.answers net equations says.net_says in
      realises_as equations.inputs (inputs_of net) (length equations.outputs) (outputs_of net) (IsAnswer equations)
      (TextAnswers net)
      (turned (inputs_of net) equations.inputs (outputs_of net) (length equations.outputs) (TextAnswers net)
      (IsAnswer equations) same) bytes (limits_of cells) chip.circuit (delay_of chip.circuit)
      (subst (λ limits. Realises bytes limits (inputs_of net) (outputs_of net) (TextAnswers net) chip.circuit
      (delay_of chip.circuit)) (one_limits lib chip.limits cells chip.lib_says says.lib_says) chip.realises)

  pub planned_chip : IsPlannedChip equations cells bytes chip.circuit
  planned_chip =
      let whole = of_equations in
      let drawn_whole = layout_is whole.layout whole.writable whole.stream in
      record {
        realises = whole;
        stream = subst (λ b. IsStream b whole.layout) (sym whole.stream) (laws.stream whole.layout whole.writable);
        short = subst (λ b. length b < most_bytes) (sym drawing) made.short;
        small = subst (λ layout. flat_count (flat_of layout) ≤ shape_limit) (sym drawn_whole) made.small;
        circuit_keeps = keeps;
        shows = λ words wide. shown_by_ticks equations.inputs (length equations.outputs) (IsAnswer equations)
            (λ word answer width. answer_length equations word answer) chip.circuit whole.input_count
            whole.output_count (λ given replies. laws.enough chip.circuit given replies keeps) words wide
            (whole.answers_all words wide);
      }

-- ---- of what was heard

-- a file that was made and took bytes: these bytes, and this was heard before
one_taken : (bytes other name : List ℕ) (before earlier : List Event)
    → took bytes (Created name ∷ before) ≡ took other (Created name ∷ earlier) → (bytes ≡ other) × (before ≡ earlier)
one_taken [] [] name before earlier e = (refl, cc)
one_taken [] (o ∷ other) name before earlier e = absurd cc
one_taken (b ∷ bytes) [] name before earlier e = absurd cc
one_taken (b ∷ bytes) (o ∷ other) name before earlier e = (cc, cc)

one_history : (history : List Event) (words : List (List ℕ)) (net lib bytes net' lib' bytes' : List ℕ)
    → stored (loaded history words net lib) (word_at words 3) bytes
    ≡ stored (loaded history words net' lib') (word_at words 3) bytes'
    → (net ≡ net') × (lib ≡ lib') × (bytes ≡ bytes')
one_history history words net lib bytes net' lib' bytes' e =
    let taken : took bytes (Created (word_at words 3) ∷ loaded history words net lib)
    ≡ took bytes' (Created (word_at words 3) ∷ loaded history words net' lib') = cc in
    let parts = one_taken bytes bytes' (word_at words 3) (loaded history words net lib)
    (loaded history words net' lib') taken in
    let both = parts.1 in
    (cc, cc, parts.0)

pub one_chip_heard : (planner : Planner) (history later : List Event) (words : List (List ℕ)) (out after : Output)
    (hears : HearsChip history later words out after) (built : BuiltHistory planner history later words out after)
    → (hears.net ≡ built.net) × (hears.lib ≡ built.lib) × (hears.bytes ≡ stream_of built.chip built.cells)
one_chip_heard planner history later words out after hears built =
    one_history history words hears.net hears.lib hears.bytes built.net built.lib (stream_of built.chip built.cells)
    (sym hears.history_is ∙ built.is)
