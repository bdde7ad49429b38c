-- A chip that was built is read, judged and printed by a check.
use Rattle.std.proofs.Common.{ℕ, ◌≡◌, ◌≤◌, ◌<◌, ◌++◌, Bool, List, length, sym, refl, subst, ap, ◌∙◌}
use Rattle.std.specs.Prelude.{All}
use Rattle.std.specs.List.{flat_map}
use Rattle.geom.specs.declared.layout.Layout.{Layout}
use Rattle.geom.specs.declared.shapes.Flat.{Flat}
use Rattle.geom.specs.FlatForm.{flat_of, flat_count, shape_limit}
use Rattle.geom.specs.Writable.{IsWritable}
use Rattle.poly_cut.specs.declared.layout.WideLayout.{WideLayout}
use Rattle.poly_cut.specs.FlatForm.{wide_flat}
use Rattle.gds_records.specs.Scan.{IsBytes, wide_layout_in}
use Rattle.gds_records.specs.Stream.{IsStream, IsWideStream}
use Rattle.gds_records.specs.Writing.{bytes_of}
use Rattle.blif_read.specs.Parts.{NetView}
use Rattle.blif_read.specs.Equations.{IsAnswer as IsNetAnswer}
use Rattle.blif_read.proofs.OneAnswer.{answer_length}
use Rattle.rowed.specs.PlacedNets.{PlacedView}
use Rattle.rowed.specs.RowNets.{IsAnswer}
use Rattle.cell_library.specs.Library.{LibraryView, limits_of}
use Rattle.cell_library.specs.Says as library
use Rattle.layout_rules.specs.Limits.{Limits}
use Rattle.layout_rules.specs.Rules.{Keeps, KeepsRules}
use Rattle.layout_rules.specs.declared.rule.Rule.TheVariants.{E1, E2, E6}
use Rattle.circuit_extracted.specs.Circuits.{CircuitView, KeepsFacts}
use Rattle.shape_extract.specs.Extraction.{IsCircuitOf}
use Rattle.layout_make.specs.Draw.{draw}
use Rattle.layout_make.specs.MayDraw.{MayDraw}
use Rattle.layout_make.specs.Size.{element_number}
use Rattle.rowed.specs.Limits.{element_limit}
use Rattle.pulse_sim.specs.Shows.{Shows}
use Rattle.pulse_sim.specs.Clocked.{ShowsByClocks}
use Rattle.text_answers.specs.Counts.{counts_line, counts_text, delay_of}
use Rattle.text_answers.specs.WordLines.{word_line, answers_to, answers_text}
use Rattle.text_answers.specs.WordsText.{words_of, SaysWords}
use Rattle.text_answers.proofs.Reading.{words_wide}
use Rattle.layout_realises.specs.Realises.{Realises}
use Rattle.layout_realises.specs.RealisesNet.{RealisesNet, most_bytes}
use Rattle.layout_realises.proofs.RealisesAs.{realises_as}
use Rattle.layout_realises.proofs.ShownByTicks.{shown_by_ticks}
use Rattle.aqfp_top.specs.Designs.{IsChipFor, stream_of, counts_of}
use Rattle.aqfp_top.specs.Checks.{IsLayoutOf, IsSound}
use Rattle.aqfp_top.specs.Joined.{PrintsAsNet, VerifiesAsNet}
use Rattle.aqfp_top.proofs.DrawnBytes.{drawn_bytes}

-- the counts line of a circuit with the net's counts, before the lines of answers
text_is : (circuit : CircuitView) (answers : List (List Bool)) →
    answers_text circuit answers ≡ counts_line circuit ++ flat_map word_line answers
unfolding answers_text
text_is circuit answers = refl

line_is : (placed : PlacedView) (cells : LibraryView) (r : RealisesNet placed cells) →
    counts_line r.circuit ≡ counts_of placed
unfolding counts_line counts_of
line_is placed cells r = λ i. counts_text (r.rows i) (r.cells i) (r.wires i)

-- the laws that the proof rests on
pub record Laws : Type 0 where
  pub writable : (p : PlacedView) (l : LibraryView) → MayDraw p l → IsWritable (draw p l)
  pub stream : (layout : Layout) → IsWritable layout → IsStream (bytes_of layout) layout
  pub realised : (p : PlacedView) (l : LibraryView) → MayDraw p l → element_number p ≤ element_limit → RealisesNet p l
  pub one_layout : (bytes : List ℕ) (layout other : Layout) → IsStream bytes layout → IsStream bytes other
      → layout ≡ other
  pub is_wide : (bytes : List ℕ) (layout : Layout) → IsBytes bytes → IsStream bytes layout
      → IsWideStream bytes (wide_layout_in bytes)
  pub same_flat : (bytes : List ℕ) (layout : Layout) → IsBytes bytes → IsStream bytes layout
      → wide_flat (wide_layout_in bytes) ≡ flat_of layout
  pub one_wide : (bytes : List ℕ) (layout : WideLayout) → IsWideStream bytes layout → layout ≡ wide_layout_in bytes
  pub one_circuit : (flat : Flat) (limits : Limits) (first second : CircuitView)
      → Keeps E1 flat limits → Keeps E2 flat limits → Keeps E6 flat limits
      → IsCircuitOf flat first → IsCircuitOf flat second → first ≡ second
  pub shown : (circuit : CircuitView) (words : List (List Bool))
      → KeepsFacts circuit → All (λ word. length word ≡ circuit.inputs) words
      → Shows circuit (delay_of circuit) words (answers_to circuit words)
  pub enough : (circuit : CircuitView) (words answers : List (List Bool)) → KeepsFacts circuit
      → length answers ≡ length words → All (λ word. length word ≡ circuit.inputs) words
      → All (λ answer. length answer ≡ length circuit.outputs) answers
      → ShowsByClocks circuit (delay_of circuit) words answers → Shows circuit (delay_of circuit) words answers
  pub shown_once : (circuit : CircuitView) (d : ℕ) (words answers others : List (List Bool)) → KeepsFacts circuit
      → Shows circuit d words answers → Shows circuit d words others → answers ≡ others

module _ (laws : Laws) (net : NetView) (placed : PlacedView) (cells : LibraryView)
    (is : IsChipFor net cells placed) where
  abbrev made : RealisesNet placed cells
  made = laws.realised placed cells is.draws is.small

  -- the stored bytes realise the netlist, and are a stream of the drawing alone
  chip : Realises (stream_of placed cells) (limits_of cells) net.inputs (length net.outputs)
      (IsNetAnswer net) made.circuit
      (delay_of made.circuit)
  unfolding stream_of
  chip = realises_as net.inputs placed.net.inputs (length net.outputs) placed.net.outputs
      (IsNetAnswer net) (IsAnswer placed.net) is.answers
      (bytes_of (draw placed cells)) (limits_of cells) made.circuit (delay_of made.circuit) made.realises

  layout_is : (layout : Layout) → IsStream (stream_of placed cells) layout → layout ≡ draw placed cells
  unfolding stream_of
  layout_is layout stream =
      laws.one_layout _ layout (draw placed cells) stream (laws.stream _ (laws.writable _ _ is.draws))

  few_bytes : length (stream_of placed cells) < most_bytes
  unfolding stream_of
  few_bytes = made.short

  made_of_bytes : IsBytes (stream_of placed cells)
  unfolding stream_of
  made_of_bytes = drawn_bytes placed cells is.draws

  stream : IsStream (stream_of placed cells) chip.layout
  stream = subst (λ bytes. IsStream bytes chip.layout) (sym chip.stream) (laws.stream chip.layout chip.writable)

  -- the layout that is read of them has the shapes of the drawing
  same : wide_flat (wide_layout_in (stream_of placed cells)) ≡ flat_of chip.layout
  same = laws.same_flat (stream_of placed cells) chip.layout made_of_bytes stream

  few : flat_count (flat_of chip.layout) ≤ shape_limit
  few = subst (λ layout. flat_count (flat_of layout) ≤ shape_limit) (sym (layout_is chip.layout stream)) made.small

  read : IsLayoutOf (stream_of placed cells) (wide_layout_in (stream_of placed cells))
  read = record {
    stream = laws.is_wide (stream_of placed cells) chip.layout made_of_bytes stream;
    within = subst (λ flat. flat_count flat ≤ shape_limit) (sym same) few;
  }

  sound : (lib text : List ℕ) → library.SaysLibrary lib cells → SaysWords net.inputs text →
      IsSound (stream_of placed cells) lib text made.circuit
  sound lib text says words = record {
    makes = record {
      layout = wide_layout_in (stream_of placed cells);
      read = read;
      library = record { view = cells; says = says };
      rules = subst (λ flat. KeepsRules flat (limits_of cells)) (sym same) chip.rules;
      circuit_is = subst (λ flat. IsCircuitOf flat made.circuit) (sym same) chip.extracted;
    };
    says = subst (λ width. SaysWords width text) (sym chip.input_count) words;
  }

  -- no other circuit is found
  found : (lib text : List ℕ) (circuit : CircuitView) → IsSound (stream_of placed cells) lib text circuit →
      circuit ≡ made.circuit
  found lib text circuit s =
      let one = laws.one_wide (stream_of placed cells) s.makes.layout s.makes.read.stream in
      let circuit_is : IsCircuitOf (wide_flat (wide_layout_in (stream_of placed cells))) circuit =
      subst (λ (layout : WideLayout). IsCircuitOf (wide_flat layout) circuit) one s.makes.circuit_is in
      laws.one_circuit (flat_of chip.layout) (limits_of cells) circuit made.circuit (chip.rules E1) (chip.rules E2)
      (chip.rules E6) (subst (λ flat. IsCircuitOf flat circuit) same circuit_is) chip.extracted

  -- what is printed of it are the netlist's answers
  printed : (text : List ℕ) → SaysWords net.inputs text → PrintsAsNet net placed made.circuit (words_of text)
  printed text says =
      let words = words_of text in
      let wide = words_wide net.inputs text says in
      let all = chip.answers_all words wide in
      let shown = laws.shown made.circuit words made.keeps (λ k d lt. wide k d lt ∙ sym chip.input_count) in
      let by_ticks = shown_by_ticks net.inputs (length net.outputs) (IsNetAnswer net)
      (λ word answer width. answer_length net word answer) made.circuit chip.input_count chip.output_count
      (λ given replies. laws.enough made.circuit given replies made.keeps) words wide all in
      let same = laws.shown_once made.circuit (delay_of made.circuit) words _ _ made.keeps shown by_ticks in
      record {
        answers = all.replies;
        are_answers = all.are_answers;
        printed = text_is made.circuit (answers_to made.circuit words)
            ∙ ap (λ head. head ++ flat_map word_line (answers_to made.circuit words)) (line_is placed cells made)
            ∙ ap (λ answers. counts_of placed ++ flat_map word_line answers) same;
      }

  pub verified : (lib text : List ℕ) → library.SaysLibrary lib cells → SaysWords net.inputs text →
      VerifiesAsNet net placed cells lib text
  verified lib text says words = record {
    short = few_bytes;
    sound = record { circuit = made.circuit; sound = sound lib text says words };
    prints = λ circuit s.
        let same = found lib text circuit s in
        subst (λ c. PrintsAsNet net placed c (words_of text)) (sym same) (printed text words);
  }
