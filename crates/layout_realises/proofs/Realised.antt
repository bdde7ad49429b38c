-- The drawing of a net realises it.
use Rattle.std.proofs.Common.{◌≡◌, ℕ, suc, ◌+◌, ◌*◌, ◌-◌, ◌<◌, ◌≤◌, ◌^◌, refl, ap, ◌∙◌, arith, Bool, List, [], ◌∷◌}
use Rattle.std.proofs.Common.{length, count_by, All}
use Rattle.std.specs.List.{AllZip}
use Rattle.std.proofs.lemmas.List.{length-map}
use Rattle.cell_library.specs.Library.{LibraryView, limits_of}
use Rattle.geom.specs.Writable.{IsWritable}
use Rattle.geom.specs.declared.shapes.Flat.{Flat}
use Rattle.geom.specs.declared.shapes.Label.{Label}
use Rattle.layout_rules.specs.declared.rule.Rule.TheVariants.{E1, E2, E3, E4, E6}
use Rattle.layout_rules.specs.Nets.{AreNets}
use Rattle.layout_rules.specs.Rules.{KeepsRules}
use Rattle.layout_rules.proofs.NetsExist.{some_nets}
use Rattle.rowed.specs.PlacedNets.{PlacedView}
use Rattle.rowed.specs.RowNets.{row_at, IsAnswer}
use Rattle.rowed.specs.Counts.{cells_in}
use Rattle.circuit_extracted.specs.Answers as extracted
use Rattle.circuit_extracted.specs.Circuits.{CircuitView, KeepsFacts}
use Rattle.shape_extract.specs.Extraction.{is_wired, IsCircuitOf}
use Rattle.shape_extract.specs.Extracts.{KeepsFive}
use Rattle.pulse_sim.specs.Clocked.{ShowsByClocks}
use Rattle.layout_make.specs.Draw.{draw, top_elements}
use Rattle.layout_make.specs.CellsAreDrawn.{CellsAreDrawn}
use Rattle.layout_make.specs.Laws.{flat_shapes}
use Rattle.layout_make.specs.MayDraw.{MayDraw}
use Rattle.layout_make.specs.Sheet.{shape_of}
use Rattle.layout_make.specs.Size.{element_number}
use Rattle.rowed.specs.Limits.{element_limit}
use Rattle.layout_make.specs.Spots.{spots}
use Rattle.layout_make.specs.Tags.{sheet, tags}
use Rattle.layout_make.proofs.AllRules.{ports_of}
use Rattle.layout_make.proofs.FlatLaw.{flat_is_tags}
use Rattle.layout_make.proofs.Ready.{TracksLaw, may_ready, lawful}
use Rattle.layout_make.proofs.Wiring.{flat}
use Rattle.layout_realises.specs.DrawnCircuit.{drawn_cell, drawn_row, drawn_circuit, IsDrawnAs}
use Rattle.layout_realises.specs.Realises.{AnswersAll}
use Rattle.layout_realises.specs.RealisesNet.{RealisesNet}
use Rattle.layout_realises.proofs.Bytes.{few_bytes}
use Rattle.layout_realises.proofs.Counts.{spots_long, rows_cells, few_shapes}
use Rattle.layout_realises.proofs.DrawnKeeps.{drawn_as}
use Rattle.layout_realises.proofs.Wires.{wires_are}

-- what lower crates say of streams, circuits and runs
pub record CrateLaws (p : PlacedView) (l : LibraryView) : Type 0 where
  pub tracks : TracksLaw
  pub rules : KeepsRules (flat p l) (limits_of l)
  pub cells : CellsAreDrawn p l
  pub size : length (top_elements p l) ≡ element_number p
  pub writable : IsWritable (draw p l)
  pub keeps : (flat : Flat) (circuit : CircuitView) → length flat.shapes < 2 ^ 32 → length circuit.cells < 2 ^ 32
      → KeepsFive flat → IsCircuitOf flat circuit → KeepsFacts circuit
  pub answers : (circuit : CircuitView) (word : List Bool) → KeepsFacts circuit
      → (answer : List Bool) × extracted.IsAnswer circuit word answer
  pub by_clocks : (circuit : CircuitView) (words answers : List (List Bool)) → KeepsFacts circuit
      → AllZip (extracted.IsAnswer circuit) words answers → ShowsByClocks circuit (circuit.rows - 1) words answers

module _ (p : PlacedView) (l : LibraryView) (law : CrateLaws p l) (may : MayDraw p l)
    (few : element_number p ≤ element_limit) where
  -- ---- the circuit

  nets : (nets : List ℕ) × AreNets (flat_shapes p l) nets
  nets = some_nets (flat_shapes p l)

  pub circuit : CircuitView
  circuit = drawn_circuit p (count_by (is_wired (flat p l)) (flat_shapes p l)) nets.0

  pub drawn : IsDrawnAs p (flat p l) circuit
  unfolding circuit
  drawn = drawn_as p l law.tracks may nets.0 nets.1

  five : KeepsFive (flat p l)
  five = record {
    cells = law.rules E1;
    lines = law.rules E2;
    nets = law.rules E3;
    rows = law.rules E4;
    labels = law.rules E6;
    excited = law.cells.excited;
  }

  -- ---- sizes

  shapes_and_labels : length (flat p l).shapes + length (flat p l).labels ≤ 4 * element_number p
  shapes_and_labels =
      let a : length (flat p l).shapes ≡ length (tags p l) = ap length (flat_is_tags p l (lawful l may.library))
      ∙ length-map (tags p l) (shape_of (sheet p l)) in
      let b = ap (λ (labels : List Label). length labels) law.cells.labels_are in
      let c = few_shapes p l may.placed law.size in
      omega arith

  cells_long : length circuit.cells ≡ cells_in p.net.rows
  unfolding circuit
  cells_long = rows_cells (drawn_row p) 0 p.net.rows (λ r. length-map (spots p (0 + r)) (drawn_cell p (0 + r))
      ∙ spots_long p may.placed (0 + r)
      ∙ ap (λ (n : ℕ). length (row_at p.net.rows n)) (let h : 0 + r ≡ r = omega arith in h))

  pub keeps : KeepsFacts circuit
  keeps =
      let a = shapes_and_labels in
      let b = cells_long in
      law.keeps (flat p l) circuit (omega arith) (omega arith) five drawn.circuit_is

  -- ---- answers

  -- answers of the net to these words, which are those of the circuit
  record Replies (words : List (List Bool)) : Type 0 where
    replies : List (List Bool)
    of_net : AllZip (IsAnswer p.net) words replies
    of_circuit : AllZip (extracted.IsAnswer circuit) words replies

  replies_to : (words : List (List Bool)) → All (λ word. length word ≡ p.net.inputs) words → Replies words
  replies_to [] wide = record { replies = []; of_net = tt; of_circuit = tt }
  replies_to (word ∷ words) wide =
      let one = law.answers circuit word keeps in
      let rest = replies_to words (λ k d h. wide (suc k) d (omega arith)) in
      record {
        replies = one.0 ∷ rest.replies;
        of_net = (drawn.same.back word one.0 (wide 0 [] (omega arith)) one.1, rest.of_net);
        of_circuit = (one.1, rest.of_circuit);
      }

  answers_all : (words : List (List Bool)) → All (λ word. length word ≡ p.net.inputs) words
      → AnswersAll circuit (circuit.rows - 1) (IsAnswer p.net) words
  answers_all words wide =
      let all = replies_to words wide in
      record {
        replies = all.replies;
        are_answers = all.of_net;
        by_clocks = law.by_clocks circuit words all.replies keeps all.of_circuit;
      }

  pub realises_net : RealisesNet p l
  unfolding circuit
  realises_net = record {
    circuit = circuit;
    realises = record {
      layout = draw p l;
      writable = law.writable;
      stream = refl;
      rules = law.rules;
      extracted = drawn.circuit_is;
      input_count = drawn.same.same_inputs;
      output_count = drawn.same.same_outputs;
      answers_all = answers_all;
    };
    keeps = keeps;
    rows = refl;
    cells = cells_long;
    wires = wires_are p l (may_ready p l law.tracks may) (lawful l may.library) (ports_of p l may) may.placed;
    small = (let a = shapes_and_labels in omega arith);
    short = (let a = few_bytes p l may.few_inputs may.few_outputs in let b = law.size in omega arith);
  }
