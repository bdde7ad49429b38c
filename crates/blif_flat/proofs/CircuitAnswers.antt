-- The netlist of a circuit's definitions answers each word as the circuit does.
use Rattle.std.proofs.Common.{◌≡◌, ℕ, zero, suc, ◌+◌, ◌-◌, ◌<◌, ◌≤◌, ◌||◌, ◌&&◌, not, Bool, true, false, List, [], ◌∷◌}
use Rattle.std.proofs.Common.{◌++◌, length, map, Some, refl, sym, ap, ◌∙◌, subst, arith, inl, inr}
use Rattle.std.specs.Prelude.{slice_get, slice_index_or}
use Rattle.std.specs.List.{list_any, flat_map, AllByRecursion, range_with_len}
use Rattle.std.proofs.lemmas.Bool.{cases_lt}
use Rattle.std.proofs.lemmas.List.{length-map, length-append}
use Rattle.std.proofs.lemmas.List.FromFn.{length-range_with_len}
use Rattle.std.proofs.lemmas.Option.{slice_get_within, get_or_from_slice_get}
use Rattle.circuit.specs.CellKinds.{inputs_of, outputs_of}
use Rattle.circuit.specs.Function.{value_of, majority}
use Rattle.circuit.specs.Ranked.{solution}
use Rattle.circuit.specs.declared.cell_kind.CellKind.{CellKind}
use Rattle.circuit.specs.declared.cell_kind.CellKind.TheVariants.{Buffer, Inverter, Zero, One, Split2, Split3, Majority}
use Rattle.rowed.specs.declared.source.Source.{Source}
use Rattle.blif_read.specs.Parts.{NetView, plane}
use Rattle.blif_read.specs.Says.{SaysNet}
use Rattle.blif_read.specs.Equations.{takes, matches, Fits, IsAnswer as NetAnswer}
use Rattle.blif_read.proofs.OneAnswer.{equation}
use Rattle.circuit_extracted.specs.declared.cells.Feed.{Feed}
use Rattle.circuit_extracted.specs.declared.cells.Feed.TheVariants.{Nothing, Pin, Label}
use Rattle.circuit_extracted.specs.declared.cells.ExCell.{ExCell}
use Rattle.circuit_extracted.specs.Circuits.{CircuitView, IsCellAt, IsOutputBelow, IsFeedOf, KeepsFacts, feed_at}
use Rattle.circuit_extracted.specs.Answers.{feed_value, cell_value, values_at, IsAnswer}
use Rattle.circuit_extracted.proofs.Valuations.{only_answer}
use Rattle.blif_flat.specs.BlifText.{blif_text, line_text, rows_of}
use Rattle.blif_flat.specs.Written.{AnswersAsWritten}
use Rattle.blif_flat.proofs.NumberedNames.{AreNames}
use Rattle.blif_flat.proofs.Definitions.{Definition}
use Rattle.blif_flat.proofs.DefinedLines.{read_as, all_read}
use Rattle.blif_flat.proofs.DefinedNet.{net_of, text_says, some_fits}
use Rattle.blif_flat.proofs.FewInputs.{few_inputs}
use Rattle.blif_flat.proofs.CircuitNames.{are_names}
use Rattle.blif_flat.proofs.CircuitLines.{feed_signal, cell_definition, output_definition, definitions_of, IsBelow}
use Rattle.blif_flat.proofs.CircuitLines.{IsPlaced, IsWritable, name_of, outputs_of as output_signals, lines_are}
use Rattle.blif_flat.proofs.CircuitLines.{are_defined, read_by, some_feed, feeds_are}

-- ---- what every extracted circuit keeps

-- a cell that feeds another one stands before it
fed_before : (circuit : CircuitView) → KeepsFacts circuit → (c d : ℕ) (cell below : ExCell) → IsCellAt circuit c cell
    → IsCellAt circuit d below → below.row + 1 ≡ cell.row → d < c
fed_before circuit ok c d cell below at at' rows = elim (cases_lt d c) [
  | inl less ↦ less
  | inr more ↦
      let within = slice_get_within circuit.cells d below at' in
      let order = ok.rising c d cell more within in
      let high : cell.row ≡ (slice_index_or circuit.cells c cell).row = ap (λ (x : ExCell). x.row)
      (sym (get_or_from_slice_get circuit.cells c cell cell at)) in
      let low : below.row ≡ (slice_index_or circuit.cells d cell).row = ap (λ (x : ExCell). x.row)
      (sym (get_or_from_slice_get circuit.cells d below cell at')) in
      absurd (omega (arith, order, high, low, rows))
]

feed_is_below : (circuit : CircuitView) → KeepsFacts circuit → (c : ℕ) (cell : ExCell) → IsCellAt circuit c cell
    → (feed : Feed) → IsFeedOf circuit cell.row feed → IsBelow circuit.inputs c feed
feed_is_below circuit ok c cell at Nothing is = tt
feed_is_below circuit ok c cell at (Pin d output) is = fed_before circuit ok c d cell is.cell at is.cell_is
    is.just_below
feed_is_below circuit ok c cell at (Label n) is = is.1

is_placed : (circuit : CircuitView) → KeepsFacts circuit → (c : ℕ) (cell : ExCell) → IsCellAt circuit c cell
    → IsPlaced circuit.inputs c cell
is_placed circuit ok c cell at =
    let is = ok.cells c cell at in
    record { feeds = is.feeds; below = λ i. feed_is_below circuit ok c cell at (feed_at cell i) (is.each_feed i) }

is_writable : (circuit : CircuitView) → KeepsFacts circuit → IsWritable circuit
is_writable circuit ok = record {
  placed = λ c cell at. is_placed circuit ok c cell at;
  shown = λ k source at. (let is = ok.outputs k source at in slice_get_within circuit.cells source.cell is.cell
      is.cell_is);
}

some_pin : (kind : CellKind) → 0 < outputs_of kind
some_pin Buffer = omega arith
some_pin Inverter = omega arith
some_pin Zero = omega arith
some_pin One = omega arith
some_pin Split2 = omega arith
some_pin Split3 = omega arith
some_pin Majority = omega arith

some_output : (circuit : CircuitView) → KeepsFacts circuit → 0 < length circuit.outputs
some_output circuit ok =
    let some = ok.some_row in
    let last = ok.each_row (circuit.rows - 1) (omega (arith, some)) in
    let top : last.cell.row + 1 ≡ circuit.rows = (let e = last.row_is in omega (arith, some, e)) in
    let source : Source = record { cell = last.number; output = 0 } in
    let below : IsOutputBelow circuit circuit.rows source = record
    { cell = last.cell; cell_is = last.cell_is; just_below = top; has_output = some_pin last.cell.kind } in
    let shown = ok.each_output source below in
    let within = slice_get_within circuit.outputs shown.number source shown.shown in
    omega (arith, within)

-- ---- covers compute the functions of cells

kept : (x : Bool) → (takes 49 x && true) || false ≡ x
kept true = refl
kept false = refl

turned : (x : Bool) → (takes 48 x && true) || false ≡ not x
turned true = refl
turned false = refl

most : (x y z : Bool) → (takes 49 x && (takes 49 y && (takes 45 z && true))) ||
    ((takes 49 x && (takes 45 y && (takes 49 z && true))) ||
    ((takes 45 x && (takes 49 y && (takes 49 z && true))) || false)) ≡ majority x y z
most true true true = refl
most true true false = refl
most true false true = refl
most true false false = refl
most false true true = refl
most false true false = refl
most false false true = refl
most false false false = refl

rows_compute : (kind : CellKind) (a b c : ℕ) (v : ℕ → Bool)
    → list_any (λ cube. matches cube.plane (read_by kind a b c) v) (map plane (rows_of kind))
    ≡ value_of kind (v a) (v b) (v c)
rows_compute Buffer a b c v = kept (v a)
rows_compute Inverter a b c v = turned (v a)
rows_compute Zero a b c v = refl
rows_compute One a b c v = refl
rows_compute Split2 a b c v = kept (v a)
rows_compute Split3 a b c v = kept (v a)
rows_compute Majority a b c v = most (v a) (v b) (v c)

-- values of inputs that a kind lacks are not read
reads_its_own : (kind : CellKind) (a b c x y z : Bool) → (0 < inputs_of kind → a ≡ x) → (1 < inputs_of kind → b ≡ y)
    → (2 < inputs_of kind → c ≡ z) → value_of kind a b c ≡ value_of kind x y z
reads_its_own Buffer a b c x y z e f g = e (omega arith)
reads_its_own Inverter a b c x y z e f g = ap not (e (omega arith))
reads_its_own Zero a b c x y z e f g = refl
reads_its_own One a b c x y z e f g = refl
reads_its_own Split2 a b c x y z e f g = e (omega arith)
reads_its_own Split3 a b c x y z e f g = e (omega arith)
reads_its_own Majority a b c x y z e f g = λ i. majority (e (omega arith) i) (f (omega arith) i) (g (omega arith) i)

-- ---- where definitions stand

record IsReadAt (n : ℕ) (ds : List Definition) (j : ℕ) (d : Definition) : Type 0 where
  line : ℕ
  at : slice_get (all_read n ds) j ≡ Some (read_as line d)

read_at : (n : ℕ) (ds : List Definition) (j : ℕ) (d : Definition) → slice_get ds j ≡ Some d → IsReadAt n ds j d
read_at n [] j d e = absurd (cc)
read_at n (x ∷ ds) zero d e = record { line = n; at = (let same : x ≡ d = cc in ap (λ y. Some (read_as n y)) same) }
read_at n (x ∷ ds) (suc j) d e = let found = read_at
    (n + 1 + length x.rows) ds j d e in record { line = found.line; at = found.at }

front_at : {X : Type 0} (f : X → Definition) (xs : List X) (ds : List Definition) (j : ℕ) (x : X)
    → slice_get xs j ≡ Some x → slice_get (map f xs ++ ds) j ≡ Some (f x)
front_at f [] ds j x e = absurd (cc)
front_at f (y ∷ xs) ds zero x e = let same : y ≡ x = cc in ap (λ z. Some (f z)) same
front_at f (y ∷ xs) ds (suc j) x e = front_at f xs ds j x e

back_at : {X : Type 0} (f : X → Definition) (xs : List X) (ds : List Definition) (j : ℕ)
    → slice_get (map f xs ++ ds) (length xs + j) ≡ slice_get ds j
back_at f [] ds j = let e : 0 + j ≡ j = omega arith in ap (slice_get ds) e
back_at f (y ∷ xs) ds j =
    let e : suc (length xs) + j ≡ suc (length xs + j) = omega arith in
    ap (slice_get (map f (y ∷ xs) ++ ds)) e ∙ back_at f xs ds j

map_at : {X : Type 0} (f : X → Definition) (xs : List X) (j : ℕ) (x : X) → slice_get xs j ≡ Some x
    → slice_get (map f xs) j ≡ Some (f x)
map_at f [] j x e = absurd (cc)
map_at f (y ∷ xs) zero x e = let same : y ≡ x = cc in ap (λ z. Some (f z)) same
map_at f (y ∷ xs) (suc j) x e = map_at f xs j x e

-- ---- values that fit the netlist fit the circuit

module _ (circuit : CircuitView) (ok : KeepsFacts circuit) (word : List Bool) (v : ℕ → Bool)
    (fits : Fits circuit.inputs (all_read 4 (definitions_of circuit)) word v) where
  abbrev inputs : ℕ
  inputs = circuit.inputs

  abbrev cells : ℕ
  cells = length circuit.cells

  abbrev value : ℕ → Bool
  value c = v (circuit.inputs + c)

  signal_value : (c : ℕ) (feed : Feed) → (feed ≡ Nothing → ⊥) → IsBelow inputs c feed
      → v (feed_signal inputs feed) ≡ feed_value word value feed
  signal_value c Nothing some is = absurd (some refl)
  signal_value c (Pin d output) some is = refl
  signal_value c (Label n) some is = fits.bits n is

  defined_value : (j : ℕ) (d : Definition) → slice_get (definitions_of circuit) j ≡ Some d
      → v (inputs + j) ≡ list_any (λ cube. matches cube.plane d.feeds v) (map plane d.rows)
  defined_value j d at = let found = read_at 4 (definitions_of circuit) j d at in fits.covers j
      (read_as found.line d) found.at

  cell_fits : (c : ℕ) (cell : ExCell) → IsCellAt circuit c cell → value c ≡ cell_value word value cell
  cell_fits c cell at =
      let placed = is_placed circuit ok c cell at in
      let a = feed_signal inputs cell.feed0 in
      let b = feed_signal inputs cell.feed1 in
      let d = feed_signal inputs cell.feed2 in
      defined_value c (cell_definition inputs cell)
      (front_at (cell_definition inputs) circuit.cells (map (output_definition inputs) circuit.outputs) c cell at)
      ∙ ap (λ (feeds : List ℕ). list_any (λ cube. matches cube.plane feeds v) (map plane (rows_of cell.kind)))
      (feeds_are inputs c cell placed)
      ∙ rows_compute cell.kind a b d v
      ∙ reads_its_own cell.kind (v a) (v b) (v d) (feed_value word value cell.feed0)
      (feed_value word value cell.feed1) (feed_value word value cell.feed2)
      (λ h. signal_value c cell.feed0 (some_feed cell placed.feeds 0 h) (placed.below 0))
      (λ h. signal_value c cell.feed1 (some_feed cell placed.feeds 1 h) (placed.below 1))
      (λ h. signal_value c cell.feed2 (some_feed cell placed.feeds 2 h) (placed.below 2))

  output_value : (k : ℕ) (source : Source) → slice_get circuit.outputs k ≡ Some source
      → v (inputs + cells + k) ≡ value source.cell
  output_value k source at =
      let e : inputs + cells + k ≡ inputs + (cells + k) = omega arith in
      ap v e
      ∙ defined_value (cells + k) (output_definition inputs source)
      (back_at (cell_definition inputs) circuit.cells (map (output_definition inputs) circuit.outputs) k
      ∙ map_at (output_definition inputs) circuit.outputs k source at)
      ∙ kept (v (inputs + source.cell))

  shown_from : (k : ℕ) (sources : List Source)
      → ((j : ℕ) (source : Source) → slice_get sources j ≡ Some source
      → v (inputs + cells + (k + j)) ≡ value source.cell)
      → map v (range_with_len (inputs + cells + k) (length sources)) ≡ values_at sources value
  shown_from k [] each = refl
  shown_from k (source ∷ sources) each =
      let e : inputs + cells + k ≡ inputs + cells + (k + 0) = omega arith in
      let f : inputs + cells + k + 1 ≡ inputs + cells + (k + 1) = omega arith in
      let here : v (inputs + cells + k) ≡ value source.cell = ap v e ∙ each 0 source refl in
      let later : (j : ℕ) (other : Source) → slice_get sources j ≡ Some other
      → v (inputs + cells + (k + 1 + j)) ≡ value other.cell = λ j other at.
      (let g : inputs + cells + (k + 1 + j) ≡ inputs + cells + (k + suc j) = omega arith in ap v g
      ∙ each (suc j) other at) in
      let rest = ap (λ a. map v (range_with_len a (length sources))) f ∙ shown_from (k + 1) sources later in
      λ i. here i ∷ rest i

  all_shown : map v (output_signals circuit) ≡ values_at circuit.outputs value
  all_shown =
      let e : inputs + cells ≡ inputs + cells + 0 = omega arith in
      let each : (j : ℕ) (source : Source) → slice_get circuit.outputs j ≡ Some source
      → v (inputs + cells + (0 + j)) ≡ value source.cell = λ j source at.
      (let g : inputs + cells + (0 + j) ≡ inputs + cells + j = omega arith in ap v g ∙ output_value j source at) in
      ap (λ a. map v (range_with_len a (length circuit.outputs))) e ∙ shown_from 0 circuit.outputs each

  pub circuit_answers : IsAnswer circuit word (map v (output_signals circuit))
  circuit_answers = record { value = value; fits = cell_fits; answer_is = all_shown }

-- ---- the law

outputs_within : (s n t : ℕ) → s + n ≤ t → AllByRecursion (λ x. x < t) (range_with_len s n)
outputs_within s zero t h = tt
outputs_within s (suc n) t h = (omega arith, outputs_within (s + 1) n t (omega arith))

module _ (circuit : CircuitView) (ok : KeepsFacts circuit) where
  abbrev said : NetView
  said = net_of (name_of circuit) circuit.inputs (definitions_of circuit) (output_signals circuit)

  definition_count : length (definitions_of circuit) ≡ length circuit.cells + length circuit.outputs
  definition_count =
      length-append (map (cell_definition circuit.inputs) circuit.cells)
      (map (output_definition circuit.inputs) circuit.outputs)
      ∙ (λ i. length-map circuit.cells (cell_definition circuit.inputs) i + length-map circuit.outputs
      (output_definition circuit.inputs) i)

  to_circuit : (word answer : List Bool) → NetAnswer said word answer → IsAnswer circuit word answer
  to_circuit word answer is = subst (IsAnswer circuit word) (sym is.shown)
      (circuit_answers circuit ok word is.values is.fit)

  to_net : (word answer : List Bool) → IsAnswer circuit word answer → NetAnswer said word answer
  to_net word answer is =
      let v = solution (λ s. s) (equation said word) in
      let fits = some_fits (name_of circuit) circuit.inputs (definitions_of circuit) (output_signals circuit)
      (are_defined circuit (is_writable circuit ok)) word in
      record {
        values = v;
        fit = fits;
        shown = only_answer circuit ok word answer (map v (output_signals circuit)) is
            (circuit_answers circuit ok word v fits);
      }

  text_is : SaysNet (blif_text circuit) said
  unfolding blif_text
  text_is =
      let names = subst (λ n. AreNames (name_of circuit) (circuit.inputs + n)) (sym definition_count)
      (are_names circuit.inputs (length circuit.cells) (length circuit.outputs)
      (few_inputs circuit ok) ok.few_cells ok.few_outputs) in
      let count = definition_count in
      let within = outputs_within (circuit.inputs + length circuit.cells) (length circuit.outputs)
      (circuit.inputs + length (definitions_of circuit)) (omega (arith, count)) in
      let some : 0 < length (output_signals circuit) =
      (let e = length-range_with_len (circuit.inputs + length circuit.cells)
      (length circuit.outputs) in let h = some_output circuit ok in omega (arith, e, h)) in
      subst (λ text. SaysNet text said) (ap (flat_map line_text) (sym (lines_are circuit (is_writable circuit ok))))
      (text_says (name_of circuit) circuit.inputs (definitions_of circuit) (output_signals circuit) names
      (are_defined circuit (is_writable circuit ok)) within some)

pub written_answers : (circuit : CircuitView) → KeepsFacts circuit → AnswersAsWritten circuit
written_answers circuit ok = record {
  net = said circuit ok;
  says = text_is circuit ok;
  inputs = refl;
  outputs = length-range_with_len (circuit.inputs + length circuit.cells) (length circuit.outputs);
  answers = λ word answer. (to_circuit circuit ok word answer, to_net circuit ok word answer);
}
