-- The lines of a circuit's netlist are those of its definitions: a definition for each cell, and one for each output.
use Rattle.std.proofs.Common.{◌≡◌, ℕ, zero, suc, ◌+◌, ◌<◌, ◌≤◌, List, [], ◌∷◌, ◌++◌, length, map, Some, refl, sym, ap}
use Rattle.std.proofs.Common.{◌∙◌, subst, arith, codes, append_assoc}
use Rattle.std.specs.Prelude.{slice_get, ◌↔◌}
use Rattle.std.specs.List.{AllByRecursion, range_with_len}
use Rattle.std.proofs.lemmas.List.{map-append}
use Rattle.blif_read.proofs.Within.{all_join}
use Rattle.circuit.specs.CellKinds.{inputs_of}
use Rattle.circuit.specs.declared.cell_kind.CellKind.{CellKind}
use Rattle.circuit.specs.declared.cell_kind.CellKind.TheVariants.{Buffer, Inverter, Zero, One, Split2, Split3, Majority}
use Rattle.rowed.specs.declared.source.Source.{Source}
use Rattle.circuit_extracted.specs.declared.cells.Feed.{Feed}
use Rattle.circuit_extracted.specs.declared.cells.Feed.TheVariants.{Nothing, Pin, Label}
use Rattle.circuit_extracted.specs.declared.cells.ExCell.{ExCell}
use Rattle.circuit_extracted.specs.Circuits.{CircuitView, feed_at}
use Rattle.blif_flat.specs.BlifText.{input_name, cell_name, output_name, feed_names, names_of_feeds, row, rows_of}
use Rattle.blif_flat.specs.BlifText.{cell_lines, cells_from, outputs_from, end_line, netlist_lines}
use Rattle.blif_flat.proofs.Definitions.{Definition, IsRow, IsDefinition, AreDefined, names_tokens, body, whole}
use Rattle.blif_flat.proofs.CircuitNames.{signal_name, named_input, named_cell, named_output}

-- the signal of a feed
abbrev pub feed_signal : ℕ → Feed → ℕ
feed_signal inputs Nothing = 0
feed_signal inputs (Pin cell output) = inputs + cell
feed_signal inputs (Label n) = n

abbrev pub feed_signals : ℕ → Feed → List ℕ
feed_signals inputs Nothing = []
feed_signals inputs (Pin cell output) = (inputs + cell) ∷ []
feed_signals inputs (Label n) = n ∷ []

abbrev pub all_feeds : ℕ → ExCell → List ℕ
all_feeds inputs cell = feed_signals inputs cell.feed0 ++ feed_signals inputs cell.feed1
    ++ feed_signals inputs cell.feed2

abbrev pub cell_definition : ℕ → ExCell → Definition
cell_definition inputs cell = record { feeds = all_feeds inputs cell; rows = rows_of cell.kind }

abbrev pub output_definition : ℕ → Source → Definition
output_definition inputs source = record { feeds = (inputs + source.cell) ∷ []; rows = row (codes "1") ∷ [] }

abbrev pub definitions_of : CircuitView → List Definition
definitions_of circuit = map (cell_definition circuit.inputs) circuit.cells
    ++ map (output_definition circuit.inputs) circuit.outputs

-- a feed names an input of so many, or a cell below cell number c
abbrev pub IsBelow : ℕ → ℕ → Feed → Type 0
IsBelow inputs c Nothing = Unit {0}
IsBelow inputs c (Pin cell output) = cell < c
IsBelow inputs c (Label n) = n < inputs

-- a cell of number c: its feeds are below it, and it has one for each input of its kind
pub record IsPlaced (inputs c : ℕ) (cell : ExCell) : Type 0 where
  pub feeds : (i : ℕ) → (feed_at cell i ≡ Nothing) ↔ (inputs_of cell.kind ≤ i)
  pub below : (i : ℕ) → IsBelow inputs c (feed_at cell i)

-- ---- names

module _ (inputs cells : ℕ) where
  feed_named : (c : ℕ) (feed : Feed) → c ≤ cells → IsBelow inputs c feed
      → map (signal_name inputs cells) (feed_signals inputs feed) ≡ feed_names feed
  feed_named c Nothing h is = refl
  feed_named c (Pin cell output) h is = ap (λ n. n ∷ []) (named_cell inputs cells cell (omega (arith, is, h)))
  feed_named c (Label n) h is = ap (λ n. n ∷ []) (named_input inputs cells n is)

  feeds_named : (c : ℕ) (cell : ExCell) → c ≤ cells → IsPlaced inputs c cell
      → map (signal_name inputs cells) (all_feeds inputs cell) ≡ names_of_feeds cell
  feeds_named c cell h is =
      let name = signal_name inputs cells in
      map-append name (feed_signals inputs cell.feed0 ++ feed_signals inputs cell.feed1)
      (feed_signals inputs cell.feed2)
      ∙ ap (λ x. x ++ map name (feed_signals inputs cell.feed2))
      (map-append name (feed_signals inputs cell.feed0) (feed_signals inputs cell.feed1))
      ∙ (λ i. feed_named c cell.feed0 h (is.below 0) i ++ feed_named c cell.feed1 h (is.below 1) i
      ++ feed_named c cell.feed2 h (is.below 2) i)

  outputs_lines : (k : ℕ) (sources : List Source)
      → ((j : ℕ) (source : Source) → slice_get sources j ≡ Some source → source.cell < cells)
      → outputs_from k sources ++ end_line ∷ []
      ≡ body (signal_name inputs cells) (inputs + cells + k) (map (output_definition inputs) sources)
  outputs_lines k [] each = refl
  outputs_lines k (source ∷ sources) each =
      let name = signal_name inputs cells in
      let here : source.cell < cells = each 0 source refl in
      let tokens : names_tokens name (inputs + cells + k) (output_definition inputs source)
      ≡ codes ".names" ∷ cell_name source.cell ∷ output_name k ∷ [] =
      (λ i. codes ".names" ∷ named_cell inputs cells source.cell here i ∷ named_output inputs cells k i ∷ []) in
      let e : inputs + cells + (k + 1) ≡ inputs + cells + k + 1 = omega arith in
      let rest = outputs_lines (k + 1) sources (λ j s is. each (suc j) s is)
      ∙ ap (λ s. body name s (map (output_definition inputs) sources)) e in
      λ i. sym tokens i ∷ row (codes "1") ∷ rest i

  cells_lines : (c : ℕ) (list : List ExCell) (ds : List Definition) (rest : List (List (List ℕ)))
      → c + length list ≤ cells
      → ((j : ℕ) (cell : ExCell) → slice_get list j ≡ Some cell → IsPlaced inputs (c + j) cell)
      → rest ≡ body (signal_name inputs cells) (inputs + c + length list) ds
      → cells_from c list ++ rest ≡ body (signal_name inputs cells) (inputs + c)
      (map (cell_definition inputs) list ++ ds)
  cells_lines c [] ds rest h each is =
      let e : inputs + c + 0 ≡ inputs + c = omega arith in
      is ∙ ap (λ s. body (signal_name inputs cells) s ds) e
  cells_lines c (cell ∷ list) ds rest h each is =
      let name = signal_name inputs cells in
      let zero_more : c + 0 ≡ c = omega arith in
      let placed : IsPlaced inputs c cell = subst (λ x. IsPlaced inputs x cell) zero_more (each 0 cell refl) in
      let few : c ≤ cells = omega arith in
      let here : c < cells = omega arith in
      let feeds = feeds_named c cell few placed in
      let own = named_cell inputs cells c here in
      let tokens : names_tokens name (inputs + c) (cell_definition inputs cell) ≡ codes ".names" ∷ names_of_feeds cell
      ++ cell_name c ∷ [] =
      (λ i. codes ".names" ∷ feeds i ++ own i ∷ []) in
      let e : inputs + c + suc (length list) ≡ inputs + (c + 1) + length list = omega arith in
      let f : inputs + (c + 1) ≡ inputs + c + 1 = omega arith in
      let later : (j : ℕ) (other : ExCell) → slice_get list j ≡ Some other
      → IsPlaced inputs (c + 1 + j) other = λ j other at.
      (let g : c + suc j ≡ c + 1 + j = omega arith in subst (λ x. IsPlaced inputs x other) g
      (each (suc j) other at)) in
      let next = cells_lines (c + 1) list ds rest (omega arith) later (is ∙ ap (λ s. body name s ds) e)
      ∙ ap (λ s. body name s (map (cell_definition inputs) list ++ ds)) f in
      append_assoc (cell_lines c cell) (cells_from (c + 1) list) rest
      ∙ (λ i. sym tokens i ∷ rows_of cell.kind ++ next i)

-- names that begin a netlist
inputs_named : (inputs cells a n : ℕ) → a + n ≤ inputs
    → map input_name (range_with_len a n) ≡ map (signal_name inputs cells) (range_with_len a n)
inputs_named inputs cells a zero h = refl
inputs_named inputs cells a (suc n) h = λ i. sym
    (named_input inputs cells a (omega arith)) i ∷ inputs_named inputs cells (a + 1) n (omega arith) i

outputs_named : (inputs cells k n : ℕ) → map output_name (range_with_len k n)
    ≡ map (signal_name inputs cells) (range_with_len (inputs + cells + k) n)
outputs_named inputs cells k zero = refl
outputs_named inputs cells k (suc n) =
    let e : inputs + cells + (k + 1) ≡ inputs + cells + k + 1 = omega arith in
    let rest = outputs_named inputs cells (k + 1) n ∙ ap (λ a. map (signal_name inputs cells) (range_with_len a n)) e in
    λ i. sym (named_output inputs cells k) i ∷ rest i

-- each cell is placed, and each output shows a cell
pub record IsWritable (circuit : CircuitView) : Type 0 where
  pub placed : (c : ℕ) (cell : ExCell) → slice_get circuit.cells c ≡ Some cell → IsPlaced circuit.inputs c cell
  pub shown : (k : ℕ) (source : Source) → slice_get circuit.outputs k ≡ Some source → source.cell < length circuit.cells

abbrev pub name_of : CircuitView → ℕ → List ℕ
name_of circuit = signal_name circuit.inputs (length circuit.cells)

-- the signals of the outputs
abbrev pub outputs_of : CircuitView → List ℕ
outputs_of circuit = range_with_len (circuit.inputs + length circuit.cells) (length circuit.outputs)

pub lines_are : (circuit : CircuitView) → IsWritable circuit
    → netlist_lines circuit ≡ whole (name_of circuit) circuit.inputs (definitions_of circuit) (outputs_of circuit)
lines_are circuit ok =
    let inputs = circuit.inputs in
    let cells = length circuit.cells in
    let name = name_of circuit in
    let ins = inputs_named inputs cells 0 inputs (omega arith) in
    let e : inputs + cells + 0 ≡ inputs + cells = omega arith in
    let outs = outputs_named inputs cells 0 (length circuit.outputs)
    ∙ ap (λ a. map name (range_with_len a (length circuit.outputs))) e in
    let f : inputs + cells + 0 ≡ inputs + 0 + cells = omega arith in
    let ends = outputs_lines inputs cells 0 circuit.outputs ok.shown
    ∙ ap (λ s. body name s (map (output_definition inputs) circuit.outputs)) f in
    let g : inputs + 0 ≡ inputs = omega arith in
    let zero_more : (j : ℕ) (cell : ExCell) → slice_get circuit.cells j ≡ Some cell
    → IsPlaced inputs (0 + j) cell = λ j cell at.
    (let k : j ≡ 0 + j = omega arith in subst (λ x. IsPlaced inputs x cell) k (ok.placed j cell at)) in
    let lines = cells_lines inputs cells 0 circuit.cells (map (output_definition inputs) circuit.outputs)
    (outputs_from 0 circuit.outputs ++ end_line ∷ []) (omega arith) zero_more ends
    ∙ ap (λ s. body name s (definitions_of circuit)) g in
    let apart = append_assoc (cells_from 0 circuit.cells) (outputs_from 0 circuit.outputs) (end_line ∷ []) in
    λ i. (codes ".model" ∷ codes "aqfp" ∷ []) ∷ (codes ".inputs" ∷ ins i) ∷ (codes ".outputs" ∷ outs i) ∷ (apart
    ∙ lines) i

-- ---- each definition reads earlier signals, and its rows fit

no_signal : (inputs : ℕ) (feed : Feed) → feed ≡ Nothing → feed_signals inputs feed ≡ []
no_signal inputs feed e = ap (feed_signals inputs) e

one_signal : (inputs : ℕ) (feed : Feed) → (feed ≡ Nothing → ⊥) → feed_signals inputs feed ≡ feed_signal inputs feed ∷ []
one_signal inputs Nothing some = absurd (some refl)
one_signal inputs (Pin cell output) some = refl
one_signal inputs (Label n) some = refl

-- the signals that a kind reads, of three
abbrev pub read_by : CellKind → ℕ → ℕ → ℕ → List ℕ
read_by Buffer a b c = a ∷ []
read_by Inverter a b c = a ∷ []
read_by Zero a b c = []
read_by One a b c = []
read_by Split2 a b c = a ∷ []
read_by Split3 a b c = a ∷ []
read_by Majority a b c = a ∷ b ∷ c ∷ []

pub some_feed : (cell : ExCell) → ((i : ℕ) → (feed_at cell i ≡ Nothing) ↔ (inputs_of cell.kind ≤ i)) → (i : ℕ)
    → i < inputs_of cell.kind → feed_at cell i ≡ Nothing → ⊥
some_feed cell feeds i h e = let past = (feeds i).0 e in omega (arith, past, h)

module _ (inputs : ℕ) (a b c : Feed) where
  abbrev signals : List ℕ
  signals = feed_signals inputs a ++ feed_signals inputs b ++ feed_signals inputs c

  none_read : a ≡ Nothing → b ≡ Nothing → c ≡ Nothing → signals ≡ []
  none_read e f g = λ i. no_signal inputs a e i ++ no_signal inputs b f i ++ no_signal inputs c g i

  one_read : (a ≡ Nothing → ⊥) → b ≡ Nothing → c ≡ Nothing → signals ≡ feed_signal inputs a ∷ []
  one_read e f g = λ i. one_signal inputs a e i ++ no_signal inputs b f i ++ no_signal inputs c g i

  three_read : (a ≡ Nothing → ⊥) → (b ≡ Nothing → ⊥) → (c ≡ Nothing → ⊥)
      → signals ≡ feed_signal inputs a ∷ feed_signal inputs b ∷ feed_signal inputs c ∷ []
  three_read e f g = λ i. one_signal inputs a e i ++ one_signal inputs b f i ++ one_signal inputs c g i

  read_is : (kind : CellKind) → (0 < inputs_of kind → a ≡ Nothing → ⊥) → (1 < inputs_of kind → b ≡ Nothing → ⊥)
      → (2 < inputs_of kind → c ≡ Nothing → ⊥)
      → (inputs_of kind ≤ 0 → a ≡ Nothing) → (inputs_of kind ≤ 1 → b ≡ Nothing) → (inputs_of kind ≤ 2 → c ≡ Nothing)
      → signals ≡ read_by kind (feed_signal inputs a) (feed_signal inputs b) (feed_signal inputs c)
  read_is Buffer e f g p q r = one_read (e (omega arith)) (q (omega arith)) (r (omega arith))
  read_is Inverter e f g p q r = one_read (e (omega arith)) (q (omega arith)) (r (omega arith))
  read_is Zero e f g p q r = none_read (p (omega arith)) (q (omega arith)) (r (omega arith))
  read_is One e f g p q r = none_read (p (omega arith)) (q (omega arith)) (r (omega arith))
  read_is Split2 e f g p q r = one_read (e (omega arith)) (q (omega arith)) (r (omega arith))
  read_is Split3 e f g p q r = one_read (e (omega arith)) (q (omega arith)) (r (omega arith))
  read_is Majority e f g p q r = three_read (e (omega arith)) (f (omega arith)) (g (omega arith))

pub feeds_are : (inputs c : ℕ) (cell : ExCell) → IsPlaced inputs c cell
    → all_feeds inputs cell ≡ read_by cell.kind (feed_signal inputs cell.feed0) (feed_signal inputs cell.feed1)
    (feed_signal inputs cell.feed2)
feeds_are inputs c cell is =
    read_is inputs cell.feed0 cell.feed1 cell.feed2 cell.kind (some_feed cell is.feeds 0) (some_feed cell is.feeds 1)
    (some_feed cell is.feeds 2)
    (λ h. (is.feeds 0).1 h) (λ h. (is.feeds 1).1 h) (λ h. (is.feeds 2).1 h)

read_count : (kind : CellKind) (a b c : ℕ) → length (read_by kind a b c) ≡ inputs_of kind
read_count Buffer a b c = refl
read_count Inverter a b c = refl
read_count Zero a b c = refl
read_count One a b c = refl
read_count Split2 a b c = refl
read_count Split3 a b c = refl
read_count Majority a b c = refl

kept_row : IsRow 1 (row (codes "1"))
kept_row = record { is_row = refl; shape = refl; value = refl; written = (refl, (refl, tt)) }

rows_fit : (kind : CellKind) → AllByRecursion (IsRow (inputs_of kind)) (rows_of kind)
rows_fit Buffer = (kept_row, tt)
rows_fit Inverter = (record { is_row = refl; shape = refl; value = refl; written = (refl, (refl, tt)) }, tt)
rows_fit Zero = tt
rows_fit One = (record { is_row = refl; shape = refl; value = refl; written = (refl, tt) }, tt)
rows_fit Split2 = (kept_row, tt)
rows_fit Split3 = (kept_row, tt)
rows_fit Majority = (
  record { is_row = refl; shape = refl; value = refl; written = (refl, (refl, tt)) },
  (
    record { is_row = refl; shape = refl; value = refl; written = (refl, (refl, tt)) },
    (record { is_row = refl; shape = refl; value = refl; written = (refl, (refl, tt)) }, tt),
  ),
)

feed_below : (inputs c : ℕ) (feed : Feed) → IsBelow inputs c feed
    → AllByRecursion (λ t. t < inputs + c) (feed_signals inputs feed)
feed_below inputs c Nothing is = tt
feed_below inputs c (Pin cell output) is = (omega (arith, is), tt)
feed_below inputs c (Label n) is = (omega (arith, is), tt)

cell_defined : (inputs c : ℕ) (cell : ExCell) → IsPlaced inputs c cell
    → IsDefinition (inputs + c) (cell_definition inputs cell)
cell_defined inputs c cell is =
    let P = λ (t : ℕ). t < inputs + c in
    let a = feed_signals inputs cell.feed0 in
    let b = feed_signals inputs cell.feed1 in
    let count : length (all_feeds inputs cell) ≡ inputs_of cell.kind = ap length (feeds_are inputs c cell is)
    ∙ read_count cell.kind (feed_signal inputs cell.feed0) (feed_signal inputs cell.feed1)
    (feed_signal inputs cell.feed2) in
    record {
      feeds = all_join P (a ++ b) (feed_signals inputs cell.feed2)
          (all_join P a b (feed_below inputs c cell.feed0 (is.below 0))
          (feed_below inputs c cell.feed1 (is.below 1))) (feed_below inputs c cell.feed2 (is.below 2));
      rows = subst (λ w. AllByRecursion (IsRow w) (rows_of cell.kind)) (sym count) (rows_fit cell.kind);
    }

outputs_defined : (inputs cells k : ℕ) (sources : List Source)
    → ((j : ℕ) (source : Source) → slice_get sources j ≡ Some source → source.cell < cells)
    → AreDefined (inputs + cells + k) (map (output_definition inputs) sources)
outputs_defined inputs cells k [] each = tt
outputs_defined inputs cells k (source ∷ sources) each =
    let here = each 0 source refl in
    let e : inputs + cells + (k + 1) ≡ inputs + cells + k + 1 = omega arith in (
      record { feeds = (omega (arith, here), tt); rows = (kept_row, tt) },
      subst (λ s. AreDefined s (map (output_definition inputs) sources)) e
          (outputs_defined inputs cells (k + 1) sources (λ j s is. each (suc j) s is)),
    )

cells_defined : (inputs c : ℕ) (list : List ExCell) (ds : List Definition)
    → ((j : ℕ) (cell : ExCell) → slice_get list j ≡ Some cell → IsPlaced inputs (c + j) cell)
    → AreDefined (inputs + c + length list) ds → AreDefined (inputs + c) (map (cell_definition inputs) list ++ ds)
cells_defined inputs c [] ds each rest =
    let e : inputs + c + 0 ≡ inputs + c = omega arith in
    subst (λ s. AreDefined s ds) e rest
cells_defined inputs c (cell ∷ list) ds each rest =
    let zero_more : c + 0 ≡ c = omega arith in
    let placed : IsPlaced inputs c cell = subst (λ x. IsPlaced inputs x cell) zero_more (each 0 cell refl) in
    let e : inputs + c + suc (length list) ≡ inputs + (c + 1) + length list = omega arith in
    let f : inputs + (c + 1) ≡ inputs + c + 1 = omega arith in
    let later : (j : ℕ) (other : ExCell) → slice_get list j ≡ Some other
    → IsPlaced inputs (c + 1 + j) other = λ j other at.
    (let g : c + suc j ≡ c + 1 + j = omega arith in subst (λ x. IsPlaced inputs x other) g
    (each (suc j) other at)) in (
      cell_defined inputs c cell placed,
      subst (λ s. AreDefined s (map (cell_definition inputs) list ++ ds)) f
          (cells_defined inputs (c + 1) list ds later (subst (λ s. AreDefined s ds) e rest)),
    )

pub are_defined : (circuit : CircuitView) → IsWritable circuit → AreDefined circuit.inputs (definitions_of circuit)
are_defined circuit ok =
    let inputs = circuit.inputs in
    let cells = length circuit.cells in
    let f : inputs + cells + 0 ≡ inputs + 0 + cells = omega arith in
    let g : inputs + 0 ≡ inputs = omega arith in
    let zero_more : (j : ℕ) (cell : ExCell) → slice_get circuit.cells j ≡ Some cell
    → IsPlaced inputs (0 + j) cell = λ j cell at.
    (let k : j ≡ 0 + j = omega arith in subst (λ x. IsPlaced inputs x cell) k (ok.placed j cell at)) in
    let ends = subst (λ s. AreDefined s (map (output_definition inputs) circuit.outputs)) f
    (outputs_defined inputs cells 0 circuit.outputs ok.shown) in
    subst (λ s. AreDefined s (definitions_of circuit)) g
    (cells_defined inputs 0 circuit.cells (map (output_definition inputs) circuit.outputs) zero_more ends)
