-- Rows whose labels pass the test answer as the graph: each cell has the value of its label.
use Rattle.std.proofs.Common.{◌≡◌, ◌+◌, ◌-◌, ◌*◌, ◌≤◌, ℕ, zero, suc, Bool, true, false, cond, List, [], ◌∷◌, Option}
use Rattle.std.proofs.Common.{Some, None, length, map, refl, sym, ap, subst, ◌∙◌, inl, inr, arith, ltb}
use Rattle.std.specs.Prelude.{◌/◌, ◌%◌, ◌==◌, not, slice_get, slice_index_or}
use Rattle.std.proofs.lemmas.Bool.{and_parts, eqb-true, eq-eqb, ne_eqb, ltb-true, lt-ltb, le-ltb, cases_lt}
use Rattle.std.proofs.lemmas.Option.{same_Some, none-some}
use Rattle.std.proofs.lemmas.List.{length-map}
use Rattle.circuit.specs.Function.{majority, value_of}
use Rattle.circuit.specs.OneAnswer.{HasOneAnswer}
use Rattle.circuit.specs.SameAnswers.{SameAnswers}
use Rattle.circuit.specs.declared.cell_kind.CellKind.{CellKind}
use Rattle.circuit.specs.declared.cell_kind.CellKind.TheVariants.{Buffer, Inverter, Zero, One, Split2, Split3, Majority}
use Rattle.rowed.specs.declared.source.Source.{Source}
use Rattle.rowed.specs.declared.row_cell.RowCell.{RowCell}
use Rattle.rowed.specs.RowCells.{source_value, bit_or, cell_value}
use Rattle.rowed.specs.RowNets.{RowView, IsRowNet, FitsRows, IsAnswer, cell_at, output_at, last_of}
use Rattle.rowed.proofs.RowAnswers.{one_answer}
use Rattle.mig.specs.declared.node.Node.{Node}
use Rattle.mig.specs.Graphs.{GraphView, literal_value, node_value, Fits, turned}
use Rattle.mig.specs.Graphs as graphs
use Rattle.placement_check.specs.Labels.{label_of, is_order, is_order_at, node_at, kind_shows, shows_input, shows}
use Rattle.placement_check.specs.Labels.{is_label, is_shown, fits, row_fits, rows_fit_from, rows_fit}
use Rattle.placement_check.proofs.Literals.{parity, even_value, odd_value, order_value, turned_order}
use Rattle.mig.proofs.Folded.{turned_value}

-- a node that is found is there
node_found : (g : GraphView) (n : ℕ) (node : Node) → node_at g n ≡ Some node
    → (slice_get g.nodes (n - (1 + g.inputs)) ≡ Some node) × (1 + g.inputs ≤ n)
node_found g n node e = elim (cases_lt n (1 + g.inputs)) [
  | inl lt ↦ absurd (none-some node
      (sym (ap (λ (b : Bool). cond b None (slice_get g.nodes (n - (1 + g.inputs)))) (lt-ltb n (1 + g.inputs) lt)) ∙ e))
  | inr ge ↦ (
    sym (ap (λ (b : Bool). cond b None (slice_get g.nodes (n - (1 + g.inputs))))
        (le-ltb n (1 + g.inputs) ge)) ∙ e,
    ge,
  )
]

module _ (g : GraphView) (word : List Bool) (v : ℕ → Bool) (fit : Fits g.inputs g.nodes word v) where
  -- the constants
  zero_value : literal_value v 0 ≡ false
  zero_value = even_value v 0 refl ∙ fit.none

  one_value : literal_value v 1 ≡ true
  one_value = odd_value v 1 refl ∙ ap not fit.none

  -- a majority
  by_node : (label a b c : ℕ) (o : Option Node) → node_at g (label / 2) ≡ o
      → is_order_at o (label % 2 == 0) a b c ≡ true
      → literal_value v label ≡ majority (literal_value v a) (literal_value v b) (literal_value v c)
  by_node label a b c None is e = absurd (cc)
  by_node label a b c (Some node) is e =
      let found = node_found g (label / 2) node is in
      let k = label / 2 - (1 + g.inputs) in
      let at : label / 2 ≡ 1 + g.inputs + k = omega (arith, found.1) in
      let val : v (label / 2) ≡ node_value v node = ap v at ∙ fit.of_node k node found.0 in
      let test = λ (t : Bool). cond t (is_order node a b c) (is_order node (turned a) (turned b) (turned c)) in
      elim (parity label) [
        | inl even ↦
            even_value v label even ∙ val
            ∙ order_value v node a b c (sym (ap test (eq-eqb (label % 2) 0 even)) ∙ e)
        | inr odd ↦
            odd_value v label odd ∙ ap not val
            ∙ turned_order v node a b c (sym (ap test (ne_eqb (label % 2) 0 (λ z. absurd (omega (arith, odd, z))))) ∙ e)
      ]

  -- a cell of a kind
  kind_value : (label a b c : ℕ) (kind : CellKind) → kind_shows g label kind a b c ≡ true
      → literal_value v label ≡ value_of kind (literal_value v a) (literal_value v b) (literal_value v c)
  kind_value label a b c Buffer e = ap (literal_value v) (eqb-true label a e)
  kind_value label a b c Inverter e = ap (literal_value v) (eqb-true label (turned a) e) ∙ turned_value v a
  kind_value label a b c Zero e = ap (literal_value v) (eqb-true label 0 e) ∙ zero_value
  kind_value label a b c One e = ap (literal_value v) (eqb-true label 1 e) ∙ one_value
  kind_value label a b c Split2 e = ap (literal_value v) (eqb-true label a e)
  kind_value label a b c Split3 e = ap (literal_value v) (eqb-true label a e)
  kind_value label a b c Majority e = by_node label a b c (node_at g (label / 2)) refl e

  -- a cell that may show an input
  input_value : (label : ℕ) (o : Option ℕ) (other value : Bool) → shows_input g label o other ≡ true
      → (other ≡ true → literal_value v label ≡ value) → literal_value v label ≡ bit_or word o value
  input_value label None other value e h = h e
  input_value label (Some i) other value e h =
      let parts = and_parts (ltb i g.inputs) (label == 2 * (1 + i)) e in
      let even : (2 * (1 + i)) % 2 ≡ 0 = omega arith in
      let half : (2 * (1 + i)) / 2 ≡ 1 + i = omega arith in
      ap (literal_value v) (eqb-true label (2 * (1 + i)) parts.1) ∙ even_value v (2 * (1 + i)) even ∙ ap v half
      ∙ fit.of_input i (ltb-true i g.inputs parts.0)

  abbrev pub shown : List ℕ → ℕ → Bool
  shown labels c = literal_value v (slice_index_or labels c 0)

  -- a source
  source_is : (below : List ℕ) (o : Option Source) → literal_value v (label_of below o) ≡ source_value (shown below) o
  source_is below None = zero_value
  source_is below (Some s) = refl

  -- a cell whose label passes the test
  cell_is : (below : List ℕ) (label : ℕ) (cell : RowCell) → shows g below cell label ≡ true
      → literal_value v label ≡ cell_value word (shown below) cell
  cell_is below label cell e =
      let a = label_of below cell.source0 in
      let b = label_of below cell.source1 in
      let c = label_of below cell.source2 in
      let w = λ (o : Option Source). source_value (shown below) o in
      input_value label cell.input (kind_shows g label cell.kind a b c)
      (value_of cell.kind (w cell.source0) (w cell.source1) (w cell.source2)) e
      (λ h. kind_value label a b c cell.kind h
      ∙ ap (λ (x : Bool). value_of cell.kind x (literal_value v b) (literal_value v c)) (source_is below cell.source0)
      ∙ ap (λ (x : Bool). value_of cell.kind (w cell.source0) x (literal_value v c)) (source_is below cell.source1)
      ∙ ap (λ (x : Bool). value_of cell.kind (w cell.source0) (w cell.source1) x) (source_is below cell.source2))

-- the labels of the row below row r
abbrev below_of : List ℕ → List (List ℕ) → ℕ → List ℕ
below_of below labels zero = below
below_of below labels (suc r) = slice_index_or labels r []

-- a cell of labelled rows passes the test
fits_in_row : (g : GraphView) (below : List ℕ) (cells : List RowCell) (labels : List ℕ)
    → row_fits g below cells labels ≡ true
    → (c : ℕ) (cell : RowCell) → slice_get cells c ≡ Some cell → fits g below (slice_index_or labels c 0) cell ≡ true
fits_in_row g below [] labels e c cell is = absurd (none-some cell is)
fits_in_row g below (x ∷ cells) [] e c cell is = absurd (cc)
fits_in_row g below (x ∷ cells) (l ∷ labels) e zero cell is =
    subst (λ (y : RowCell). fits g below l y ≡ true) (same_Some x cell is)
    (and_parts (fits g below l x) (row_fits g below cells labels) e).0
fits_in_row g below (x ∷ cells) (l ∷ labels) e (suc c) cell is =
    fits_in_row g below cells labels (and_parts (fits g below l x) (row_fits g below cells labels) e).1 c cell is

fits_at : (g : GraphView) (below : List ℕ) (rows : List (List RowCell)) (labels : List (List ℕ))
    → rows_fit_from g below rows labels ≡ true
    → (r c : ℕ) (cell : RowCell) → cell_at rows r c ≡ Some cell
    → fits g (below_of below labels r) (slice_index_or (slice_index_or labels r []) c 0) cell ≡ true
fits_at g below [] labels e r c cell is = absurd (none-some cell is)
fits_at g below (x ∷ rows) [] e r c cell is = absurd (cc)
fits_at g below (x ∷ rows) (l ∷ labels) e zero c cell is =
    fits_in_row g below x l (and_parts (row_fits g below x l) (rows_fit_from g l rows labels) e).0 c cell is
fits_at g below (x ∷ rows) (l ∷ labels) e (suc zero) c cell is =
    fits_at g l rows labels (and_parts (row_fits g below x l) (rows_fit_from g l rows labels) e).1 0 c cell is
fits_at g below (x ∷ rows) (l ∷ labels) e (suc (suc r)) c cell is =
    fits_at g l rows labels (and_parts (row_fits g below x l) (rows_fit_from g l rows labels) e).1 (suc r) c cell is

-- a cell without sources has one value over each row
no_source : (a b : ℕ → Bool) (o : Option Source) → ((s : Source) → o ≡ Some s → ⊥) → source_value a o ≡ source_value b o
no_source a b None none = refl
no_source a b (Some s) none = absurd (none s refl)

pub no_sources : (word : List Bool) (a b : ℕ → Bool) (cell : RowCell) → ((s : Source) → cell.source0 ≡ Some s → ⊥)
    → ((s : Source) → cell.source1 ≡ Some s → ⊥) → ((s : Source) → cell.source2 ≡ Some s → ⊥)
    → cell_value word a cell ≡ cell_value word b cell
no_sources word a b cell p q r =
    let given = λ (x y z : Bool). bit_or word cell.input (value_of cell.kind x y z) in
    ap (λ (x : Bool). given x (source_value a cell.source1) (source_value a cell.source2))
    (no_source a b cell.source0 p)
    ∙ ap (λ (y : Bool). given (source_value b cell.source0) y (source_value a cell.source2))
    (no_source a b cell.source1 q)
    ∙ ap (λ (z : Bool). given (source_value b cell.source0) (source_value b cell.source1) z)
    (no_source a b cell.source2 r)

-- an item of a mapped list
map_there : (f : ℕ → Bool) (xs : List ℕ) (i x : ℕ) → slice_get xs i ≡ Some x → slice_get (map f xs) i ≡ Some (f x)
map_there f [] i x e = absurd (none-some x e)
map_there f (y ∷ xs) zero x e = ap (λ (z : ℕ). Some (f z)) (same_Some y x e)
map_there f (y ∷ xs) (suc i) x e = map_there f xs i x e

-- the label of an output is its literal
label_is : (label : ℕ) (o : Option ℕ) → is_label label o ≡ true → o ≡ Some label
label_is label None e = absurd (cc)
label_is label (Some l) e = ap Some (eqb-true l label e)

output_label : (g : GraphView) (o : Option ℕ) (label k : ℕ) → is_shown g o label ≡ true → o ≡ Some k
    → slice_get g.outputs k ≡ Some label
output_label g None label k e is = absurd (none-some k is)
output_label g (Some j) label k e is =
    subst (λ (i : ℕ). slice_get g.outputs i ≡ Some label) (same_Some j k is) (label_is label (slice_get g.outputs j) e)

-- a cell that shows an output
output_cell : (o : Option RowCell) (i : ℕ) → output_at o ≡ Some i
    → (cell : RowCell) × (o ≡ Some cell) × (cell.output ≡ Some i)
output_cell None i e = absurd (none-some i e)
output_cell (Some cell) i e = (cell, refl, e)

module _ (g : GraphView) (net : RowView) (labels : List (List ℕ)) (known : IsRowNet net)
    (test : rows_fit g net.rows labels ≡ true) where
  fit_rows : (word : List Bool) (v : ℕ → Bool) → Fits g.inputs g.nodes word v
      → FitsRows word (λ (r c : ℕ). literal_value v (slice_index_or (slice_index_or labels r []) c 0)) net.rows
  fit_rows word v fit zero c cell is =
      let here = fits_at g [] net.rows labels test 0 c cell is in
      let label = slice_index_or (slice_index_or labels 0 []) c 0 in
      let may = known.stands 0 c cell is in
      let empty : List ℕ = [] in
      cell_is g word v fit [] label cell (and_parts (shows g [] cell label) (is_shown g cell.output label) here).0
      ∙ no_sources word (λ (d : ℕ). literal_value v (slice_index_or empty d 0))
      (λ (d : ℕ). literal_value v (slice_index_or (slice_index_or labels 0 []) d 0)) cell
      (may.before 0) (may.before 1) (may.before 2)
  fit_rows word v fit (suc r) c cell is =
      let here = fits_at g [] net.rows labels test (suc r) c cell is in
      let below = slice_index_or labels r [] in
      let label = slice_index_or (slice_index_or labels (suc r) []) c 0 in
      cell_is g word v fit below label cell (and_parts (shows g below cell label) (is_shown g cell.output label) here).0

  -- the answer of the graph is that of the rows
  there : net.outputs ≡ length g.outputs → (word answer : List Bool) → graphs.IsAnswer g word answer
      → IsAnswer net word answer
  there count word answer a = record {
    values = λ r c. literal_value a.values (slice_index_or (slice_index_or labels r []) c 0);
    fit = fit_rows word a.values a.fit;
    long = ap length a.shown ∙ length-map g.outputs (literal_value a.values) ∙ sym count;
    shown = λ c i e.
        let last = last_of net.rows in
        let cell = output_cell (cell_at net.rows last c) i e in
        let below = below_of [] labels last in
        let label = slice_index_or (slice_index_or labels last []) c 0 in
        let here = (and_parts (shows g below cell.0 label) (is_shown g cell.0.output label)
        (fits_at g [] net.rows labels test last c cell.0 cell.1)).1 in
        ap (λ (w : List Bool). slice_get w i) a.shown
        ∙ map_there (literal_value a.values) g.outputs i label (output_label g cell.0.output label i here cell.2);
  }

  -- and each has one answer
  pub same_answers : net.inputs ≡ g.inputs → net.outputs ≡ length g.outputs
      → HasOneAnswer g.inputs (length g.outputs) (graphs.IsAnswer g)
      → SameAnswers g.inputs net.inputs (length g.outputs) net.outputs (graphs.IsAnswer g) (IsAnswer net)
  same_answers inputs outputs once = record {
    same_inputs = inputs;
    same_outputs = outputs;
    there = λ x y long a. there outputs x y a;
    back = λ x y long a.
        let some = once.some x long in
        subst (λ (z : List Bool). graphs.IsAnswer g x z)
        (one_answer net x some.0 y known (there outputs x some.0 some.1) a) some.1;
  }
