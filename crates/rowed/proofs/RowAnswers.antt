-- A net in rows has one answer to each word: each row's values follow from those of the row before.
use Rattle.std.specs.Prelude.{◌≡◌, ◌≢◌, ℕ, zero, suc, pred, ◌+◌, ◌<◌, ◌≤◌, Bool, false, List, [], ◌∷◌, length, map}
use Rattle.std.specs.Prelude.{take, replicate, slice_get, slice_set, Option, Some, None}
use Rattle.std.proofs.Common.{refl, sym, ap, ◌∙◌, arith}
use Rattle.std.proofs.lemmas.List.{take_all, ext_get_or, length-replicate, length-set}
use Rattle.std.proofs.lemmas.Option.{get_or_from_slice_get, same_Some, none-some}
use Rattle.circuit.specs.Function.{value_of}
use Rattle.circuit.specs.Gates.{valuation}
use Rattle.circuit.specs.OneAnswer.{HasOneAnswer}
use Rattle.rowed.specs.declared.source.Source.{Source}
use Rattle.rowed.specs.declared.row_cell.RowCell.{RowCell}
use Rattle.rowed.specs.RowCells.{source_value, bit_or, cell_value}
use Rattle.rowed.specs.RowNets.{RowView, row_at, cell_at, outputs_at, output_at, IsBefore, MayStand, last_of, IsRowNet}
use Rattle.rowed.specs.RowNets.{FitsRows, IsAnswer}
use Rattle.rowed.specs.PlacedNets.{PlacedView, IsPlaced}
use Rattle.rowed.specs.Code.RowByRow.{last_values, with_value, shown_from}

-- values that agree at what feeds a pin give it one value
same_source : (rows : List (List RowCell)) (r : ℕ) (v w : ℕ → Bool)
    → ((s : Source) → IsBefore rows r s → v s.cell ≡ w s.cell)
    → (o : Option Source) → ((s : Source) → o ≡ Some s → IsBefore rows r s) → source_value v o ≡ source_value w o
same_source rows r v w same None has = refl
same_source rows r v w same (Some s) has = same s (has s refl)

-- so values that agree in the row before give a cell one value
same_cell : (net : RowView) (r : ℕ) (cell : RowCell) → MayStand net r cell → (word : List Bool) (v w : ℕ → Bool)
    → ((s : Source) → IsBefore net.rows r s → v s.cell ≡ w s.cell) → cell_value word v cell ≡ cell_value word w cell
same_cell net r cell may word v w same =
    let a = same_source net.rows r v w same cell.source0 (may.before 0) in
    let b = same_source net.rows r v w same cell.source1 (may.before 1) in
    let c = same_source net.rows r v w same cell.source2 (may.before 2) in
    let given = λ (x y z : Bool). bit_or word cell.input (value_of cell.kind x y z) in
    ap (λ x. given x (source_value v cell.source1) (source_value v cell.source2)) a
    ∙ ap (λ y. given (source_value w cell.source0) y (source_value v cell.source2)) b
    ∙ ap (given (source_value w cell.source0) (source_value w cell.source1)) c

-- where a cell has an output, there is a cell
some_cell : (o : Option RowCell) (n : ℕ) → n < outputs_at o → (cell : RowCell) × (o ≡ Some cell)
some_cell None n lt = absurd (omega arith)
some_cell (Some cell) n lt = (cell, refl)

-- where an output is shown, there is a cell
shows_cell : (o : Option RowCell) (i : ℕ) → output_at o ≡ Some i → (cell : RowCell) × (o ≡ Some cell)
shows_cell None i e = absurd (none-some i e)
shows_cell (Some cell) i e = (cell, refl)

module _ (net : RowView) (known : IsRowNet net) (word : List Bool) where
  -- two valuations agree at each cell
  pub one_valuation : (v w : ℕ → ℕ → Bool) → FitsRows word v net.rows → FitsRows word w net.rows
      → (r c : ℕ) (cell : RowCell) → cell_at net.rows r c ≡ Some cell → v r c ≡ w r c
  one_valuation v w first second zero c cell is =
      first 0 c cell is ∙ same_cell net 0 cell (known.stands 0 c cell is) word (v 0) (w 0) (λ s none. absurd none)
      ∙ sym (second 0 c cell is)
  one_valuation v w first second (suc r) c cell is =
      first (suc r) c cell is
      ∙ same_cell net (suc r) cell (known.stands (suc r) c cell is) word (v r) (w r)
      (λ s has. let there = some_cell (cell_at net.rows r s.cell) s.output has in
      one_valuation v w first second r s.cell there.0 there.1)
      ∙ sym (second (suc r) c cell is)

-- the values of row r of evaluated rows
evaluated : List Bool → List (List RowCell) → ℕ → ℕ → Bool
evaluated word rows r = valuation (last_values word [] (take (suc r) rows))

-- the values of row r are those of its cells, from the values of the rows before
last_step : (word below : List Bool) (rows : List (List RowCell)) (r : ℕ) → r < length rows
    → last_values word below (take (suc r) rows)
    ≡ map (cell_value word (valuation (last_values word below (take r rows)))) (row_at rows r)
last_step word below [] r lt = absurd (omega arith)
last_step word below (row ∷ rows) zero lt = refl
last_step word below (row ∷ rows) (suc r) lt =
    last_step word (map (cell_value word (valuation below)) row) rows r (omega arith)

-- the value at a cell's place is the cell's
map_at : (f : RowCell → Bool) (cells : List RowCell) (c : ℕ) (cell : RowCell) → slice_get cells c ≡ Some cell
    → valuation (map f cells) c ≡ f cell
map_at f [] c cell is = absurd (none-some cell is)
map_at f (x ∷ cells) zero cell is = ap f (same_Some x cell is)
map_at f (x ∷ cells) (suc c) cell is = map_at f cells c cell is

-- a row with a cell is one of the rows
row_within : (rows : List (List RowCell)) (r c : ℕ) (cell : RowCell) → cell_at rows r c ≡ Some cell → r < length rows
row_within [] r c cell is = absurd (none-some cell is)
row_within (row ∷ rows) zero c cell is = omega arith
row_within (row ∷ rows) (suc r) c cell is = let more = row_within rows r c cell is in omega arith

-- the evaluated value of a cell, from the values of the rows before
evaluated_at : (word : List Bool) (rows : List (List RowCell)) (r c : ℕ) (cell : RowCell) → cell_at rows r c ≡ Some cell
    → evaluated word rows r c ≡ cell_value word (valuation (last_values word [] (take r rows))) cell
unfolding evaluated
evaluated_at word rows r c cell is =
    ap (λ (vs : List Bool). valuation vs c) (last_step word [] rows r (row_within rows r c cell is))
    ∙ map_at (cell_value word (valuation (last_values word [] (take r rows)))) (row_at rows r) c cell is

-- the evaluated values fit
evaluated_fit : (net : RowView) → IsRowNet net → (word : List Bool) → FitsRows word (evaluated word net.rows) net.rows
unfolding evaluated
evaluated_fit net known word zero c cell is =
    evaluated_at word net.rows 0 c cell is
    ∙ same_cell net 0 cell (known.stands 0 c cell is) word (valuation []) (evaluated word net.rows 0)
    (λ s none. absurd none)
evaluated_fit net known word (suc r) c cell is = evaluated_at word net.rows (suc r) c cell is

-- a word with a value set has it there
set_there : (answer : List Bool) (i : ℕ) (value : Bool) → i < length answer
    → slice_get (slice_set answer i value) i ≡ Some value
set_there [] i value lt = absurd (omega arith)
set_there (x ∷ answer) zero value lt = refl
set_there (x ∷ answer) (suc i) value lt = set_there answer i value (omega arith)

-- and is elsewhere as before
set_apart : (answer : List Bool) (i j : ℕ) (value : Bool) → i ≢ j
    → slice_get (slice_set answer i value) j ≡ slice_get answer j
set_apart [] i j value other = refl
set_apart (x ∷ answer) zero zero value other = absurd (other refl)
set_apart (x ∷ answer) zero (suc j) value other = refl
set_apart (x ∷ answer) (suc i) zero value other = refl
set_apart (x ∷ answer) (suc i) (suc j) value other = set_apart answer i j value (λ e. other (ap suc e))

-- showing a value keeps the length of a word
with_length : (o : Option ℕ) (value : Bool) (answer : List Bool) → length (with_value o value answer) ≡ length answer
with_length None value answer = refl
with_length (Some i) value answer = length-set answer i value

-- a shown value stands at its output
with_there : (o : Option ℕ) (i : ℕ) (value : Bool) (answer : List Bool) → o ≡ Some i → i < length answer
    → slice_get (with_value o value answer) i ≡ Some value
with_there None i value answer e lt = absurd (none-some i e)
with_there (Some j) i value answer e lt =
    ap (λ (k : ℕ). slice_get (slice_set answer k value) i) (same_Some j i e) ∙ set_there answer i value lt

-- and elsewhere the word is as before
with_apart : (o : Option ℕ) (i : ℕ) (value : Bool) (answer : List Bool) → (o ≡ Some i → ⊥)
    → slice_get (with_value o value answer) i ≡ slice_get answer i
with_apart None i value answer other = refl
with_apart (Some j) i value answer other = set_apart answer j i value (λ e. other (ap (λ (k : ℕ). Some k) e))

-- showing the values of cells keeps the length of a word
pub shown_length : (values : ℕ → Bool) (c : ℕ) (cells : List RowCell) (answer : List Bool)
    → length (shown_from values c cells answer) ≡ length answer
shown_length values c [] answer = refl
shown_length values c (cell ∷ cells) answer =
    shown_length values (suc c) cells (with_value cell.output (values c) answer)
    ∙ with_length cell.output (values c) answer

-- an output that no cell shows is as before
shown_apart : (values : ℕ → Bool) (c : ℕ) (cells : List RowCell) (answer : List Bool) (i : ℕ)
    → ((d : ℕ) → output_at (slice_get cells d) ≡ Some i → ⊥)
    → slice_get (shown_from values c cells answer) i ≡ slice_get answer i
shown_apart values c [] answer i none = refl
shown_apart values c (cell ∷ cells) answer i none =
    shown_apart values (suc c) cells (with_value cell.output (values c) answer) i (λ d. none (suc d))
    ∙ with_apart cell.output i (values c) answer (none 0)

-- an output that one cell alone shows has the cell's value
shown_there : (values : ℕ → Bool) (c : ℕ) (cells : List RowCell) (answer : List Bool) (k i : ℕ) → i < length answer
    → output_at (slice_get cells k) ≡ Some i → ((d : ℕ) → output_at (slice_get cells d) ≡ Some i → d ≡ k)
    → slice_get (shown_from values c cells answer) i ≡ Some (values (c + k))
shown_there values c [] answer k i lt e only = absurd (none-some i e)
shown_there values c (cell ∷ cells) answer zero i lt e only =
    shown_apart values (suc c) cells (with_value cell.output (values c) answer) i
    (λ d has. let past = only (suc d) has in omega arith)
    ∙ with_there cell.output i (values c) answer e lt ∙ ap (λ (k : ℕ). Some (values k)) (omega arith)
shown_there values c (cell ∷ cells) answer (suc k) i lt e only =
    let long = with_length cell.output (values c) answer in
    shown_there values (suc c) cells (with_value cell.output (values c) answer) k i (omega arith) e
    (λ d has. let next = only (suc d) has in omega arith)
    ∙ ap (λ (k : ℕ). Some (values k)) (omega arith)

-- the rows up to the last are all rows
up_to_last : (n : ℕ) → n ≤ suc (pred n)
up_to_last n = omega arith

-- what is shown of evaluated rows
unfoldable pub evaluated_word : RowView → List Bool → List Bool
evaluated_word net word =
    shown_from (valuation (last_values word [] net.rows)) 0 (row_at net.rows (last_of net.rows))
    (replicate net.outputs false)

-- is an answer
pub evaluated_answer : (net : RowView) (word : List Bool) → IsRowNet net → IsAnswer net word (evaluated_word net word)
unfolding evaluated evaluated_word
evaluated_answer net word known =
    let last = last_of net.rows in
    let values = valuation (last_values word [] net.rows) in
    let empty = replicate {A = Bool} net.outputs false in
    let empty_length : length empty ≡ net.outputs = length-replicate net.outputs false in
    record {
      values = evaluated word net.rows;
      fit = evaluated_fit net known word;
      long = shown_length values 0 (row_at net.rows last) empty ∙ empty_length;
      shown = λ c i is.
          let there = shows_cell (cell_at net.rows last c) i is in
          let below = (known.stands last c there.0 there.1).output_below i (sym (ap output_at there.1) ∙ is) in
          let one = known.each_output i below in
          shown_there values 0 (row_at net.rows last) empty c i (omega arith) is
          (λ d has. one.only d has ∙ sym (one.only c is))
          ∙ ap (λ (k : ℕ). Some (values k)) (let k : 0 + c ≡ c = omega arith in k)
          ∙ ap (λ (rows : List (List RowCell)). Some (valuation (last_values word [] rows) c))
          (sym (take_all (suc last) net.rows (up_to_last (length net.rows))));
    }

-- so each word has an answer
pub some_answer : (net : RowView) (word : List Bool) → IsRowNet net → (answer : List Bool) × IsAnswer net word answer
some_answer net word known = (evaluated_word net word, evaluated_answer net word known)

-- and no other
pub one_answer : (net : RowView) (word a b : List Bool) → IsRowNet net → IsAnswer net word a → IsAnswer net word b
    → a ≡ b
one_answer net word a b known p q =
    let last = last_of net.rows in
    let sizes = p.long ∙ sym q.long in
    ext_get_or false a b sizes (λ i lt.
    let long = p.long in
    let one = known.each_output i (omega arith) in
    let there = shows_cell (cell_at net.rows last one.which) i one.there in
    get_or_from_slice_get a i (p.values last one.which) false (p.shown one.which i one.there)
    ∙ one_valuation net known word p.values q.values p.fit q.fit last one.which there.0 there.1
    ∙ sym (get_or_from_slice_get b i (q.values last one.which) false (q.shown one.which i one.there)))

-- so a net in rows has one answer to each word
pub rows_once : (net : RowView) → IsRowNet net → HasOneAnswer net.inputs net.outputs (IsAnswer net)
rows_once net known = record {
  some = λ x long. some_answer net x known;
  only = λ x y z long a b. one_answer net x y z known a b;
  whole = λ x y long a. a.long;
}

-- and so has a placed net
pub placed_once : (p : PlacedView) → IsPlaced p → HasOneAnswer p.net.inputs p.net.outputs (IsAnswer p.net)
placed_once p known = rows_once p.net known.net_keeps
