-- Lemmas: rows in another order, with their sources renumbered, answer every word as the net does.
use Rattle.std.proofs.Common.{◌≡◌, ℕ, zero, suc, pred, Bool, List, slice_get, Option, Some, None, refl, ap, ◌∙◌, subst}
use Rattle.circuit.specs.Function.{value_of}
use Rattle.circuit.specs.SameAnswers.{SameAnswers}
use Rattle.rowed.specs.declared.source.Source.{Source}
use Rattle.rowed.specs.declared.row_cell.RowCell.{RowCell}
use Rattle.rowed.specs.RowCells.{source_value, bit_or, cell_value}
use Rattle.rowed.specs.RowNets.{RowView, cell_at, output_at, IsBefore, last_of, IsRowNet, FitsRows, IsAnswer}
use Rattle.rowed.proofs.RowAnswers.{some_answer, one_answer}
use Rattle.sorting.specs.Numbers.{place_of}
use Rattle.row_place.specs.Places.{renumbered_pin, renumbered_cell}
use Rattle.row_place.proofs.Reordered.{IsReordered, new_place}
use Rattle.row_place.proofs.PlanKeeps.{shows_output, keeps_still}

-- the values of the net's cells, by those of the cells in the other order
abbrev values_by : (ℕ → List ℕ) → (ℕ → ℕ → Bool) → ℕ → ℕ → Bool
values_by before v r c = v r (place_of (before (suc r)) c)

same_value : (old : List ℕ) (v w : ℕ → Bool) (word : List Bool) (cell : RowCell)
    → source_value v (renumbered_pin old cell.source0) ≡ source_value w cell.source0
    → source_value v (renumbered_pin old cell.source1) ≡ source_value w cell.source1
    → source_value v (renumbered_pin old cell.source2) ≡ source_value w cell.source2
    → cell_value word v (renumbered_cell old cell) ≡ cell_value word w cell
same_value old v w word cell a b c =
    let given = λ (x y z : Bool). bit_or word cell.input (value_of cell.kind x y z) in
    ap (λ x. given x (source_value v (renumbered_pin old cell.source1))
    (source_value v (renumbered_pin old cell.source2))) a
    ∙ ap (λ y. given (source_value w cell.source0) y (source_value v (renumbered_pin old cell.source2))) b
    ∙ ap (given (source_value w cell.source0) (source_value w cell.source1)) c

-- the value of a source, by its new number and by its old one; the cells of the first row have none
source_still : (before : ℕ → List ℕ) (v : ℕ → ℕ → Bool) (rows : List (List RowCell)) (r : ℕ) (o : Option Source)
    → ((s : Source) → o ≡ Some s → IsBefore rows r s)
    → source_value (v (pred r)) (renumbered_pin (before r) o) ≡ source_value (values_by before v (pred r)) o
source_still before v rows r None has = refl
source_still before v rows zero (Some s) has = absurd (has s refl)
source_still before v rows (suc r) (Some s) has = refl

module _ (net new_net : RowView) (before : ℕ → List ℕ) (known : IsRowNet net)
    (same_inputs : new_net.inputs ≡ net.inputs)
    (same_outputs : new_net.outputs ≡ net.outputs) (is : IsReordered net.rows new_net.rows before) where
  fit_back : (word : List Bool) (v : ℕ → ℕ → Bool) → FitsRows word v new_net.rows
      → FitsRows word (values_by before v) net.rows
  fit_back word v fits r c cell e =
      let may = known.stands r c cell e in
      fits r (place_of (before (suc r)) c) (renumbered_cell (before r) cell)
      (new_place net.rows new_net.rows before is r c cell e)
      ∙ same_value (before r) (v (pred r)) (values_by before v (pred r)) word cell
      (source_still before v net.rows r cell.source0 (may.before 0))
      (source_still before v net.rows r cell.source1 (may.before 1))
      (source_still before v net.rows r cell.source2 (may.before 2))

  shown_back : (answer : List Bool) (v : ℕ → ℕ → Bool) (r : ℕ)
      → ((c i : ℕ) → output_at (cell_at new_net.rows r c) ≡ Some i → slice_get answer i ≡ Some (v r c))
      → (c i : ℕ) → output_at (cell_at net.rows r c) ≡ Some i → slice_get answer i ≡ Some (values_by before v r c)
  shown_back answer v r shown c i e =
      let x = shows_output (cell_at net.rows r c) i e in
      shown (place_of (before (suc r)) c) i (ap output_at (new_place net.rows new_net.rows before is r c x.0 x.1) ∙ x.2)

  answers_back : (word answer : List Bool) → IsAnswer new_net word answer → IsAnswer net word answer
  answers_back word answer a = record {
    values = values_by before a.values;
    fit = fit_back word a.values a.fit;
    long = a.long ∙ same_outputs;
    shown = shown_back answer a.values (last_of net.rows)
        (subst (λ (r : ℕ). (c i : ℕ) → output_at (cell_at new_net.rows r c) ≡ Some i
        → slice_get answer i ≡ Some (a.values r c)) (ap pred is.same_count) a.shown);
  }

  pub answers_still : SameAnswers net.inputs new_net.inputs net.outputs new_net.outputs
      (IsAnswer net) (IsAnswer new_net)
  answers_still = record {
    same_inputs = same_inputs;
    same_outputs = same_outputs;
    there = λ x y long answer.
        let s = some_answer new_net x (keeps_still net new_net before known same_inputs same_outputs is) in
        subst (IsAnswer new_net x) (one_answer net x s.0 y known (answers_back x s.0 s.1) answer) s.1;
    back = λ x y long answer. answers_back x y answer;
  }
