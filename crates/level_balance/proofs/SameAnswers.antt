-- The plan's rows answer every word as the gates do.
use Rattle.std.specs.Prelude.{◌≡◌, ℕ, Bool, false, List, length, slice_get, Option, Some, None}
use Rattle.std.proofs.Common.{refl, sym, ap, ◌∙◌, subst, arith, get_or}
use Rattle.std.proofs.lemmas.List.{ext_get_or, length-map, get_or-map}
use Rattle.std.proofs.lemmas.Option.{none-some, slice_get-get_or, get_or_from_slice_get}
use Rattle.circuit.specs.PlainNets.{PlainView, IsPlainNet, IsAnswer as IsGatesAnswer}
use Rattle.circuit.proofs.CellAnswers.{plain_is_cells, some_answer as some_gates_answer}
use Rattle.circuit.specs.SameAnswers.{SameAnswers}
use Rattle.rowed.specs.declared.row_cell.RowCell.{RowCell}
use Rattle.rowed.specs.RowNets.{cell_at, output_at, last_of, IsRowNet, IsAnswer}
use Rattle.rowed.proofs.RowAnswers.{some_answer}
use Rattle.level_balance.specs.Plan.{level_net}
use Rattle.level_balance.proofs.Frames.{level_law}
use Rattle.level_balance.proofs.Plain.{is_plain}

shown_cell : (o : Option RowCell) (i : ℕ) → output_at o ≡ Some i → (cell : RowCell)
    × (o ≡ Some cell) × (cell.output ≡ Some i)
shown_cell None i e = absurd (none-some i e)
shown_cell (Some cell) i e = (cell, refl, e)

-- the answers of both are one
one_of_both : (net : PlainView) (three : Bool) → IsPlainNet net → IsRowNet (level_net net three)
    → (word a b : List Bool) → IsGatesAnswer net word a → IsAnswer (level_net net three) word b → a ≡ b
unfolding level_net
one_of_both net three known kept word a b p q =
    let rows = (level_net net three).rows in
    let count : length a ≡ length net.outputs = ap length p.shown ∙ length-map net.outputs p.values in
    ext_get_or false a b (count ∙ sym q.long) (λ i lt.
    let one = kept.each_output i (omega arith) in
    let x = shown_cell (cell_at rows (last_of rows) one.which) i one.there in
    let o = get_or net.outputs i 0 in
    let here : slice_get net.outputs i ≡ Some o = slice_get-get_or net.outputs i 0 (omega arith) in
    ap (λ (t : List Bool). get_or t i false) p.shown ∙ get_or-map p.values net.outputs i 0 false (omega arith)
    ∙ sym (level_law net three (is_plain net known) word p.values q.values p.fit q.fit
    (last_of rows) one.which x.0 i o x.1 x.2 here)
    ∙ sym (get_or_from_slice_get b i (q.values (last_of rows) one.which) false (q.shown one.which i one.there)))

pub same_answers : (net : PlainView) (three : Bool) → IsPlainNet net → IsRowNet (level_net net three)
    → SameAnswers net.inputs (level_net net three).inputs (length net.outputs) (level_net net three).outputs
    (IsGatesAnswer net) (IsAnswer (level_net net three))
unfolding level_net
same_answers net three known kept = record {
  same_inputs = refl;
  same_outputs = refl;
  there = λ x y long answer.
      let s = some_answer (level_net net three) x kept in
      subst (IsAnswer (level_net net three) x) (sym (one_of_both net three known kept x y s.0 answer s.1)) s.1;
  back = λ x y long answer.
      let s = some_gates_answer net x (plain_is_cells net known) in
      subst (IsGatesAnswer net x) (one_of_both net three known kept x s.0 y s.1 answer) s.1;
}
