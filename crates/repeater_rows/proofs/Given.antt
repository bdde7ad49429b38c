-- The rows that are made are the plan's, and the plan is what the pass is to give wherever nothing is to be refused.
use Rattle.std.proofs.Common.{◌≡◌, ℕ, ◌≤◌, List, Option, Some, None, length, map, refl, sym, ap, ◌∙◌, subst, inl, inr}
use Rattle.std.proofs.lemmas.Bool.{cases_lt}
use Rattle.circuit.specs.SameAnswers.{SameAnswers}
use Rattle.rowed.specs.RowNets.{IsAnswer}
use Rattle.std.proofs.lemmas.List.{length-map}
use Rattle.rowed.specs.declared.row_cell.RowCell.{RowCell}
use Rattle.rowed.specs.PlacedNets.{PlacedRow, PlacedView, IsPlaced, placed_rows}
use Rattle.rowed.specs.Limits.{height_limit}
use Rattle.repeater_rows.specs.Repeaters.{repeated, repeated_rows}
use Rattle.rowed.proofs.RowsAboveLaws.{placed_rows_of}
use Rattle.repeater_rows.proofs.KeptLaws.{repeaters_keep}
use Rattle.repeater_rows.proofs.AnswerLaws.{repeaters_answer}
use Rattle.repeater_rows.specs.Passes.{AreRepeated, IsTooLarge, cells_past, height_of}
use Rattle.repeater_rows.specs.declared.pass.RepeatRefusal.{RepeatRefusal}
use Rattle.repeater_rows.specs.declared.pass.RepeatRefusal.TheVariants.{TooManyCells, TooTall}

pub made_is : (p : PlacedView) (reach inputs outputs : ℕ) (cells : List (List RowCell)) (slots : List (List ℕ))
    → inputs ≡ p.net.inputs → outputs ≡ p.net.outputs
    → cells ≡ map (λ (row : PlacedRow). row.cells) (repeated_rows reach (placed_rows p))
    → slots ≡ map (λ (row : PlacedRow). row.slots) (repeated_rows reach (placed_rows p))
    → record { net = record { inputs = inputs; outputs = outputs; rows = cells }; slots = slots; lag = 0 }
    ≡ repeated p reach
unfolding repeated
made_is p reach inputs outputs cells slots i o c s =
    ap (λ (x : ℕ). record { net = record { inputs = x; outputs = outputs; rows = cells }; slots = slots; lag = 0 }) i
    ∙ ap (λ (x : ℕ). record {
      net = record { inputs = p.net.inputs; outputs = x; rows = cells };
      slots = slots;
      lag = 0;
    }) o
    ∙ ap (λ (x : List (List RowCell)). record {
      net = record { inputs = p.net.inputs; outputs = p.net.outputs; rows = x };
      slots = slots;
      lag = 0;
    }) c
    ∙ ap (λ (x : List (List ℕ)). record {
      net =
          record {
            inputs = p.net.inputs;
            outputs = p.net.outputs;
            rows = map (λ (row : PlacedRow). row.cells) (repeated_rows reach (placed_rows p));
          };
      slots = x;
      lag = 0;
    }) s

rows_of_plan : (p : PlacedView) (reach : ℕ) → placed_rows (repeated p reach) ≡ repeated_rows reach (placed_rows p)
unfolding repeated
rows_of_plan p reach = placed_rows_of p.net.inputs p.net.outputs (repeated_rows reach (placed_rows p))

many_of_plan : (p : PlacedView) (reach : ℕ)
    → length (repeated p reach).net.rows ≡ length (repeated_rows reach (placed_rows p))
unfolding repeated
many_of_plan p reach = length-map (repeated_rows reach (placed_rows p)) (λ (row : PlacedRow). row.cells)

given_by : (p : PlacedView) (reach height channel rows : ℕ) (out : PlacedView) → IsPlaced p
    → 2 ≤ reach → out ≡ repeated p reach
    → rows ≡ length (repeated_rows reach (placed_rows p)) → cells_past 0 (repeated_rows reach (placed_rows p)) ≡ None
    → height_of height channel rows ≤ height_limit
    → AreRepeated p reach height channel out
given_by p reach height channel rows out known two is count few low = record {
  net_keeps = known;
  out_keeps = subst IsPlaced (sym is) (repeaters_keep p reach known two few);
  is_plan = is;
  few_cells = ap (λ (q : PlacedView). cells_past 0 (placed_rows q)) is ∙ ap (cells_past 0) (rows_of_plan p reach) ∙ few;
  not_tall = subst (λ (n : ℕ). height_of height channel n ≤ height_limit)
      (count ∙ sym (ap (λ (q : PlacedView). length q.net.rows) is ∙ many_of_plan p reach)) low;
  same = subst (λ (q : PlacedView). SameAnswers p.net.inputs q.net.inputs p.net.outputs q.net.outputs (IsAnswer p.net)
      (IsAnswer q.net)) (sym is)
      (repeaters_answer p reach known (repeaters_keep p reach known two few));
}

pub given_unless_refused : (p : PlacedView) (reach height channel : ℕ) → IsPlaced p → 2 ≤ reach
    → ((refusal : RepeatRefusal) → IsTooLarge p reach height channel refusal → ⊥)
    → AreRepeated p reach height channel (repeated p reach)
given_unless_refused p reach height channel known two none =
    within (cells_past 0 (repeated_rows reach (placed_rows p))) refl
  where
    rows : ℕ
    rows = length (repeated_rows reach (placed_rows p))

    within : (past : Option ℕ) → cells_past 0 (repeated_rows reach (placed_rows p)) ≡ past
        → AreRepeated p reach height channel (repeated p reach)
    within (Some cells) e = absurd (none (TooManyCells cells) e)
    within None e = elim (cases_lt height_limit (height_of height channel rows)) [
      | inl tall ↦ absurd (none (TooTall rows) (e, tall, refl))
      | inr low ↦ given_by p reach height channel rows (repeated p reach) known two refl refl e low
    ]

pub given_repeated : (p : PlacedView) (reach height channel rows inputs outputs : ℕ) (cells : List (List RowCell))
    (slots : List (List ℕ)) → IsPlaced p → 2 ≤ reach
    → inputs ≡ p.net.inputs → outputs ≡ p.net.outputs
    → cells ≡ map (λ (row : PlacedRow). row.cells) (repeated_rows reach (placed_rows p))
    → slots ≡ map (λ (row : PlacedRow). row.slots) (repeated_rows reach (placed_rows p))
    → rows ≡ length (repeated_rows reach (placed_rows p)) → cells_past 0 (repeated_rows reach (placed_rows p)) ≡ None
    → height_of height channel rows ≤ height_limit
    → AreRepeated p reach height channel
    (record { net = record { inputs = inputs; outputs = outputs; rows = cells }; slots = slots; lag = 0 })
given_repeated p reach height channel rows inputs outputs cells slots known two i o c s =
    given_by p reach height channel rows
    (record { net = record { inputs = inputs; outputs = outputs; rows = cells }; slots = slots; lag = 0 }) known two
    (made_is p reach inputs outputs cells slots i o c s)
