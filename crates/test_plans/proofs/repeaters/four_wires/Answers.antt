use Rattle.std.proofs.Common.{refl, sym, subst, List, ◌∷◌, [], ℕ}
use Rattle.rowed.specs.declared.row_cell.RowCell.{RowCell}
use Rattle.rowed.specs.PlacedNets.{IsPlaced, PlacedView}
use Rattle.rowed.proofs.TestedNets.{placed_from_test}
use Rattle.rowed.specs.MadeCells.{input_cell}
use Rattle.repeater_rows.specs.Examples.{output}
use Rattle.test_plans.proofs.repeaters.four_wires.Goals as goal

net : PlacedView
net = record {
  net = record {
    inputs = 4;
    outputs = 4;
    rows = (input_cell 0 ∷ input_cell 1 ∷ input_cell 2 ∷ input_cell 3 ∷ [])
        ∷ (output 2 0 ∷ output 3 1 ∷ output 1 2 ∷ output 0 3 ∷ []) ∷ [];
  };
  slots = (0 ∷ 1 ∷ 6 ∷ 7 ∷ []) ∷ (0 ∷ 2 ∷ 5 ∷ 7 ∷ []) ∷ [];
  lag = 0;
}

pub placed-requires : goal.placed-requires
unfolding net
placed-requires c =
    subst (λ (rows : List (List RowCell)). IsPlaced
    (record { net = record { inputs = 4; outputs = 4; rows = rows }; slots = c.in_ok-slots.slots.items; lag = 0 }))
    (sym c.in_ok-rows.ensures)
    (subst (λ (slots : List (List ℕ)). IsPlaced (record { net = net.net; slots = slots; lag = 0 }))
    (sym c.in_ok-slots.ensures)
    (placed_from_test net refl))
