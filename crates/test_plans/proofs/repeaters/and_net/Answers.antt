use Rattle.std.proofs.Common.{refl, sym, subst, List, ◌∷◌, [], ℕ}
use Rattle.rowed.specs.declared.row_cell.RowCell.{RowCell}
use Rattle.rowed.specs.PlacedNets.{IsPlaced, PlacedView}
use Rattle.rowed.proofs.TestedNets.{placed_from_test}
use Rattle.repeater_rows.specs.Examples.{and_inputs, and_gate, output}
use Rattle.test_plans.proofs.repeaters.and_net.Goals as goal

net : PlacedView
net = record {
  net = record { inputs = 2; outputs = 1; rows = and_inputs.cells ∷ and_gate.cells ∷ (output 0 0 ∷ []) ∷ [] };
  slots = (0 ∷ 1 ∷ 2 ∷ []) ∷ (0 ∷ []) ∷ (0 ∷ []) ∷ [];
  lag = 0;
}

pub placed-requires : goal.placed-requires
unfolding net
placed-requires c =
    subst (λ (rows : List (List RowCell)). IsPlaced
    (record { net = record { inputs = 2; outputs = 1; rows = rows }; slots = c.in_ok-slots.slots.items; lag = 0 }))
    (sym c.in_ok-rows.ensures)
    (subst (λ (slots : List (List ℕ)). IsPlaced (record { net = net.net; slots = slots; lag = 0 }))
    (sym c.in_ok-slots.ensures)
    (placed_from_test net refl))
