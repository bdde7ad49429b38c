use Rattle.std.proofs.Common.{refl, sym, subst, List, ◌∷◌, [], ℕ}
use Rattle.rowed.specs.declared.row_cell.RowCell.{RowCell}
use Rattle.rowed.specs.PlacedNets.{IsPlaced, PlacedView}
use Rattle.rowed.proofs.TestedNets.{placed_from_test}
use Rattle.rowed.specs.MadeCells.{input_cell}
use Rattle.std.specs.Prelude.{map, ◌-◌}
use Rattle.sorting.specs.Numbers.{numbers}
use Rattle.repeater_rows.specs.Examples.{output}
use Rattle.test_plans.proofs.repeaters.turned.Goals as goal

net : PlacedView
net = record {
  net = record {
    inputs = 40;
    outputs = 40;
    rows = map (λ (i : ℕ). input_cell i) (numbers 0 40) ∷ map (λ (i : ℕ). output (39 - i) i) (numbers 0 40) ∷ [];
  };
  slots = numbers 0 40 ∷ numbers 0 40 ∷ [];
  lag = 0;
}

pub placed-requires : goal.placed-requires
unfolding net
placed-requires c =
    subst (λ (rows : List (List RowCell)). IsPlaced
    (record { net = record { inputs = 40; outputs = 40; rows = rows }; slots = c.in_ok-slots.slots.items; lag = 0 }))
    (sym c.in_ok-rows.ensures)
    (subst (λ (slots : List (List ℕ)). IsPlaced (record { net = net.net; slots = slots; lag = 0 }))
    (sym c.in_ok-slots.ensures)
    (placed_from_test net refl))
