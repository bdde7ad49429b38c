use Rattle.std.proofs.Common.{refl, sym, subst, List, ℕ}
use Rattle.rowed.specs.declared.row_cell.RowCell.{RowCell}
use Rattle.rowed.specs.PlacedNets.{IsPlaced}
use Rattle.rowed.proofs.TestedNets.{placed_from_test}
use Rattle.test_plans.specs.TestChips.{crossing_placed}
use Rattle.test_plans.proofs.drawings.crossing.Goals as goal

pub placed-requires : goal.placed-requires
placed-requires c =
    subst (λ (rows : List (List RowCell)). IsPlaced (record {
      net = record { inputs = 2; outputs = 2; rows = rows };
      slots = c.in_ok-slots.slots.items;
      lag = 0;
    }))
    (sym c.in_ok-rows.ensures)
    (subst (λ (slots : List (List ℕ)). IsPlaced (record { net = crossing_placed.net; slots = slots; lag = 0 }))
    (sym c.in_ok-slots.ensures) (placed_from_test crossing_placed refl))
