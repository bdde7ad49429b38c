use Rattle.std.proofs.Common.{refl, sym, subst, List, ◌∷◌, [], ℕ, arith}
use Rattle.rowed.specs.declared.row_cell.RowCell.{RowCell}
use Rattle.rowed.specs.RowNets.{RowView}
use Rattle.rowed.specs.PlacedNets.{IsPlaced}
use Rattle.rowed.proofs.TestedNets.{row_net_from_test}
use Rattle.rowed.specs.MadeCells.{input_cell}
use Rattle.repeater_rows.specs.Examples.{output}
use Rattle.test_plans.proofs.repeaters.wire.Goals as goal

rows : List (List RowCell)
rows = (input_cell 0 ∷ []) ∷ (output 0 0 ∷ []) ∷ []

net : RowView
net = record { inputs = 1; outputs = 1; rows = rows }

pub placed-requires : goal.placed-requires
unfolding net rows
placed-requires c =
    subst (λ (rs : List (List RowCell)). IsPlaced
    (record { net = record { inputs = 1; outputs = 1; rows = rs }; slots = c.in_ok-slots.slots.items; lag = 0 }))
    (sym c.in_ok-rows.ensures)
    (subst (λ (ss : List (List ℕ)). IsPlaced (record { net = net; slots = ss; lag = 0 })) (sym c.in_ok-slots.ensures)
    (record {
      net_keeps = row_net_from_test net refl;
      seated = (
        (omega arith, omega (arith, c.ranges.from.fits), tt),
        ((omega arith, omega (arith, c.ranges.to.fits), tt), tt),
      );
    }))
