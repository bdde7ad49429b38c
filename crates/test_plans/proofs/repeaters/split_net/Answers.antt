use Rattle.std.proofs.Common.{refl, sym, subst, List, ◌∷◌, [], ℕ}
use Rattle.rowed.specs.declared.row_cell.RowCell.{RowCell}
use Rattle.rowed.specs.PlacedNets.{IsPlaced, PlacedView}
use Rattle.rowed.proofs.TestedNets.{placed_from_test}
use Rattle.rowed.specs.MadeCells.{input_cell}
use Rattle.std.specs.Prelude.{Some}
use Rattle.circuit.specs.declared.cell_kind.CellKind.TheVariants.{Split2}
use Rattle.repeater_rows.specs.Examples.{output, from_cell}
use Rattle.repeater_rows.specs.Repeaters.{buffer_from}
use Rattle.test_plans.proofs.repeaters.split_net.Goals as goal

net : PlacedView
net = record {
  net = record {
    inputs = 1;
    outputs = 2;
    rows = (input_cell 0 ∷ []) ∷ (record (buffer_from (from_cell 0)) { kind = Split2 } ∷ [])
        ∷ (record (buffer_from (record { cell = 0; output = 1 })) { output = Some 0 } ∷ output 0 1 ∷ []) ∷ [];
  };
  slots = (0 ∷ []) ∷ (0 ∷ []) ∷ (0 ∷ 2 ∷ []) ∷ [];
  lag = 0;
}

pub placed-requires : goal.placed-requires
unfolding net
placed-requires c =
    subst (λ (rows : List (List RowCell)). IsPlaced
    (record { net = record { inputs = 1; outputs = 2; rows = rows }; slots = c.in_ok-slots.slots.items; lag = 0 }))
    (sym c.in_ok-rows.ensures)
    (subst (λ (slots : List (List ℕ)). IsPlaced (record { net = net.net; slots = slots; lag = 0 }))
    (sym c.in_ok-slots.ensures)
    (placed_from_test net refl))
