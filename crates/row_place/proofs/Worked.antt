-- The places of small nets, computed.
use Rattle.std.specs.Prelude.{◌≡◌, [], ◌∷◌, refl}
use Rattle.circuit.specs.declared.cell_kind.CellKind.TheVariants.{Buffer, Zero, One, Split2}
use Rattle.row_place.specs.Places.{place}
use Rattle.rowed.specs.MadeCells.{bare_cell, fed_cell, input_cell, output_cell}
use Rattle.row_place.specs.Examples.{first, second, majority, and_net, tied_net, split_net, keys}

pub and_keys : keys and_net 0 3 ≡ 0 ∷ 6 ∷ 3 ∷ []
unfolding keys and_net
and_keys = refl

pub and_rows : (place and_net).net.rows ≡ (input_cell 0 ∷ bare_cell Zero ∷ input_cell 1 ∷ []) ∷ (majority 0 1 2 ∷ [])
    ∷ (output_cell (first 0) 0 ∷ []) ∷ []
unfolding place and_net
and_rows = refl

pub and_slots : (place and_net).slots ≡ (0 ∷ 1 ∷ 2 ∷ []) ∷ (0 ∷ []) ∷ (0 ∷ []) ∷ []
unfolding place and_net
and_slots = refl

pub majority_key : keys and_net 1 1 ≡ 6 ∷ []
unfolding keys and_net
majority_key = refl

pub tied_keys : keys tied_net 0 4 ≡ 0 ∷ 6 ∷ 0 ∷ 0 ∷ []
unfolding keys tied_net
tied_keys = refl

pub tied_rows : (place tied_net).net.rows
    ≡ (input_cell 0 ∷ bare_cell Zero ∷ bare_cell One ∷ input_cell 1 ∷ []) ∷ (fed_cell Buffer
    (first 0) ∷ majority 3 1 2 ∷ []) ∷ (output_cell (first 0) 1 ∷ output_cell (first 1) 0 ∷ []) ∷ []
unfolding place tied_net
tied_rows = refl

pub tied_slots : (place tied_net).slots ≡ (0 ∷ 1 ∷ 2 ∷ 3 ∷ []) ∷ (0 ∷ 1 ∷ []) ∷ (0 ∷ 1 ∷ []) ∷ []
unfolding place tied_net
tied_slots = refl

pub split_rows : (place split_net).net.rows
    ≡ (input_cell 0 ∷ input_cell 1 ∷ []) ∷ (fed_cell Buffer (first 0) ∷ fed_cell Split2 (first 1) ∷ []) ∷ (output_cell
    (first 0) 2 ∷ output_cell (first 1) 1 ∷ output_cell (second 1) 0 ∷ []) ∷ []
unfolding place split_net
split_rows = refl

pub split_slots : (place split_net).slots ≡ (0 ∷ 1 ∷ []) ∷ (0 ∷ 1 ∷ []) ∷ (0 ∷ 1 ∷ 2 ∷ []) ∷ []
unfolding place split_net
split_slots = refl

-- by the slots of the splitter's outputs
pub split_keys : keys split_net 2 3 ≡ 12 ∷ 6 ∷ 0 ∷ []
unfolding keys split_net
split_keys = refl
