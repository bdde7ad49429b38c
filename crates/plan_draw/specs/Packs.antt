-- Rows packed in the order that they have: the first cell of a row begins in slot 0, and each other one directly behind
-- the one before it.
use Rattle.std.specs.Prelude.{◌≡◌, ℕ, map, slice_index_or, []}
use Rattle.circuit.specs.SameAnswers.{SameAnswers}
use Rattle.rowed.specs.RowNets.{RowView, IsAnswer}
use Rattle.rowed.specs.PlacedNets.{PlacedView, IsPlaced}
use Rattle.rowed.specs.Extent.{widest_packed}
use Rattle.rowed.specs.Limits.{KeepsWidth}
use Rattle.row_place.specs.Places.{packed}

-- the net with its rows packed
abbrev pub pack : RowView → PlacedView
pack net = record { net = net; slots = map (packed 0) net.rows; lag = 0 }

-- the slot of cell c of row r
abbrev pub slot_in : PlacedView → ℕ → ℕ → ℕ
slot_in placed r c = slice_index_or (slice_index_or placed.slots r []) c 0

-- this is the net with its rows packed, none too wide for slots of this width in nanometres; it answers every word as
-- the net does
pub record IsPacked (net : RowView) (width : ℕ) (placed : PlacedView) : Type 0 where
  pub placed_keeps : IsPlaced placed
  pub is_packed : placed ≡ pack net
  pub within : KeepsWidth (widest_packed net.rows) width
  pub same : SameAnswers net.inputs placed.net.inputs net.outputs placed.net.outputs
      (IsAnswer net) (IsAnswer placed.net)
