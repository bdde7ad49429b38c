-- What the pass of places gives, and which nets it refuses.
use Rattle.std.specs.Prelude.{◌≡◌, ℕ}
use Rattle.circuit.specs.SameAnswers.{SameAnswers}
use Rattle.rowed.specs.RowNets.{RowView, IsRowNet, IsAnswer}
use Rattle.rowed.specs.PlacedNets.{PlacedView, IsPlaced}
use Rattle.rowed.specs.Extent.{widest_packed}
use Rattle.rowed.specs.Limits.{KeepsWidth, PassesWidth}
use Rattle.row_place.specs.Places.{place}
use Rattle.row_place.specs.declared.pass.PlaceRefusal.{PlaceRefusal}
use Rattle.row_place.specs.declared.pass.PlaceRefusal.TheVariants.{TooWide, Memory}

-- this is the plan of the net's places, and no row is too wide for slots of this width in nanometres; it answers every
-- word as the net does
pub record ArePlaces (net : RowView) (width : ℕ) (placed : PlacedView) : Type 0 where
  pub net_keeps : IsRowNet net
  pub placed_keeps : IsPlaced placed
  pub is_plan : placed ≡ place net
  pub within : KeepsWidth (widest_packed net.rows) width
  pub same : SameAnswers net.inputs placed.net.inputs net.outputs placed.net.outputs
      (IsAnswer net) (IsAnswer placed.net)

-- some row is too wide, and the refusal says the greatest span
abbrev pub IsTooWide : RowView → ℕ → PlaceRefusal → Type 0
IsTooWide net width (TooWide span) = PassesWidth (widest_packed net.rows) width × (span ≡ widest_packed net.rows)
IsTooWide net width Memory = ⊥
