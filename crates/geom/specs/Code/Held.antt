-- Spots of one width, narrow or wide: they are seen as the same list.
use Rattle.std.specs.Prelude.{◌≡◌, ℕ, ◌-◌, List, IsPermutation}
use borrow.Rule.Slice.PartMut.{put_mid, mid_of}
use Rattle.geom.specs.declared.index.spots.Spot.{Spot}
use Rattle.geom.specs.declared.index.spots.Held.{Held}
use Rattle.geom.specs.declared.index.spots.Held.TheVariants.{Narrow, Wide}

-- the spots that are held
abbrev pub spots_of : Held → List Spot
spots_of (Narrow spots) = spots.items
spots_of (Wide spots) = spots.items

-- the spots between two places have another order, and no others do
pub record IsPartMoved (from past : ℕ) (old new : List Spot) : Type 0 where
  pub part : List Spot
  pub moved : IsPermutation (mid_of from (past - from) old) part
  pub is : new ≡ put_mid from (past - from) old part
