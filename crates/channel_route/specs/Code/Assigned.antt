-- What the assignment of tracks answers, over wires by rising lower end column.
use Rattle.std.specs.Prelude.{◌≡◌, ℕ, ◌<◌, ◌≤◌, List, [], length, map, slice_index_or}
use Rattle.rowed.specs.declared.wire.Wire.{Wire}
use Rattle.channel_route.specs.declared.order.Numbered.{Numbered}
use Rattle.channel_route.specs.declared.assign.Assigned.{Assigned}
use Rattle.channel_route.specs.declared.assign.Assigned.TheVariants.{Done, Full}
use Rattle.channel_route.specs.Crossing.{IsOver}
use Rattle.channel_route.specs.Tracks.{tracks, last_ends, last_column}

-- the wires without their numbers
abbrev pub wires_of : List Numbered → List Wire
wires_of ones = map (λ one. one.wire) ones

-- the wire at each of the first n places has its track
abbrev pub HaveTracks : List Numbered → List ℕ → ℕ → Type 0
HaveTracks ones track n = (k : ℕ) (d : Numbered) → k < n
    → slice_index_or track (slice_index_or ones k d).number 0 ≡ slice_index_or (tracks [] (wires_of ones)) k 0

-- each wire has its track, and there is room for all tracks
pub record AreAssigned (ones : List Numbered) (capacity : ℕ) (track : List ℕ) (used column : ℕ) : Type 0 where
  pub one_each : length track ≡ length ones
  pub placed : HaveTracks ones track (length ones)
  pub used_is : used ≡ length (last_ends [] (wires_of ones))
  pub column_is : column ≡ last_column [] 0 (wires_of ones)
  pub within : used ≤ capacity

-- the tracks are assigned, or there is none left for a wire, where too many cross a column
abbrev pub IsAssigned : List Numbered → ℕ → Assigned → Type 0
IsAssigned ones capacity (Done track used column) = AreAssigned ones capacity track.items used column
IsAssigned ones capacity (Full column) = IsOver (wires_of ones) capacity column
