-- The tracks of a channel by the left-edge algorithm of channel routing: wires by rising lower end column, each on the
-- lowest track whose last wire ended in a lower column. No two pins of a channel share a column, so there are no
-- constraints from above or below.
use Rattle.std.specs.Prelude.{◌≡◌, ℕ, suc, ◌<◌, true, cond, nat_lt, List, [], ◌∷◌, length, slice_index_or, map, ◌==◌}
use Rattle.std.specs.List.{filter}
use Rattle.sorting.specs.Sorting.{by_key}
use Rattle.rowed.specs.declared.wire.Wire.{Wire}
use Rattle.channel_route.specs.Crossing.{low, high, crosses, IsDensity}

-- `ends` has for each track in use the column where its last wire ends

-- the lowest track that is free at a column; the number of tracks, where none is
abbrev pub lowest_free : ℕ → List ℕ → ℕ
lowest_free column [] = 0
lowest_free column (e ∷ es) = cond (nat_lt e column) 0 (suc (lowest_free column es))

-- the ends after a wire from low to high has taken that track
abbrev pub ends_after : ℕ → ℕ → List ℕ → List ℕ
ends_after low high [] = high ∷ []
ends_after low high (e ∷ es) = cond (nat_lt e low) (high ∷ es) (e ∷ ends_after low high es)

-- the tracks of wires that come by rising lower end column
abbrev pub tracks : List ℕ → List Wire → List ℕ
tracks ends [] = []
tracks ends (w ∷ ws) = lowest_free (low w) ends ∷ tracks (ends_after (low w) (high w) ends) ws

-- the ends after the last wire
abbrev pub last_ends : List ℕ → List Wire → List ℕ
last_ends ends [] = ends
last_ends ends (w ∷ ws) = last_ends (ends_after (low w) (high w) ends) ws

-- how many tracks a channel's wires use
abbrev pub tracks_used : List Wire → ℕ
tracks_used ws = length (last_ends [] (by_key low ws))

-- the column where wires that come by rising lower end column add the last track; the given one, where they add none
abbrev pub last_column : List ℕ → ℕ → List Wire → ℕ
last_column ends column [] = column
last_column ends column (w ∷ ws) =
    last_column (ends_after (low w) (high w) ends) (cond (lowest_free (low w) ends == length ends) (low w) column) ws

-- the column where the last track is added; 0 without wires
abbrev pub column_of : List Wire → ℕ
column_of ws = last_column [] 0 (by_key low ws)

-- how many wires begin in a lower column: a wire's place among those by rising lower end column
abbrev pub rank : List Wire → Wire → ℕ
rank ws w = length (filter (λ v. nat_lt (low v) (low w)) ws)

-- the track of each wire, in the order of the wires
abbrev pub route_of : List Wire → List ℕ
route_of ws = map (λ w. slice_index_or (tracks [] (by_key low ws)) (rank ws w) 0) ws

-- each wire has a track below `used`, and wires that cross one column have different ones
pub record AreApart (ws : List Wire) (track : List ℕ) (used : ℕ) : Type 0 where
  pub one_each : length track ≡ length ws
  pub below_used : (i : ℕ) → i < length ws → slice_index_or track i 0 < used
  pub distinct : (x i j : ℕ) (d : Wire) → i < length ws → j < length ws → (i ≡ j → ⊥)
      → crosses x (slice_index_or ws i d) ≡ true → crosses x (slice_index_or ws j d) ≡ true
      → slice_index_or track i 0 ≡ slice_index_or track j 0 → ⊥

-- each wire has a track so, and as many wires as there are tracks cross the column
pub record AreTracks (ws : List Wire) (track : List ℕ) (used column : ℕ) : Type 0 where
  pub apart : AreApart ws track used
  pub density : IsDensity ws used column
