-- What a routed channel has, and why one is refused.
use Rattle.std.specs.Prelude.{◌≡◌, ℕ, List}
use Rattle.rowed.specs.declared.wire.Wire.{Wire}
use Rattle.channel_route.specs.declared.channel.Tracks.{Tracks}
use Rattle.channel_route.specs.declared.channel.RouteRefusal.{RouteRefusal}
use Rattle.channel_route.specs.declared.channel.RouteRefusal.TheVariants.{Full, Memory}
use Rattle.channel_route.specs.Crossing.{IsOver, numbers_crossing}
use Rattle.channel_route.specs.Tracks.{route_of, tracks_used, column_of}

-- these are the tracks of the plan
pub record IsPlan (ws : List Wire) (given : Tracks) : Type 0 where
  pub track_is : given.track ≡ route_of ws
  pub used_is : given.used ≡ tracks_used ws
  pub column_is : given.column ≡ column_of ws

-- a full channel has the least column that too many wires cross, and the numbers of all wires that cross it
abbrev pub Refuses : List Wire → ℕ → RouteRefusal → Type 0
Refuses ws capacity (Full column numbers) = IsOver ws capacity column × (numbers ≡ numbers_crossing column 0 ws)
Refuses ws capacity Memory = Unit {0}
