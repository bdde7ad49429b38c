-- Chains of numbers that belong together, as shapes of one net or of one kind: for each the next one, in a table.
use Rattle.std.specs.Prelude.{◌≡◌, ◌≢◌, ℕ, ◌+◌, ◌<◌, ◌≤◌, List, length, slice_index}

-- y is the least number from n on whose net is r, or the length where there is none
pub record IsNextFrom (nets : List ℕ) (n r y : ℕ) : Type 0 where
  pub above : n ≤ y
  pub within : y ≤ length nets
  pub of_net : y < length nets → slice_index nets y ≡ r
  pub none_between : (z : ℕ) → n ≤ z → z < y → slice_index nets z ≢ r

-- for each shape the next one of its net
pub record AreChains (nets next : List ℕ) : Type 0 where
  pub long : length next ≡ length nets
  pub each : (x : ℕ) → x < length nets → IsNextFrom nets (x + 1) (slice_index nets x) (slice_index next x)
