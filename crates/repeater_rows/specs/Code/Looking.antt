-- Steps of the code that does a round: the windows of a channel that hold a wire, from the first one on.
use Rattle.std.specs.Prelude.{◌≡◌, ℕ, ◌-◌, ◌≤◌, Bool, List, ◌++◌, length, take, drop}
use Rattle.sorting.specs.Sorting.{in_order}
use Rattle.repeater_rows.specs.Rounds.{windows}
use Rattle.repeater_rows.specs.Repeaters.{carrier_slots}
use Rattle.repeater_rows.specs.Local.{UnwiredRise}

-- the slots from left up to right put in order
abbrev pub sorted_at : ℕ → ℕ → List ℕ → List ℕ
sorted_at left right to =
    take left to ++ (in_order (take (right - left) (drop left to)) ++ drop (right - left) (drop left to))

-- windows of so many slots put in order, the first of which begins at a slot
abbrev pub ordered_from : ℕ → ℕ → List ℕ → List ℕ
ordered_from size start to = take start to ++ windows size (length (drop start to)) (drop start to)

-- the windows up to a slot are done: the destinations are `to` and their carriers up to there `slots`, and where the
-- rest is done, the destinations are `whole`; `carriers` are those from before
pub record IsLooked (wired : ℕ → Bool) (size : ℕ) (whole carriers : List ℕ) (done : ℕ) (to slots : List ℕ)
    : Type 0 where
  pub within : done ≤ length to
  pub rise : UnwiredRise wired (drop done to)
  pub gives : ordered_from size done to ≡ whole
  pub noted : slots ≡ carrier_slots wired 0 (take done to)
  pub ahead : drop (length slots) carriers ≡ carrier_slots wired done (drop done to)
