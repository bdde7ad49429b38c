-- Steps of the code that goes through the rounds of a channel: those that are left, and the cells that are counted.
use Rattle.std.specs.Prelude.{◌≡◌, ℕ, ◌-◌, ◌*◌, ◌≤◌, Bool, List, ◌++◌, length, Some}
use Rattle.rowed.specs.PlacedNets.{PlacedRow}
use Rattle.repeater_rows.specs.Repeaters.{repeated_rows}
use Rattle.repeater_rows.specs.Rounds.{rounds}
use Rattle.rowed.specs.Limits.{cell_limit}
use Rattle.repeater_rows.specs.Passes.{cells_past}
use Rattle.repeater_rows.specs.declared.pass.RepeatRefusal.{RepeatRefusal}
use Rattle.repeater_rows.specs.declared.pass.RepeatRefusal.TheVariants.{TooManyCells, TooTall, Memory}

-- the rounds that are left after so many
abbrev pub rounds_left : ℕ → (ℕ → Bool) → ℕ → Bool → List ℕ → List (List ℕ)
rounds_left reach wired done first to = rounds reach wired (length to * length to - done) first to

-- where so many cells stand before these rows, so many stand up to their end, within the limit
pub record AreCounted (before : ℕ) (rows : List PlacedRow) (cells : ℕ) : Type 0 where
  pub few : cells ≤ cell_limit
  pub ahead : (above : List PlacedRow) → cells_past before (rows ++ above) ≡ cells_past cells above

-- where so many cells stand before these rows, one of them passes the limit, as the refusal says; or memory is wanting
abbrev pub ArePast : ℕ → List PlacedRow → RepeatRefusal → Type 0
ArePast before rows (TooManyCells cells) = (above : List PlacedRow) → cells_past before (rows ++ above) ≡ Some cells
ArePast before rows (TooTall count) = ⊥
ArePast before rows Memory = Unit {0}

-- some row of the plan passes it
abbrev pub IsPastLimit : ℕ → List PlacedRow → RepeatRefusal → Type 0
IsPastLimit reach net (TooManyCells cells) = cells_past 0 (repeated_rows reach net) ≡ Some cells
IsPastLimit reach net (TooTall count) = ⊥
IsPastLimit reach net Memory = Unit {0}
