-- The parts of a table at one of its inputs.
use Rattle.std.specs.Prelude.{◌≡◌, ℕ, ◌<◌, ◌&&◌, not, true, false}
use Rattle.truth_tables.specs.Tables.{holds}
use Rattle.mig_from_netlist.specs.declared.parts.Parts.{Parts}

-- the table is the high part where the input is true, and the low part where it is false
pub record AreParts (table : ℕ) (parts : Parts) : Type 0 where
  pub place : parts.place < 6
  pub high : (i : ℕ) → i < 64 → holds i parts.place ≡ true → holds table i ≡ holds parts.high i
  pub low : (i : ℕ) → i < 64 → holds i parts.place ≡ false → holds table i ≡ holds parts.low i

-- the first table is true only where the second is
abbrev pub Implies : ℕ → ℕ → Type 0
Implies a b = (i : ℕ) → i < 64 → (holds a i && not (holds b i)) ≡ false
