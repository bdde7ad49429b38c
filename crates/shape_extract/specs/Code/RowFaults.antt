-- The rows of all pins as one list, and the first of some numbers whose pin doesn't stand in the row just below
-- another.
use Rattle.std.specs.Prelude.{◌≡◌, ◌≢◌, ℕ, suc, ◌<◌, List, length, Option, Some, None, slice_index}
use Rattle.geom.specs.declared.shapes.Shape.{Shape}
use Rattle.layout_rules.specs.Layers.{is_pin}
use Rattle.layout_rules.specs.Reports.{Passes}
use Rattle.shape_extract.specs.Code.PinRows.{IsRowOf}

-- for each shape a number, which for a pin is the row of its cell
pub record ArePinRows (shapes : List Shape) (rows : List ℕ) : Type 0 where
  pub long : length rows ≡ length shapes
  pub each : (p : ℕ) → Passes is_pin shapes p → IsRowOf shapes p (slice_index rows p)

-- the first of these numbers whose row is not just below this one
pub record IsFirstAstray (rows numbers : List ℕ) (row b : ℕ) : Type 0 where
  pub place : ℕ
  pub within : place < length numbers
  pub number_is : slice_index numbers place ≡ b
  pub astray : row ≢ suc (slice_index rows b)
  pub before : (k : ℕ) → k < place → row ≡ suc (slice_index rows (slice_index numbers k))

-- the first such number, or nothing where there is none
abbrev pub FindsAstray : List ℕ → List ℕ → ℕ → Option ℕ → Type 0
FindsAstray rows numbers row None = (k : ℕ) → k < length numbers → row ≡ suc (slice_index rows (slice_index numbers k))
FindsAstray rows numbers row (Some b) = IsFirstAstray rows numbers row b

-- the pins whose rows are read
abbrev pub AreRowed : List ℕ → List ℕ → Type 0
AreRowed rows numbers = (p : ℕ) → p < length numbers → slice_index numbers p < length rows
