-- How a rule is tried: what it reports are two numbers, and the least first number comes first, then the least second.
use Rattle.std.specs.Prelude.{◌≡◌, ℕ, ◌<◌, ◌≤◌, ◌⊎◌, Bool, true, List, slice_get, Some}
use Rattle.geom.specs.declared.shapes.Shape.{Shape}

-- nothing is reported
abbrev pub ReportsNone : (ℕ → ℕ → Type 0) → Type 0
ReportsNone report = (a b : ℕ) → report a b → ⊥

-- nothing is reported with this first number
abbrev pub ReportsNoneAt : (ℕ → ℕ → Type 0) → ℕ → Type 0
ReportsNoneAt report a = (b : ℕ) → report a b → ⊥

-- a fault of one number, which is reported twice
abbrev pub Alone : (ℕ → Type 0) → ℕ → ℕ → Type 0
Alone fault a b = fault a × (b ≡ a)

-- the second is tried once the first reports nothing at all
abbrev pub Afterwards : (ℕ → ℕ → Type 0) → (ℕ → ℕ → Type 0) → ℕ → ℕ → Type 0
Afterwards first second a b = first a b ⊎ (ReportsNone first × second a b)

-- at each first number, the second is tried where the first reports nothing there
abbrev pub Otherwise : (ℕ → ℕ → Type 0) → (ℕ → ℕ → Type 0) → ℕ → ℕ → Type 0
Otherwise first second a b = first a b ⊎ (ReportsNoneAt first a × second a b)

-- of all that is reported, these numbers are the first
pub record IsFirstReport (report : ℕ → ℕ → Type 0) (a b : ℕ) : Type 0 where
  pub reported : report a b
  pub least : (c d : ℕ) → report c d → (a < c) ⊎ ((a ≡ c) × (b ≤ d))

-- of all that is reported with this first number, this second one is the least
pub record IsFirstAt (report : ℕ → ℕ → Type 0) (a b : ℕ) : Type 0 where
  pub reported : report a b
  pub least : (d : ℕ) → report a d → b ≤ d

-- the shape of this number passes the test
pub record Passes (test : Shape → Bool) (shapes : List Shape) (n : ℕ) : Type 0 where
  pub shape : Shape
  pub shape_is : slice_get shapes n ≡ Some shape
  pub passes_so : test shape ≡ true

-- the shapes of these two numbers pass the test together
pub record PassTogether (test : Shape → Shape → Bool) (shapes : List Shape) (a b : ℕ) : Type 0 where
  pub first : Shape
  pub second : Shape
  pub first_is : slice_get shapes a ≡ Some first
  pub second_is : slice_get shapes b ≡ Some second
  pub passes_so : test first second ≡ true
