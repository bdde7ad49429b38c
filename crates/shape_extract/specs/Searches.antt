-- What searches find: the first report of a rule, and all numbers of which something holds.
use Rattle.std.specs.Prelude.{◌≡◌, ℕ, ◌<◌, Bool, true, false, List, length, slice_get, slice_index, Option, Some, None}
use Rattle.geom.specs.declared.shapes.Shape.{Shape}
use Rattle.layout_rules.specs.Reports.{ReportsNone, ReportsNoneAt, IsFirstReport, IsFirstAt}
use Rattle.shape_extract.specs.declared.search.Report.{Report}

-- the answer says whether the fact holds
abbrev pub SaysWhether : Bool → Type 0 → Type 0
SaysWhether true fact = fact
SaysWhether false fact = fact → ⊥

-- the first report, or nothing where there is none
abbrev pub Finds : (ℕ → ℕ → Type 0) → Option Report → Type 0
Finds reported None = ReportsNone reported
Finds reported (Some found) = IsFirstReport reported found.first found.second

-- the least second number of the reports with this first number, or nothing where there is none
abbrev pub FindsAt : (ℕ → ℕ → Type 0) → ℕ → Option ℕ → Type 0
FindsAt reported a None = ReportsNoneAt reported a
FindsAt reported a (Some b) = IsFirstAt reported a b

-- the numbers are those of which this holds, rising
pub record AreThose (holds : ℕ → Type 0) (numbers : List ℕ) : Type 0 where
  pub each : (p : ℕ) → p < length numbers → holds (slice_index numbers p)
  pub complete : (n : ℕ) → holds n → (p : ℕ) × ((p < length numbers) × (slice_index numbers p ≡ n))
  pub rising : (p q : ℕ) → p < q → q < length numbers → slice_index numbers p < slice_index numbers q

-- a shape that may be there passes the test
abbrev pub passes_in : (Shape → Bool) → Option Shape → Bool
passes_in test None = false
passes_in test (Some s) = test s

-- the shape of this number passes the test
abbrev pub passes_at : (Shape → Bool) → List Shape → ℕ → Bool
passes_at test shapes n = passes_in test (slice_get shapes n)

-- the shape of this number passes the test together with the first
abbrev pub passes_with : (Shape → Shape → Bool) → Shape → List Shape → ℕ → Bool
passes_with test first shapes n = passes_in (test first) (slice_get shapes n)
