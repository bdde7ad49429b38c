-- The table of labels: for each shape whether no label marks it, one, or several.
use Rattle.std.specs.Prelude.{◌≡◌, ◌≢◌, ℕ, ◌<◌, Bool, true, false, Option, Some, None}
use Rattle.std.specs.Prelude.{List, length, count_by, slice_get, slice_index}
use Rattle.geom.specs.declared.shapes.Shape.{Shape}
use Rattle.geom.specs.declared.shapes.Label.{Label}
use Rattle.layout_rules.specs.Labels.{marks}
use Rattle.shape_extract.specs.Passing.{PassesIn}
use Rattle.shape_extract.specs.declared.tables.mark_table.Mark.{Mark}
use Rattle.shape_extract.specs.declared.tables.mark_table.Mark.TheVariants.{Unmarked, Once, Often}

-- one more label, of this number
abbrev pub with_label : Mark → ℕ → Mark
with_label Unmarked l = Once l
with_label (Once k) l = Often l
with_label (Often k) l = Often l

-- some label marks the shape
abbrev pub has_label : Mark → Bool
has_label Unmarked = false
has_label (Once l) = true
has_label (Often l) = true

-- one label marks the shape
abbrev pub has_one : Mark → Bool
has_one Unmarked = false
has_one (Once l) = true
has_one (Often l) = false

-- a label that marks the shape
abbrev pub label_in : Mark → Option ℕ
label_in Unmarked = None
label_in (Once l) = Some l
label_in (Often l) = Some l

-- no label marks the shape
pub record IsUnmarked (labels : List Label) (s : Shape) : Type 0 where
  pub count_is : count_by (λ label. marks label s) labels ≡ 0
  pub none : (l : ℕ) (label : Label) → slice_get labels l ≡ Some label → marks label s ≡ true → ⊥

-- the mark says how many of the labels mark the shape
abbrev pub IsMarkOf : List Label → Shape → Mark → Type 0
IsMarkOf labels s Unmarked = IsUnmarked labels s
IsMarkOf labels s (Once l) =
    (count_by (λ label. marks label s) labels ≡ 1) × PassesIn (λ label. marks label s) labels l
IsMarkOf labels s (Often l) =
    (1 < count_by (λ label. marks label s) labels) × PassesIn (λ label. marks label s) labels l

-- for each shape its mark
pub record AreMarks (shapes : List Shape) (labels : List Label) (marking : List Mark) : Type 0 where
  pub long : length marking ≡ length shapes
  pub each : (p : ℕ) (s : Shape) (m : Mark) → slice_get shapes p ≡ Some s → slice_get marking p ≡ Some m
      → IsMarkOf labels s m

-- the shapes of these numbers have one label more, and the others what they had
pub record IsNoted (label : ℕ) (numbers : List ℕ) (old new : List Mark) : Type 0 where
  pub long : length new ≡ length old
  pub hit : (k : ℕ) (m : Mark) → k < length numbers → slice_get old (slice_index numbers k) ≡ Some m
      → slice_get new (slice_index numbers k) ≡ Some (with_label m label)
  pub miss : (p : ℕ) (m : Mark) → ((k : ℕ) → k < length numbers → slice_index numbers k ≢ p)
      → slice_get old p ≡ Some m → slice_get new p ≡ Some m
