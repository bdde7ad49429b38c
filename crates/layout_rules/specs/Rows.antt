-- Rows of cells: frames with one lower edge stand in one row, and rows are counted from the lowest, which is 0.
use Rattle.std.specs.Prelude.{◌≡◌, ℕ, ◌<◌, ◌&&◌, not, Bool, true, false, List, [], ◌∷◌, length, count_by}
use Rattle.std.specs.Prelude.{slice_get, Some, ℤ, int_lt}
use Rattle.std.specs.List.{list_any}
use Rattle.std.specs.Ordering.{int_eq}
use Rattle.geom.specs.declared.shapes.Shape.{Shape}
use Rattle.layout_rules.specs.Layers.{is_frame}

-- some frame has this lower edge
abbrev pub has_edge : List Shape → ℤ → Bool
has_edge shapes y = list_any (λ s. is_frame s && int_eq s.rect.y0 y) shapes

-- the lower edges of the frames, each once
abbrev pub lower_edges : List Shape → List ℤ
lower_edges [] = []
lower_edges (s ∷ ss) =
    elim (is_frame s && not (has_edge ss s.rect.y0)) [ true ↦ s.rect.y0 ∷ lower_edges ss | false ↦ lower_edges ss ]

-- the row of a frame with this lower edge: how many lower edges are below it
abbrev pub row_of : List Shape → ℤ → ℕ
row_of shapes y = count_by (λ edge. int_lt edge y) (lower_edges shapes)

-- how many rows there are
abbrev pub row_count : List Shape → ℕ
row_count shapes = length (lower_edges shapes)

-- what shows the rows: the lower edges of the frames, rising
pub record AreRows (shapes : List Shape) (edges : List ℤ) : Type 0 where
  pub rising : (i j : ℕ) (y z : ℤ) → slice_get edges i ≡ Some y → slice_get edges j ≡ Some z → i < j → int_lt y z ≡ true
  pub each : (f : ℕ) (frame : Shape) → slice_get shapes f ≡ Some frame → is_frame frame ≡ true
      → (r : ℕ) × (slice_get edges r ≡ Some frame.rect.y0)
  pub only : (r : ℕ) (y : ℤ) → slice_get edges r ≡ Some y
      → (f : ℕ) × (frame : Shape) × (slice_get shapes f ≡ Some frame) × (is_frame frame ≡ true) × (frame.rect.y0 ≡ y)
