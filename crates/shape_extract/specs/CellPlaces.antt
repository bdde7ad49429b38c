-- Where the cells of a layout lie along the excitation lines.
use Rattle.std.specs.Prelude.{◌≡◌, ℕ, ◌≤◌, List, length, Option, None, Some, slice_get}
use Rattle.geom.specs.declared.shapes.Shape.{Shape}
use Rattle.layout_rules.specs.LinePlaces.{IsPlaced}
use Rattle.shape_extract.specs.Frames.{AreFrames}
use Rattle.shape_extract.specs.declared.circuits.cell_spans.Span.{Span}

-- The excitation comes to cell c when it has run `near c` nanometres along its line, and has passed it when it has run
-- `far c`. The cells are numbered in the order of their frames; past the last one both are 0.
pub record AreCellPlaces (shapes : List Shape) (near far : ℕ → ℕ) : Type 0 where
  pub frames : List ℕ
  pub are_frames : AreFrames shapes frames
  pub placed : (c f : ℕ) (frame : Shape) → slice_get frames c ≡ Some f → slice_get shapes f ≡ Some frame
      → IsPlaced shapes frame (near c) (far c)
  pub no_more : (c : ℕ) → length frames ≤ c → (near c ≡ 0) × (far c ≡ 0)

-- where it comes to a cell that may be there, and where it has passed it
abbrev pub near_of : Option Span → ℕ
near_of None = 0
near_of (Some span) = span.near

abbrev pub far_of : Option Span → ℕ
far_of None = 0
far_of (Some span) = span.far

-- the same of the cell of this number
abbrev pub near_at : List Span → ℕ → ℕ
near_at spans c = near_of (slice_get spans c)

abbrev pub far_at : List Span → ℕ → ℕ
far_at spans c = far_of (slice_get spans c)
