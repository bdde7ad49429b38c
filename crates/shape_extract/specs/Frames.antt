-- The order of a circuit's cells: their frames by lower edge, then by left edge, then by their number in the layout.
use Rattle.std.specs.Prelude.{◌≡◌, ℕ, ◌<◌, ◌&&◌, ◌||◌, Bool, true, nat_lt, List, Some, slice_get, int_lt}
use Rattle.std.specs.Ordering.{int_eq}
use Rattle.geom.specs.declared.shapes.Shape.{Shape}
use Rattle.layout_rules.specs.Layers.{is_frame}
use Rattle.layout_rules.specs.Reports.{Passes}

-- the frame s, of number f, comes before the frame t, of number g
abbrev pub comes_before : Shape → ℕ → Shape → ℕ → Bool
comes_before s f t g =
    int_lt s.rect.y0 t.rect.y0
    || (int_eq s.rect.y0 t.rect.y0 && (int_lt s.rect.x0 t.rect.x0 || (int_eq s.rect.x0 t.rect.x0 && nat_lt f g)))

-- the frame of this number has a place among the cells
pub record HasPlace (frames : List ℕ) (f : ℕ) : Type 0 where
  pub place : ℕ
  pub there : slice_get frames place ≡ Some f

-- the numbers of the frames, in the order of the cells
pub record AreFrames (shapes : List Shape) (frames : List ℕ) : Type 0 where
  pub each : (f : ℕ) → Passes is_frame shapes f → HasPlace frames f
  pub only : (c f : ℕ) → slice_get frames c ≡ Some f → Passes is_frame shapes f
  pub in_order : (c d f g : ℕ) (s t : Shape) → c < d → slice_get frames c ≡ Some f → slice_get frames d ≡ Some g
      → slice_get shapes f ≡ Some s → slice_get shapes g ≡ Some t → comes_before s f t g ≡ true
