-- The rule of the excitation lines by chains, as it is searched: where the lines are laid out it says the same.
use Rattle.std.specs.Prelude.{◌≡◌, ◌≢◌, ℕ, ◌%◌, ◌⊎◌, true, false, List, slice_get, Some}
use Rattle.geom.specs.declared.shapes.Shape.{Shape}
use Rattle.geom.specs.Rectangle.{overlap, within}
use Rattle.layout_rules.specs.declared.layers.TheConstants.{EVEN_LINE, ODD_LINE, BAR}
use Rattle.layout_rules.specs.Layers.{is_line, is_frame}
use Rattle.layout_rules.specs.Rows.{row_of}
use Rattle.layout_rules.specs.Reports.{Alone, Afterwards, Passes}
use Rattle.layout_rules.specs.ExcitationLines.{Contact, IsPart, enters, leaves}
use Rattle.layout_rules.specs.ExcitationRule.{is_no_part, LacksOneStart, IsMisjoined, IsCutOff}
use Rattle.layout_rules.specs.Code.LineChains.{ChainBefore, HasChainPhase}

-- another contact of the bar than the one before it is not at the other side alone
pub record ChainLeavesWrongly (shapes : List Shape) (b before : ℕ) (bar before_shape : Shape) : Type 0 where
  pub after : ℕ
  pub contact : Contact shapes b after
  pub onward : after ≢ before
  pub wrong : leaves before_shape bar contact.second ≡ false

-- a bar that its chain doesn't run along from one side to the other
pub record IsChainUncrossed (shapes : List Shape) (b : ℕ) : Type 0 where
  pub bar : IsPart shapes BAR b
  pub before : ℕ
  pub before_shape : Shape
  pub before_shape_is : slice_get shapes before ≡ Some before_shape
  pub is_before : ChainBefore shapes before b
  pub wrong : (enters before_shape bar.shape ≡ false) ⊎ ChainLeavesWrongly shapes b before bar.shape before_shape

-- one bar alone lies over the frame and contains it, and by its chain it has the phase of the frame's row
pub record IsChainExcited (shapes : List Shape) (frame : Shape) : Type 0 where
  pub bar : ℕ
  pub phase : HasChainPhase shapes bar (row_of shapes frame.rect.y0 % 4)
  pub over : overlap phase.is_bar.shape.rect frame.rect ≡ true
  pub contains : within frame.rect phase.is_bar.shape.rect ≡ true
  pub only : (i : ℕ) (s : Shape) → slice_get shapes i ≡ Some s → is_line s ≡ true → overlap s.rect frame.rect ≡ true
      → i ≡ bar

-- a frame that is not excited so
pub record IsChainUnexcited (shapes : List Shape) (f : ℕ) : Type 0 where
  pub frame : Passes is_frame shapes f
  pub not_so : IsChainExcited shapes frame.shape → ⊥

-- the six parts in turn, the last two by chains
abbrev pub ChainsBroken : List Shape → ℕ → ℕ → Type 0
ChainsBroken shapes =
    Afterwards (Alone (Passes is_no_part shapes))
    (Afterwards (Alone (LacksOneStart shapes EVEN_LINE))
    (Afterwards (Alone (LacksOneStart shapes ODD_LINE))
    (Afterwards (Alone (IsMisjoined shapes))
    (Afterwards (Alone (IsCutOff shapes))
    (Afterwards (Alone (IsChainUncrossed shapes)) (Alone (IsChainUnexcited shapes)))))))
