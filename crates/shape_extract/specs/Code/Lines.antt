-- Excitation lines as they are searched: walked from their starts by chains of contacts; and the frames that they
-- excite.
use Rattle.std.specs.Prelude.{◌≡◌, ℕ, ◌<◌, ◌%◌, ◌⊎◌, ◌&&◌, Bool, true, false}
use Rattle.std.specs.Prelude.{List, length, slice_get, slice_index, Option, Some, None}
use Rattle.geom.specs.declared.shapes.Shape.{Shape}
use Rattle.geom.specs.Rectangle.{overlap, within}
use Rattle.layout_rules.specs.declared.layers.TheConstants.{START}
use Rattle.layout_rules.specs.Layers.{is_frame, is_line}
use Rattle.layout_rules.specs.Rows.{row_of}
use Rattle.layout_rules.specs.ExcitationLines.{IsPart, IsReached}
use Rattle.layout_rules.specs.ExcitationRule.{IsExcitedAt}
use Rattle.layout_rules.specs.Code.LineChains.{ChainBefore, HasChainPhase}
use Rattle.layout_rules.specs.Code.ChainRule.{ChainLeavesWrongly, IsChainExcited, IsChainUnexcited}
use Rattle.shape_extract.specs.declared.search.Report.{Report}

-- for each shape that is reached the one before it by a chain, where it is no start; and for each other shape the
-- number of no shape
pub record AreWalked (shapes : List Shape) (before : List ℕ) : Type 0 where
  pub long : length before ≡ length shapes
  pub all : (i : ℕ) → IsReached shapes i → slice_index before i < length shapes
  pub come : (i : ℕ) → slice_index before i < length shapes → i < length shapes
      → IsPart shapes START i ⊎ ChainBefore shapes (slice_index before i) i

-- after bar b, to which the line comes from shape a, it goes on to a shape that is not at the other side alone
pub record GoesOnWrongly (shapes : List Shape) (a b : ℕ) : Type 0 where
  pub bar : Shape
  pub bar_is : slice_get shapes b ≡ Some bar
  pub before : Shape
  pub before_is : slice_get shapes a ≡ Some before
  pub wrong : ChainLeavesWrongly shapes b a bar before

-- a part of a line lies over a frame
abbrev pub lies_over : Shape → Shape → Bool
lies_over frame s = is_line s && overlap s.rect frame.rect

-- the shape of this number is a bar that contains the frame and has the phase of the frame's row
pub record Excites (shapes : List Shape) (b : ℕ) (frame : Shape) : Type 0 where
  pub phase : HasChainPhase shapes b (row_of shapes frame.rect.y0 % 4)
  pub contains : within frame.rect phase.is_bar.shape.rect ≡ true

-- the shape of this number, if it is a frame, is excited by chains
abbrev pub IsChainExcitedAt : List Shape → ℕ → Type 0
IsChainExcitedAt shapes f = (frame : Shape) → slice_get shapes f ≡ Some frame → is_frame frame ≡ true
    → IsChainExcited shapes frame

-- the answer says that the shape of this number is a frame that is not excited; or else that it is excited, if it is
-- one
abbrev pub Judges : List Shape → ℕ → Bool → Type 0
Judges shapes f true = IsChainUnexcited shapes f
Judges shapes f false = IsChainExcitedAt shapes f

-- where nothing is reported, each frame is excited
abbrev pub ExcitesFrames : List Shape → Option Report → Type 0
ExcitesFrames shapes None = (f : ℕ) → IsExcitedAt shapes f
ExcitesFrames shapes (Some found) = Unit {0}

-- where nothing is reported, each frame is excited by chains
abbrev pub ChainsExciteFrames : List Shape → Option Report → Type 0
ChainsExciteFrames shapes None = (f : ℕ) → IsChainExcitedAt shapes f
ChainsExciteFrames shapes (Some found) = Unit {0}
