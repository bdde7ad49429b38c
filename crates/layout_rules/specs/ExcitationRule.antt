-- The rule of the excitation lines: two lines wind from row to row, and excite each row in its phase.
use Rattle.std.specs.Prelude.{◌≡◌, ◌≢◌, ℕ, ◌≤◌, ◌%◌, ◌⊎◌, ◌&&◌, Bool, true, false, List, slice_get, Some, nat_lt}
use Rattle.geom.specs.declared.shapes.Shape.{Shape}
use Rattle.geom.specs.Rectangle.{overlap, within}
use Rattle.layout_rules.specs.declared.layers.TheConstants.{EVEN_LINE, ODD_LINE, BAR, LINK, START}
use Rattle.layout_rules.specs.Layers.{is_line, is_frame}
use Rattle.layout_rules.specs.Rows.{row_of}
use Rattle.layout_rules.specs.Reports.{ReportsNone, Alone, Afterwards, Passes}
use Rattle.layout_rules.specs.ExcitationLines.{Contact, IsPart, IsReached, Before, enters, leaves, BarHasPhase}

-- a part of a line that is no bar, link or start
abbrev pub is_no_part : Shape → Bool
is_no_part s = is_line s && nat_lt START s.datatype

-- a start on this layer
pub record IsStartOn (shapes : List Shape) (layer i : ℕ) : Type 0 where
  pub start : IsPart shapes START i
  pub of_layer : start.shape.layer ≡ layer

-- the layer has one start and no other
pub record HasOneStart (shapes : List Shape) (layer : ℕ) : Type 0 where
  pub number : ℕ
  pub start : IsStartOn shapes layer number
  pub only : (i : ℕ) → IsStartOn shapes layer i → i ≡ number

-- the least shape of a layer that has no start or several
pub record LacksOneStart (shapes : List Shape) (layer a : ℕ) : Type 0 where
  pub shape : Shape
  pub shape_is : slice_get shapes a ≡ Some shape
  pub of_layer : shape.layer ≡ layer
  pub least : (c : ℕ) (s : Shape) → slice_get shapes c ≡ Some s → s.layer ≡ layer → a ≤ c
  pub not_one : HasOneStart shapes layer → ⊥

-- a start leads to one bar
pub record HasStartContacts (shapes : List Shape) (i : ℕ) : Type 0 where
  pub bar : ℕ
  pub contact : Contact shapes i bar
  pub is_bar : IsPart shapes BAR bar
  pub only : (c : ℕ) → Contact shapes i c → c ≡ bar

-- a link joins two bars
pub record HasLinkContacts (shapes : List Shape) (i : ℕ) : Type 0 where
  pub one : ℕ
  pub other : ℕ
  pub apart : one ≢ other
  pub one_contact : Contact shapes i one
  pub other_contact : Contact shapes i other
  pub one_bar : IsPart shapes BAR one
  pub other_bar : IsPart shapes BAR other
  pub only : (c : ℕ) → Contact shapes i c → (c ≡ one) ⊎ (c ≡ other)

-- a bar has one contact or two, and none is a bar
pub record HasBarContacts (shapes : List Shape) (i : ℕ) : Type 0 where
  pub one : ℕ
  pub other : ℕ
  pub one_contact : Contact shapes i one
  pub only : (c : ℕ) → Contact shapes i c → (c ≡ one) ⊎ (c ≡ other)
  pub no_bar : (c : ℕ) → Contact shapes i c → IsPart shapes BAR c → ⊥

-- a part of a line has the contacts of its kind
pub record HasItsContacts (shapes : List Shape) (i : ℕ) : Type 0 where
  pub start : IsPart shapes START i → HasStartContacts shapes i
  pub link : IsPart shapes LINK i → HasLinkContacts shapes i
  pub bar : IsPart shapes BAR i → HasBarContacts shapes i

-- a part of a line with too many contacts, too few, or others than it is to have
pub record IsMisjoined (shapes : List Shape) (i : ℕ) : Type 0 where
  pub part : Passes is_line shapes i
  pub not_so : HasItsContacts shapes i → ⊥

-- a part of a line to which no chain leads
pub record IsCutOff (shapes : List Shape) (i : ℕ) : Type 0 where
  pub part : Passes is_line shapes i
  pub not_reached : IsReached shapes i → ⊥

-- parts (a) to (c) report nothing: each part of a line has its contacts, and each layer with shapes has one start
pub record AreLaidOut (shapes : List Shape) : Type 0 where
  pub parts : ReportsNone (Alone (Passes is_no_part shapes))
  pub even : ReportsNone (Alone (LacksOneStart shapes EVEN_LINE))
  pub odd : ReportsNone (Alone (LacksOneStart shapes ODD_LINE))
  pub contacts : ReportsNone (Alone (IsMisjoined shapes))

-- after the bar comes a shape that is not at the other side alone
pub record LeavesWrongly (shapes : List Shape) (b : ℕ) (bar before_shape : Shape) : Type 0 where
  pub after : ℕ
  pub after_shape : Shape
  pub after_shape_is : slice_get shapes after ≡ Some after_shape
  pub is_after : Before shapes b after
  pub wrong : leaves before_shape bar after_shape ≡ false

-- a bar that the line doesn't run along from one side to the other
pub record IsNotCrossed (shapes : List Shape) (b : ℕ) : Type 0 where
  pub bar : IsPart shapes BAR b
  pub before : ℕ
  pub before_shape : Shape
  pub before_shape_is : slice_get shapes before ≡ Some before_shape
  pub is_before : Before shapes before b
  pub wrong : (enters before_shape bar.shape ≡ false) ⊎ LeavesWrongly shapes b bar.shape before_shape

-- one bar alone lies over the frame and contains it, and it has the phase of the frame's row
pub record IsExcited (shapes : List Shape) (frame : Shape) : Type 0 where
  pub bar : ℕ
  pub phase : BarHasPhase shapes bar (row_of shapes frame.rect.y0 % 4)
  pub over : overlap phase.is_bar.shape.rect frame.rect ≡ true
  pub contains : within frame.rect phase.is_bar.shape.rect ≡ true
  pub only : (i : ℕ) (s : Shape) → slice_get shapes i ≡ Some s → is_line s ≡ true → overlap s.rect frame.rect ≡ true
      → i ≡ bar

-- the shape of this number, if it is a frame, is excited
abbrev pub IsExcitedAt : List Shape → ℕ → Type 0
IsExcitedAt shapes f = (frame : Shape) → slice_get shapes f ≡ Some frame → is_frame frame ≡ true
    → IsExcited shapes frame

-- a frame that is not excited so
pub record IsUnexcited (shapes : List Shape) (f : ℕ) : Type 0 where
  pub frame : Passes is_frame shapes f
  pub not_so : IsExcited shapes frame.shape → ⊥

-- the six parts in turn, each over all shapes before the next
abbrev pub ExcitationBroken : List Shape → ℕ → ℕ → Type 0
ExcitationBroken shapes =
    Afterwards (Alone (Passes is_no_part shapes))
    (Afterwards (Alone (LacksOneStart shapes EVEN_LINE))
    (Afterwards (Alone (LacksOneStart shapes ODD_LINE))
    (Afterwards (Alone (IsMisjoined shapes))
    (Afterwards (Alone (IsCutOff shapes))
    (Afterwards (Alone (IsNotCrossed shapes)) (Alone (IsUnexcited shapes)))))))
