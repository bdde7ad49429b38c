-- The rules over the shapes of a flat form, each as what holds where it is kept.
use Rattle.std.specs.Prelude.{◌≡◌, ℕ, ◌<◌, ◌⊎◌, Bool, true, false, List, int_lt}
use Rattle.cell_library.specs.Library.{LibraryView, limits_of}
use Rattle.circuit.specs.declared.cell_kind.CellKind.{CellKind}
use Rattle.circuit.specs.CellKinds.{number_of, inputs_of, outputs_of}
use Rattle.geom.specs.Rectangle.{Rectangle, common, overlap, within, grown}
use Rattle.geom.specs.declared.shapes.Shape.{Shape}
use Rattle.layout_rules.specs.GeometryRules.{is_too_small, are_too_close}
use Rattle.layout_make.specs.Laws.{Is}
use Rattle.layout_make.proofs.Layered.{is_pin}

-- no shape is too small
abbrev pub G1 : LibraryView → List Shape → Type 0
G1 l shapes = (i : ℕ) (a : Shape) → Is shapes i a → is_too_small (limits_of l) a ≡ false

-- no two shapes are too close
abbrev pub G2 : LibraryView → List Shape → Type 0
G2 l shapes = (i j : ℕ) (a b : Shape) → Is shapes i a → Is shapes j b → are_too_close l.space a b ≡ false

-- a shape of the layer that contains the via and its margin
pub record Encloses (l : LibraryView) (shapes : List Shape) (layer : ℕ) (v : Shape) : Type 0 where
  pub number : ℕ
  pub shape : Shape
  pub at : Is shapes number shape
  pub of_layer : shape.layer ≡ layer
  pub contains : within (grown l.enclose v.rect) shape.rect ≡ true

-- each via lies in metal below and above, with its margin
abbrev pub G3 : LibraryView → List Shape → Type 0
G3 l shapes = (i : ℕ) (v : Shape) → Is shapes i v → v.layer ≡ 11 → Encloses l shapes 10 v × Encloses l shapes 12 v

-- c holds what a and b have in common
abbrev pub holds_common : Rectangle → Rectangle → Rectangle → Bool
holds_common a b c = within (common a b) c

-- metal and frame have in common what lies in a pin of the frame
pub record OverPin (shapes : List Shape) (metal frame : Shape) : Type 0 where
  pub number : ℕ
  pub pin : Shape
  pub at : Is shapes number pin
  pub of_pin : is_pin pin.layer ≡ true
  pub in_frame : within pin.rect frame.rect ≡ true
  pub common : holds_common metal.rect frame.rect pin.rect ≡ true

-- lower metal meets frames at their pins alone, and no via or upper metal meets a frame
pub record G4 (shapes : List Shape) : Type 0 where
  pub lower : (i j : ℕ) (a f : Shape) → Is shapes i a → Is shapes j f → a.layer ≡ 10 → f.layer ≡ 20
      → overlap a.rect f.rect ≡ true → OverPin shapes a f
  pub upper : (i j : ℕ) (a f : Shape) → Is shapes i a → Is shapes j f → (a.layer ≡ 11) ⊎ (a.layer ≡ 12) → f.layer ≡ 20
      → overlap a.rect f.rect ≡ true → ⊥

-- frames do not overlap, and those at one height are of one row
pub record G5 (shapes : List Shape) : Type 0 where
  pub apart : (i j : ℕ) (f g : Shape) → Is shapes i f → Is shapes j g → f.layer ≡ 20 → g.layer ≡ 20
      → overlap f.rect g.rect ≡ true → i ≡ j
  pub level : (i j : ℕ) (f g : Shape) → Is shapes i f → Is shapes j g → f.layer ≡ 20 → g.layer ≡ 20
      → int_lt f.rect.y0 g.rect.y1 ≡ true → int_lt g.rect.y0 f.rect.y1 ≡ true → (f.rect.y0 ≡ g.rect.y0)
      × (f.rect.y1 ≡ g.rect.y1)

-- pin p of this layer lies in frame f
pub record LiesIn (shapes : List Shape) (f p layer number : ℕ) : Type 0 where
  pub frame : Shape
  pub pin : Shape
  pub frame_is : Is shapes f frame
  pub pin_is : Is shapes p pin
  pub of_frame : frame.layer ≡ 20
  pub of_layer : pin.layer ≡ layer
  pub of_number : pin.datatype ≡ number
  pub inside : within pin.rect frame.rect ≡ true

-- one pin of each number below n, and no others
pub record HasPins (shapes : List Shape) (f layer n : ℕ) : Type 0 where
  pub each : (i : ℕ) → i < n → (p : ℕ) × LiesIn shapes f p layer i
  pub one : (i p q : ℕ) → LiesIn shapes f p layer i → LiesIn shapes f q layer i → p ≡ q
  pub no_other : (i p : ℕ) → LiesIn shapes f p layer i → i < n

-- the frame has the pins of its kind
pub record IsCell (shapes : List Shape) (f : ℕ) (frame : Shape) : Type 0 where
  pub kind : CellKind
  pub kind_so : frame.datatype ≡ number_of kind
  pub inputs : HasPins shapes f 21 (inputs_of kind)
  pub outputs : HasPins shapes f 22 (outputs_of kind)

-- there are frames, each with the pins of its kind, and each pin belongs to one
pub record E1 (shapes : List Shape) : Type 0 where
  pub some : (f : ℕ) × (frame : Shape) × Is shapes f frame × (frame.layer ≡ 20)
  pub cells : (f : ℕ) (frame : Shape) → Is shapes f frame → frame.layer ≡ 20 → IsCell shapes f frame
  pub each_in : (p : ℕ) (pin : Shape) → Is shapes p pin → is_pin pin.layer ≡ true
      → (f : ℕ) × LiesIn shapes f p pin.layer pin.datatype
  pub one_frame : (f g p layer i : ℕ) → is_pin layer ≡ true → LiesIn shapes f p layer i → LiesIn shapes g p layer i
      → f ≡ g
