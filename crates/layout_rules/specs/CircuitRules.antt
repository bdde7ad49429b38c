-- The rules that make a circuit: cells with their pins, nets that lead from one output to one input, each wire up by
-- one row, and labels on the chip's inputs and outputs.
use Rattle.std.specs.Prelude.{◌≡◌, ◌≢◌, ℕ, suc, ◌+◌, ◌<◌, ◌≤◌, ◌⊎◌, ◌==◌, ◌&&◌, ◌||◌, Bool, true, false}
use Rattle.std.specs.Prelude.{List, length, count_by, slice_get, slice_index, Some, if◌then◌else◌}
use Rattle.std.specs.List.{list_any}
use Rattle.geom.specs.declared.shapes.Shape.{Shape}
use Rattle.geom.specs.declared.shapes.Label.{Label}
use Rattle.geom.specs.declared.shapes.Flat.{Flat}
use Rattle.circuit.specs.declared.cell_kind.CellKind.{CellKind}
use Rattle.circuit.specs.CellKinds.{number_of, inputs_of, outputs_of}
use Rattle.layout_rules.specs.declared.layers.TheConstants.{INPUT_PIN, OUTPUT_PIN, LABELS}
use Rattle.layout_rules.specs.Layers.{is_frame, is_pin}
use Rattle.layout_rules.specs.Touch.{Joined}
use Rattle.layout_rules.specs.Rows.{row_of}
use Rattle.layout_rules.specs.Pins.{LiesIn, IsPinOf, is_entry, is_exit, entry_count, exit_count}
use Rattle.layout_rules.specs.Labels.{letter_i, marks, is_labelled, is_numbered, number_of_label}
use Rattle.layout_rules.specs.Reports.{Alone, Afterwards, Otherwise, Passes}

-- the pins of a layer in the frame: one of each number below n, and no others
pub record HasPins (shapes : List Shape) (f layer n : ℕ) : Type 0 where
  pub each : (i : ℕ) → i < n → (p : ℕ) × IsPinOf shapes f layer i p
  pub one : (i p q : ℕ) → IsPinOf shapes f layer i p → IsPinOf shapes f layer i q → p ≡ q
  pub no_other : (i p : ℕ) → IsPinOf shapes f layer i p → i < n

-- the frame is that of a cell of some kind, with the pins of that kind
pub record IsCell (shapes : List Shape) (f : ℕ) (frame : Shape) : Type 0 where
  pub kind : CellKind
  pub kind_is : frame.datatype ≡ number_of kind
  pub inputs : HasPins shapes f INPUT_PIN (inputs_of kind)
  pub outputs : HasPins shapes f OUTPUT_PIN (outputs_of kind)

-- the pin lies in a frame, and in no other
pub record LiesInOneFrame (shapes : List Shape) (p : ℕ) : Type 0 where
  pub frame : ℕ
  pub lies : LiesIn shapes p frame
  pub only : (f : ℕ) → LiesIn shapes p f → f ≡ frame

-- without a frame there is no chip, and 0 is reported twice
pub record HasNoFrame (shapes : List Shape) (a b : ℕ) : Type 0 where
  pub none : (f : ℕ) → Passes is_frame shapes f → ⊥
  pub first_is : a ≡ 0
  pub second_is : b ≡ 0

-- a frame that is no cell's
pub record IsNoCell (shapes : List Shape) (f : ℕ) : Type 0 where
  pub frame : Passes is_frame shapes f
  pub not_so : IsCell shapes f frame.shape → ⊥

-- a pin in no frame or in several
pub record IsStrayPin (shapes : List Shape) (p : ℕ) : Type 0 where
  pub pin : Passes is_pin shapes p
  pub not_so : LiesInOneFrame shapes p → ⊥

-- a frame that is no cell's, or a pin in no frame or several
abbrev pub CellsBroken : List Shape → ℕ → ℕ → Type 0
CellsBroken shapes = Afterwards (HasNoFrame shapes) (Alone (λ n. IsNoCell shapes n ⊎ IsStrayPin shapes n))

-- another pin of the same layer in the net of a pin
pub record HasRival (shapes : List Shape) (a b : ℕ) : Type 0 where
  pub pin : Passes is_pin shapes a
  pub other : Shape
  pub other_is : slice_get shapes b ≡ Some other
  pub one_layer : pin.shape.layer ≡ other.layer
  pub apart : a ≢ b
  pub joined : Joined shapes a b

-- an input pin of this number, and whether it is labelled
pub record IsInput (flat : Flat) (labelled : Bool) (a : ℕ) : Type 0 where
  pub pin : Shape
  pub pin_is : slice_get flat.shapes a ≡ Some pin
  pub of_layer : pin.layer ≡ INPUT_PIN
  pub labelled_so : is_labelled flat pin ≡ labelled

-- the number is that of an output pin in the net of a
pub record IsSource (shapes : List Shape) (a b : ℕ) : Type 0 where
  pub pin : Shape
  pub pin_is : slice_get shapes b ≡ Some pin
  pub of_layer : pin.layer ≡ OUTPUT_PIN
  pub joined : Joined shapes a b

-- an input pin without label and without an output pin in its net
pub record IsUndriven (flat : Flat) (a : ℕ) : Type 0 where
  pub input : IsInput flat false a
  pub none : (b : ℕ) → IsSource flat.shapes a b → ⊥

-- a labelled input pin and an output pin in its net
pub record IsDriven (flat : Flat) (a b : ℕ) : Type 0 where
  pub input : IsInput flat true a
  pub source : IsSource flat.shapes a b

-- pin by pin: a rival, no source where there is to be one, or a source where there is to be none
abbrev pub NetsBroken : Flat → ℕ → ℕ → Type 0
NetsBroken flat = Otherwise (HasRival flat.shapes) (Otherwise (Alone (IsUndriven flat)) (IsDriven flat))

-- an input pin without label and a source in a cell that doesn't stand in the row just below
pub record RowsBroken (flat : Flat) (a b : ℕ) : Type 0 where
  pub input : IsInput flat false a
  pub source : IsSource flat.shapes a b
  pub upper : ℕ
  pub lower : ℕ
  pub in_upper : LiesIn flat.shapes a upper
  pub in_lower : LiesIn flat.shapes b lower
  pub not_above : row_of flat.shapes in_upper.frame.rect.y0 ≢ suc (row_of flat.shapes in_lower.frame.rect.y0)

-- a pin that carries a label: an input pin of the lowest row, or an output pin of the last
abbrev pub is_port : List Shape → Shape → Bool
is_port shapes pin = is_entry shapes pin || is_exit shapes pin

-- the label has a letter and a number, and marks one pin, which is a port
abbrev pub is_port_label : List Shape → Label → Bool
is_port_label shapes label = is_numbered label && count_by (marks label) shapes == 1
    && list_any (λ pin. marks label pin && is_port shapes pin) shapes

-- the label of this number, counted after all shapes
pub record IsLabelAt (flat : Flat) (n : ℕ) : Type 0 where
  pub place : ℕ
  pub label : Label
  pub label_is : slice_get flat.labels place ≡ Some label
  pub of_layer : label.layer ≡ LABELS
  pub number_is : n ≡ length flat.shapes + place

-- a label that is no port's
pub record IsNoPortLabel (flat : Flat) (n : ℕ) : Type 0 where
  pub at : IsLabelAt flat n
  pub not_so : is_port_label flat.shapes at.label ≡ false

-- a port with no label or several
pub record IsUnlabelledPort (flat : Flat) (p : ℕ) : Type 0 where
  pub port : Passes (is_port flat.shapes) flat.shapes p
  pub not_one : count_by (λ label. marks label port.shape) flat.labels ≢ 1

-- how many ports have labels with this label's letter
abbrev pub port_count : List Shape → Label → ℕ
port_count shapes label = (if slice_index label.text 0 == letter_i then entry_count shapes else exit_count shapes)

-- two labels have one letter and one number
abbrev pub have_one_name : Label → Label → Bool
have_one_name a b = slice_index a.text 0 == slice_index b.text 0 && number_of_label a == number_of_label b

-- an earlier label has the letter and the number too
pub record IsRepeated (flat : Flat) (place : ℕ) (label : Label) : Type 0 where
  pub earlier : ℕ
  pub other : Label
  pub before : earlier < place
  pub other_is : slice_get flat.labels earlier ≡ Some other
  pub of_layer : other.layer ≡ LABELS
  pub one_name : have_one_name other label ≡ true

-- a label whose number is not below the number of such ports, or that an earlier label has
pub record IsMisnumbered (flat : Flat) (n : ℕ) : Type 0 where
  pub at : IsLabelAt flat n
  pub wrong : (port_count flat.shapes at.label ≤ number_of_label at.label) ⊎ IsRepeated flat at.place at.label

-- the labels by themselves, then the ports, then the labels' numbers
abbrev pub LabelsBroken : Flat → ℕ → ℕ → Type 0
LabelsBroken flat =
    Afterwards (Alone (IsNoPortLabel flat))
    (Afterwards (Alone (IsUnlabelledPort flat)) (Alone (IsMisnumbered flat)))
