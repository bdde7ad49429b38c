-- The laws of a library. They make every chip that is drawn with it keep the rules of its layout.
use Rattle.std.specs.Prelude.{ℕ, ◌≡◌, ◌≢◌, ◌<◌, ◌≤◌, ◌+◌, ◌*◌, ◌%◌}
use Rattle.std.specs.Prelude.{List, [], ◌∷◌, length, slice_index, EachIndex, All, Some}
use Rattle.circuit.specs.declared.cell_kind.CellKind.{CellKind}
use Rattle.circuit.specs.CellKinds.{inputs_of, outputs_of}
use Rattle.cell_library.specs.declared.draft.Pins.{Pins}
use Rattle.cell_library.specs.declared.laws.PinLaw.{PinLaw}
use Rattle.cell_library.specs.declared.laws.PinLaw.TheVariants.{Counts, InputSlots, OutputSlots, OddInputs, EvenOutputs}
use Rattle.cell_library.specs.declared.laws.Law.{Law}
use Rattle.cell_library.specs.declared.laws.Law.TheVariants.{EvenSizes, EvenColumns, ViaInWire, TracksApart, PinsApart}
use Rattle.cell_library.specs.declared.laws.Law.TheVariants.{OfPins, Reach, WireInPin, WidestCell, Capacity}
use Rattle.cell_library.specs.Library.{LibraryView, pins_of, IsGiven}
use Rattle.circuit.specs.declared.cell_kind.CellKind.TheVariants.{Split3}
use Rattle.cell_library.specs.Reach.{length_reach_of}

-- pin i has a column of slot i
abbrev pub IsInSlots : ℕ → List ℕ → Type 0
IsInSlots columns pins =
    EachIndex pins (λ i. (i * columns ≤ slice_index pins i) × (slice_index pins i < (i + 1) * columns))

-- what a law on pins says of one kind
abbrev pub KindKeeps : PinLaw → ℕ → CellKind → Pins → Type 0
KindKeeps Counts columns kind pins = (length pins.inputs ≡ inputs_of kind) × (length pins.outputs ≡ outputs_of kind)
KindKeeps InputSlots columns kind pins = IsInSlots columns pins.inputs
KindKeeps OutputSlots columns kind pins = IsInSlots columns pins.outputs
KindKeeps OddInputs columns kind pins = All (λ column. column % 2 ≡ 1) pins.inputs
KindKeeps EvenOutputs columns kind pins = All (λ column. column % 2 ≡ 0) pins.outputs

-- the sizes that are even
abbrev pub sizes_of : LibraryView → List ℕ
sizes_of l = l.wire ∷ l.space ∷ l.via ∷ l.enclose ∷ l.pin ∷ l.height ∷ l.pitch ∷ []

-- what a law says of a library
abbrev pub Holds : Law → LibraryView → Type 0
Holds EvenSizes l = All (λ size. size % 2 ≡ 0) (sizes_of l)
Holds EvenColumns l = l.columns % 2 ≡ 0
Holds ViaInWire l = l.via + 2 * l.enclose ≤ l.wire
Holds TracksApart l = l.wire + l.space ≤ l.pitch
Holds PinsApart l = 2 * l.pin + l.space ≤ l.height
Holds (OfPins law) l = (kind : CellKind) (pins : Pins) → pins_of l kind ≡ Some pins → KindKeeps law l.columns kind pins
Holds Reach l = 2 ≤ length_reach_of l
Holds WireInPin l = l.wire ≤ l.pin
Holds WidestCell l = 3 * l.columns * l.pitch ≤ 2147483647
Holds Capacity l = 4 ≤ l.capacity

-- the number of a law
abbrev pub law_number : Law → ℕ
law_number EvenSizes = 1
law_number EvenColumns = 2
law_number ViaInWire = 3
law_number TracksApart = 4
law_number PinsApart = 5
law_number (OfPins Counts) = 6
law_number (OfPins InputSlots) = 7
law_number (OfPins OutputSlots) = 8
law_number (OfPins OddInputs) = 9
law_number (OfPins EvenOutputs) = 10
law_number Reach = 11
law_number WireInPin = 12
law_number WidestCell = 13
law_number Capacity = 14

-- the law of this number doesn't hold, and all before it do
pub record BreaksFirst (l : LibraryView) (number : ℕ) : Type 0 where
  pub law : Law
  pub number_is : law_number law ≡ number
  pub broken : ¬ Holds law l
  pub before : (other : Law) → law_number other < number → Holds other l

-- each number is in its range
pub record InRanges (l : LibraryView) : Type 0 where
  pub wire_some : 1 ≤ l.wire
  pub wire_most : l.wire ≤ 1000000
  pub space_some : 1 ≤ l.space
  pub space_most : l.space ≤ 1000000
  pub via_some : 1 ≤ l.via
  pub via_most : l.via ≤ 1000000
  pub enclose_some : 1 ≤ l.enclose
  pub enclose_most : l.enclose ≤ 1000000
  pub pin_some : 1 ≤ l.pin
  pub pin_most : l.pin ≤ 1000000
  pub height_some : 1 ≤ l.height
  pub height_most : l.height ≤ 1000000
  pub pitch_some : 1 ≤ l.pitch
  pub pitch_most : l.pitch ≤ 1000000
  pub columns_some : 1 ≤ l.columns
  pub columns_most : l.columns ≤ 1000
  pub capacity_some : 1 ≤ l.capacity
  pub capacity_most : l.capacity ≤ 1000
  pub limit_some : 1 ≤ l.limit
  pub limit_most : l.limit ≤ 2147483647

-- each number is in its range, and each kind has a place
pub record IsDraft (l : LibraryView) : Type 0 where
  pub ranges : InRanges l
  pub kinds : length l.pins ≡ 7

-- each kind is given that no library leaves out
abbrev pub GivesMandatory : LibraryView → Type 0
GivesMandatory l = (kind : CellKind) → kind ≢ Split3 → IsGiven l kind

-- what every library keeps
pub record IsLibrary (l : LibraryView) : Type 0 where
  pub draft : IsDraft l
  pub given : (kind : CellKind) → kind ≢ Split3 → IsGiven l kind
  pub laws : (law : Law) → Holds law l
