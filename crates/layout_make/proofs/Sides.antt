-- A pin with its side: the input pins and the output pins of cells in one notion.
use Rattle.std.proofs.Common.{◌≡◌, ℕ, ◌+◌, ◌*◌, ◌<◌, ◌≤◌, Bool, true, false, refl, ap, List, map, Some, slice_get}
use Rattle.circuit.specs.declared.cell_kind.CellKind.{CellKind}
use Rattle.circuit.specs.CellKinds.{inputs_of, outputs_of, slots_of}
use Rattle.cell_library.specs.Library.{LibraryView, IsGiven, input_column_of, output_column_of}
use Rattle.sorting.specs.Numbers.{numbers}
use Rattle.rowed.specs.PlacedNets.{PlacedView}
use Rattle.layout_make.specs.Sheet.{Sheet, Tag, InPin, OutPin, area, rect_of, place_of, layer_of, datatype_of}
use Rattle.layout_make.specs.Spots.{Spot, spots, IsInput, IsOutput}
use Rattle.layout_make.specs.Tags.{At, tags}
use Rattle.layout_make.specs.Laws.{InAt, OutAt}
use Rattle.layout_make.specs.declared.marks.Ports.{Ports as Side}
use Rattle.layout_make.specs.declared.marks.Ports.TheVariants.{Inputs, Outputs}
use Rattle.layout_make.proofs.Lawful.{IsLawful}
use Rattle.layout_make.proofs.Layered.{is_pin}
use Rattle.layout_make.proofs.PinCounts.{inputs_slots, outputs_slots}

-- how many pins a kind has on a side
abbrev pub pins_on : Side → CellKind → ℕ
pins_on Inputs k = inputs_of k
pins_on Outputs k = outputs_of k

-- the column of a pin, counted from the cell's left edge
abbrev pub column_on : LibraryView → Side → CellKind → ℕ → ℕ
column_on l Inputs k i = input_column_of l k i
column_on l Outputs k i = output_column_of l k i

-- the same, counted from the left edge of the rows
abbrev pub pin_column : LibraryView → Side → Spot → ℕ → ℕ
pin_column l side x i = x.slot * l.columns + column_on l side x.cell.kind i

-- the tag of a pin, by its row, column and number
abbrev pub pin_tag : Side → ℕ → ℕ → ℕ → Tag
pin_tag Inputs r c i = InPin r c i
pin_tag Outputs r c i = OutPin r c i

-- the layer of pins
abbrev pub layer_on : Side → ℕ
layer_on Inputs = 21
layer_on Outputs = 22

-- the pins of a cell
abbrev pub side_tags : LibraryView → ℕ → Side → Spot → List Tag
side_tags l r side x = map (λ i. pin_tag side r (pin_column l side x i) i) (numbers 0 (pins_on side x.cell.kind))

-- pin i of cell n of a row
abbrev pub IsPin : PlacedView → Side → ℕ → ℕ → ℕ → Spot → Type 0
IsPin p Inputs r n i x = IsInput p r n i x
IsPin p Outputs r n i x = IsOutput p r n i x

-- shape m is that pin
abbrev pub PinAt : PlacedView → LibraryView → Side → ℕ → ℕ → ℕ → ℕ → Type 0
PinAt p l Inputs r n i m = InAt p l r n i m
PinAt p l Outputs r n i m = OutAt p l r n i m

-- the same for both sides
pub record PinPlace (p : PlacedView) (l : LibraryView) (side : Side) (r n i m : ℕ) : Type 0 where
  pub spot : Spot
  pub at : slice_get (spots p r) n ≡ Some spot
  pub below : i < pins_on side spot.cell.kind
  pub tag_at : At (tags p l) m (pin_tag side r (pin_column l side spot i) i)

pub placed_pin : (p : PlacedView) (l : LibraryView) (side : Side) (r n i m : ℕ) → PinAt p l side r n i m
    → PinPlace p l side r n i m
placed_pin p l Inputs r n i m a = record { spot = a.spot; at = a.input.at; below = a.input.below; tag_at = a.at }
placed_pin p l Outputs r n i m a = record { spot = a.spot; at = a.output.at; below = a.output.below; tag_at = a.at }

pub pin_placed : (p : PlacedView) (l : LibraryView) (side : Side) (r n i m : ℕ) → PinPlace p l side r n i m
    → PinAt p l side r n i m
pin_placed p l Inputs r n i m a =
    record { spot = a.spot; input = record { at = a.at; below = a.below }; at = a.tag_at }
pin_placed p l Outputs r n i m a =
    record { spot = a.spot; output = record { at = a.at; below = a.below }; at = a.tag_at }

-- a pin's column is of its own slot
pub in_slot : (l : LibraryView) → IsLawful l → (side : Side) (k : CellKind) (i : ℕ) → IsGiven l k → i < pins_on side k
    → (i * l.columns ≤ column_on l side k i) × (column_on l side k i < (i + 1) * l.columns)
in_slot l laws Inputs k i given lt = (laws.input_least k i given lt, laws.input_most k i given lt)
in_slot l laws Outputs k i given lt = (laws.output_least k i given lt, laws.output_most k i given lt)

pub pins_slots : (side : Side) (k : CellKind) → pins_on side k ≤ slots_of k
pins_slots Inputs k = inputs_slots k
pins_slots Outputs k = outputs_slots k

-- what a tag tells of its pin
pub pin_told : (a b : Side) (r c i q d j : ℕ) → pin_tag a r c i ≡ pin_tag b q d j → (a ≡ b) × (r ≡ q) × (c ≡ d)
    × (i ≡ j)
pin_told Inputs Inputs r c i q d j e = (refl, cc, cc, cc)
pin_told Outputs Outputs r c i q d j e = (refl, cc, cc, cc)
pin_told Inputs Outputs r c i q d j e = absurd cc
pin_told Outputs Inputs r c i q d j e = absurd cc

abbrev pub is_pin_tag : Tag → Bool
is_pin_tag (InPin r c i) = true
is_pin_tag (OutPin r c i) = true
is_pin_tag t = false

-- no other tag is a pin's
pub no_pin : (side : Side) (r c i : ℕ) (t : Tag) → is_pin_tag t ≡ false → pin_tag side r c i ≡ t → ⊥
no_pin Inputs r c i t other e = absurd (let k : true ≡ is_pin_tag t = ap is_pin_tag e in cc)
no_pin Outputs r c i t other e = absurd (let k : true ≡ is_pin_tag t = ap is_pin_tag e in cc)

pub pin_place : (s : Sheet) (side : Side) (r c i : ℕ)
    → place_of s (pin_tag side r c i) ≡ rect_of (area s (pin_tag side r c i))
pin_place s Inputs r c i = refl
pin_place s Outputs r c i = refl

pub pin_layer : (side : Side) (r c i : ℕ) → layer_of (pin_tag side r c i) ≡ layer_on side
pin_layer Inputs r c i = refl
pin_layer Outputs r c i = refl

pub pin_number : (s : Sheet) (side : Side) (r c i : ℕ) → datatype_of s (pin_tag side r c i) ≡ i
pin_number s Inputs r c i = refl
pin_number s Outputs r c i = refl

pub layer_pin : (side : Side) → is_pin (layer_on side) ≡ true
layer_pin Inputs = refl
layer_pin Outputs = refl
