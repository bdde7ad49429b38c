-- The pins of the cells of every placed net are drawn.
use Rattle.std.proofs.Common.{◌≡◌, ℕ, ◌<◌, sym, subst, ◌∙◌, List, Some, slice_get}
use Rattle.std.proofs.lemmas.Option.{same_Some}
use Rattle.cell_library.specs.Library.{LibraryView}
use Rattle.geom.specs.declared.shapes.Shape.{Shape}
use Rattle.layout_rules.specs.Pins.{IsPinOf}
use Rattle.layout_rules.specs.declared.layers.TheConstants.{INPUT_PIN, OUTPUT_PIN}
use Rattle.layout_make.proofs.Lawful.{IsLawful}
use Rattle.layout_make.specs.Sheet.{Frame}
use Rattle.layout_make.specs.Tags.{At, sheet, tags}
use Rattle.rowed.specs.PlacedNets.{PlacedView}
use Rattle.layout_make.specs.Spots.{Spot, spots}
use Rattle.layout_make.proofs.ReadyNets.{IsReady}
use Rattle.layout_make.specs.declared.marks.Ports.{Ports as Side}
use Rattle.layout_make.specs.declared.marks.Ports.TheVariants.{Inputs, Outputs}
use Rattle.layout_make.specs.Laws.{flat_shapes, FrameAt, InAt, OutAt}
use Rattle.layout_make.specs.PinsAreDrawn.{PinsAreDrawn}
use Rattle.layout_make.proofs.Sides.{pins_on, pin_column, layer_on, layer_pin}
use Rattle.layout_make.proofs.Sides.{IsPin, PinAt, placed_pin, pin_placed}
use Rattle.layout_make.proofs.FlatLaw.{flat_is_tags}
use Rattle.layout_make.proofs.Origins.{pin_stands}
use Rattle.layout_make.proofs.Whole.{drawn, spot_row}
use Rattle.layout_make.proofs.Pins.{pin_lies}
use Rattle.layout_make.proofs.KeptCells.{pin_of}
use Rattle.layout_make.proofs.Wiring.{Ports, cell_of_pin, same_pin}
use Rattle.layout_make.proofs.LabelRule.{own_columns}

module _ (p : PlacedView) (l : LibraryView) (is : IsReady p l) (laws : IsLawful l) (ports : Ports p) where
  pin_there : (side : Side) (r n i : ℕ) (x : Spot) → IsPin p side r n i x → (m : ℕ) × PinAt p l side r n i m
  pin_there side r n i x h =
      let k = is_placed side r n i x h in
      let m = pin_stands p l side r x i (spot_row p r x (n, k.0)) (n, k.0) k.1 in
      (m.0, pin_placed p l side r n i m.0 (record { spot = x; at = k.0; below = k.1; tag_at = m.1 }))
    where
      is_placed : (side : Side) (r n i : ℕ) (x : Spot) → IsPin p side r n i x → (slice_get (spots p r) n ≡ Some x)
          × (i < pins_on side x.cell.kind)
      is_placed Inputs r n i x h = (h.at, h.below)
      is_placed Outputs r n i x h = (h.at, h.below)

  pin_in_frame : (side : Side) (r n i f m : ℕ) → FrameAt p l r n f → PinAt p l side r n i m
      → IsPinOf (flat_shapes p l) f (layer_on side) i m
  pin_in_frame side r n i f m frame pin =
      let at = placed_pin p l side r n i m pin in
      let e : frame.spot ≡ at.spot = same_Some _ _ (sym frame.place ∙ at.at) in
      let lies = pin_lies (sheet p l) (tags p l) (drawn p l is laws) side f m r at.spot.slot
      (pin_column l side at.spot i) i at.spot.cell.kind
      (subst (λ (x : Spot). At (tags p l) f (Frame r x.slot x.cell.kind)) e frame.at) at.tag_at
      (own_columns p l is laws ports side r n i m at) in
      subst (λ (ss : List Shape). IsPinOf ss f (layer_on side) i m) (sym (flat_is_tags p l laws))
      (pin_of _ f m (layer_on side) i (layer_pin side) lies)

  pub input_in_frame : (r n i f m : ℕ) → FrameAt p l r n f → InAt p l r n i m
      → IsPinOf (flat_shapes p l) f INPUT_PIN i m
  input_in_frame = pin_in_frame Inputs

  pub output_in_frame : (r n o f m : ℕ) → FrameAt p l r n f → OutAt p l r n o m
      → IsPinOf (flat_shapes p l) f OUTPUT_PIN o m
  output_in_frame = pin_in_frame Outputs

  each_pin : (side : Side) (m : ℕ) (a : Shape) → slice_get (flat_shapes p l) m ≡ Some a → a.layer ≡ layer_on side
      → (r n i : ℕ) × PinAt p l side r n i m
  each_pin side m a at e = let k = cell_of_pin p l laws side m a at e in (k.row, k.cell, k.pin, k.pin_at)

  pub pins_drawn : PinsAreDrawn p l
  pins_drawn = record {
    input = pin_there Inputs;
    input_once = same_pin p l (drawn p l is laws) Inputs;
    input_is = pin_in_frame Inputs;
    each_input = each_pin Inputs;
    output = pin_there Outputs;
    output_once = same_pin p l (drawn p l is laws) Outputs;
    output_is = pin_in_frame Outputs;
    each_output = each_pin Outputs;
  }
