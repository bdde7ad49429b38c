-- Every library places its pins in their slots.
use Rattle.std.specs.Prelude.{◌≡◌, Option, Some, None, IsSome, refl}
use Rattle.std.proofs.Common.{arith}
use Rattle.cell_library.specs.declared.draft.Pins.{Pins}
use Rattle.cell_library.specs.declared.laws.PinLaw.TheVariants.{Counts, InputSlots, OutputSlots, OddInputs, EvenOutputs}
use Rattle.cell_library.specs.declared.laws.Law.TheVariants.{OfPins}
use Rattle.cell_library.specs.Library.{LibraryView, pins_of}
use Rattle.cell_library.specs.Laws.{IsLibrary}
use Rattle.cell_library.specs.PinPlaces.{PlacesPins}

some_pins : (o : Option Pins) → IsSome o → (pins : Pins) × (o ≡ Some pins)
some_pins None given = cc
some_pins (Some pins) given = (pins, refl)

-- every library places its pins so
pub places_pins : (l : LibraryView) → IsLibrary l → PlacesPins l
places_pins l known = record {
  input_least = λ kind pin given within.
      let p = some_pins (pins_of l kind) given in
      let counts = known.laws (OfPins Counts) kind p.0 p.1 in
      rw p.1 (known.laws (OfPins InputSlots) kind p.0 p.1 pin (omega (arith, counts.0))).0;
  input_most = λ kind pin given within.
      let p = some_pins (pins_of l kind) given in
      let counts = known.laws (OfPins Counts) kind p.0 p.1 in
      rw p.1 (known.laws (OfPins InputSlots) kind p.0 p.1 pin (omega (arith, counts.0))).1;
  input_odd = λ kind pin given within.
      let p = some_pins (pins_of l kind) given in
      let counts = known.laws (OfPins Counts) kind p.0 p.1 in
      rw p.1 (known.laws (OfPins OddInputs) kind p.0 p.1 pin 0 (omega (arith, counts.0)));
  output_least = λ kind pin given within.
      let p = some_pins (pins_of l kind) given in
      let counts = known.laws (OfPins Counts) kind p.0 p.1 in
      rw p.1 (known.laws (OfPins OutputSlots) kind p.0 p.1 pin (omega (arith, counts.1))).0;
  output_most = λ kind pin given within.
      let p = some_pins (pins_of l kind) given in
      let counts = known.laws (OfPins Counts) kind p.0 p.1 in
      rw p.1 (known.laws (OfPins OutputSlots) kind p.0 p.1 pin (omega (arith, counts.1))).1;
  output_even = λ kind pin given within.
      let p = some_pins (pins_of l kind) given in
      let counts = known.laws (OfPins Counts) kind p.0 p.1 in
      rw p.1 (known.laws (OfPins EvenOutputs) kind p.0 p.1 pin 0 (omega (arith, counts.1)));
}
