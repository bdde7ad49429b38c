-- How many pins a kind of a library has.
use Rattle.std.proofs.Common.{ℕ, ◌≡◌, ◌<◌, ◌≤◌, ◌/◌, length, Some, arith, sym}
use Rattle.circuit.specs.declared.cell_kind.CellKind.{CellKind}
use Rattle.circuit.specs.CellKinds.{inputs_of, outputs_of}
use Rattle.cell_library.specs.declared.draft.Pins.{Pins}
use Rattle.cell_library.specs.declared.laws.PinLaw.TheVariants.{Counts}
use Rattle.cell_library.specs.declared.laws.Law.TheVariants.{OfPins, Reach, Capacity}
use Rattle.cell_library.specs.Library.{LibraryView, pins_of}
use Rattle.cell_library.specs.Reach.{length_reach_of, reach_of}
use Rattle.cell_library.specs.Laws.{IsLibrary}

pub input_within : (l : LibraryView) (kind : CellKind) (pins : Pins) (pin : ℕ) → IsLibrary l
    → Some pins ≡ pins_of l kind → pin < inputs_of kind → pin < length pins.inputs
input_within l kind pins pin known given within = let counts = known.laws (OfPins Counts) kind pins
    (sym given) in omega (arith, counts.0)

pub output_within : (l : LibraryView) (kind : CellKind) (pins : Pins) (pin : ℕ) → IsLibrary l
    → Some pins ≡ pins_of l kind → pin < outputs_of kind → pin < length pins.outputs
output_within l kind pins pin known given within = let counts = known.laws (OfPins Counts) kind pins
    (sym given) in omega (arith, counts.1)

pub ruleset pin_counts = (input_within, output_within)

-- the reach is at least 2
pub two_reach : (l : LibraryView) (reach : ℕ) → IsLibrary l → reach ≡ reach_of l → 2 ≤ reach
two_reach l reach known e = let long : 2 ≤ length_reach_of l = known.laws Reach in let tracks : 4 ≤ l.capacity =
    known.laws Capacity in let half : 2 ≤ l.capacity / 2 = omega (arith, tracks) in omega (arith, e, long, half)

pub ruleset reach_least = two_reach
