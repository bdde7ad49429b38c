-- The steps of a comparison.
use Rattle.std.specs.Prelude.{ℕ, ◌≡◌, List, [], ◌∷◌, length}
use Rattle.blif_read.specs.Parts.{NetView}
use Rattle.circuit_extracted.specs.Circuits.{CircuitView}
use Rattle.aqfp_top.specs.Stages as stage
use Rattle.aqfp_top.specs.Stages.{Stage}
use Rattle.aqfp_top.specs.Comparing.{AreManyFunctions}
use Rattle.aqfp_top.specs.Code.Checking.{circuit_then}
use Rattle.aqfp_top.specs.declared.fault.Large.TheVariants.{Shapes, Functions, Design}
use Rattle.aqfp_top.specs.declared.fault.Fault.{Fault}
use Rattle.aqfp_top.specs.declared.fault.Fault.TheVariants.{BadBlif, BadDesign, BadLibrary, MissingCell, TooLarge}
use Rattle.aqfp_top.specs.declared.fault.Fault.TheVariants.{BadStream, RuleBroken, Widths, Memory}

-- all that comes before the counts of the chip and of the netlist are compared
abbrev pub both_stages : List ℕ → List ℕ → List ℕ → List Stage
both_stages gds lib net = circuit_then gds lib (stage.Netlist net ∷ [])

-- the circuit and the equations have these counts, and not the same ones
pub record AreWidths (circuit : CircuitView) (view : NetView) (inputs outputs net_inputs net_outputs : ℕ) : Type 0 where
  pub inputs_are : inputs ≡ circuit.inputs
  pub outputs_are : outputs ≡ length circuit.outputs
  pub net_inputs_are : net_inputs ≡ view.inputs
  pub net_outputs_are : net_outputs ≡ length view.outputs
  pub other : ¬ ((inputs ≡ net_inputs) × (outputs ≡ net_outputs))

-- the fault is that chip and netlist differ in how many inputs or outputs they have, and it has the four counts
abbrev pub AreOtherWidths : CircuitView → NetView → Fault → Type 0
AreOtherWidths circuit view (Widths inputs outputs net_inputs net_outputs) =
    AreWidths circuit view inputs outputs net_inputs net_outputs
AreOtherWidths circuit view _ = ⊥

-- the two have too many subfunctions
abbrev pub IsManyFault : CircuitView → NetView → Fault → Type 0
IsManyFault circuit view (TooLarge Functions count) = AreManyFunctions circuit view count
IsManyFault circuit view _ = ⊥

-- the faults of judging a layout, a library and a netlist, and of comparing them
abbrev pub IsComparingFault : Fault → Type 0
IsComparingFault (BadStream offset kind) = Unit {0}
IsComparingFault (TooLarge Shapes count) = Unit {0}
IsComparingFault (TooLarge Functions count) = count ≡ 1000001
IsComparingFault (TooLarge Design count) = Unit {0}
IsComparingFault (BadLibrary fault) = Unit {0}
IsComparingFault (MissingCell kind) = Unit {0}
IsComparingFault (RuleBroken rule first second) = Unit {0}
IsComparingFault (BadBlif fault) = Unit {0}
IsComparingFault (BadDesign line kind) = Unit {0}
IsComparingFault (Widths chip_inputs chip_outputs net_inputs net_outputs) = Unit {0}
IsComparingFault Memory = Unit {0}
IsComparingFault _ = ⊥
