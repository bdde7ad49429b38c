use Rattle.std.proofs.Common.{◌≡◌, ◌++◌, map, take}
use Rattle.blif_flat.specs.Designs.{names_in}
use Rattle.blif_flat.specs.Expansion.{wire}
use Rattle.blif_flat.specs.Code.Wired.{wires_of}
use Rattle.blif_flat.proofs.expansion.wires.begin.Given as goal

abbrev pub invariant-loop-input : goal.invariant-loop-input
invariant-loop-input l = wires_of l.places.items
    ≡ wires_of l.initial.places.items ++ map (wire l.call) (names_in (take l.input-index l.model.inputs))

abbrev pub invariant-loop-def : goal.invariant-loop-def
invariant-loop-def l = wires_of l.places.items
    ≡ wires_of l.fn.places.items
    ++ map (wire l.call) (names_in l.model.inputs ++ map (λ d. d.output) (take l.def-index l.model.defs))
