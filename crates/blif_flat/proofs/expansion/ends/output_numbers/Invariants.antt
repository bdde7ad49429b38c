use Rattle.std.proofs.Common.{◌≡◌, map, take}
use Rattle.blif_flat.specs.Designs.{names_in}
use Rattle.blif_flat.specs.Expansion.{wire, number}
use Rattle.blif_flat.specs.Code.Wired.{wires_of}
use Rattle.blif_flat.proofs.expansion.ends.output_numbers.Given as goal

abbrev pub invariant-loop-output : goal.invariant-loop-output
invariant-loop-output l = l.list
    ≡ map (λ o. number (wires_of l.places) (wire 0 o)) (names_in (take l.output-index l.outputs))
