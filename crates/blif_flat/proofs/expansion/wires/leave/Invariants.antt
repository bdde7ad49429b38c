use Rattle.std.proofs.Common.{◌≡◌, ◌++◌, map, take}
use Rattle.blif_read.specs.Code.Seen.{texts}
use Rattle.blif_flat.specs.Expansion.{wire}
use Rattle.blif_flat.specs.Code.Wired.{wires_of}
use Rattle.blif_flat.proofs.expansion.wires.leave.Given as goal

abbrev pub invariant-loop-name : goal.invariant-loop-name
invariant-loop-name l = wires_of l.places.items
    ≡ wires_of l.fn.places.items ++ map (wire l.call) (texts (take l.name-index l.name-items))
