use Rattle.std.proofs.Common.{◌≡◌, ◌++◌, drop}
use Rattle.layout_make.specs.Spots.{spots_of}
use Rattle.layout_make.specs.Channel.{wires_into}
use Rattle.layout_make.proofs.wires.wires_into.Given as goal

abbrev pub invariant-loop-number : goal.invariant-loop-number
invariant-loop-number l =
    l.wires.items ++ wires_into l.library (spots_of l.lower.cells.now l.lower.slots.now)
    (drop l.number (spots_of l.upper.cells.now l.upper.slots.now))
    ≡ wires_into l.library (spots_of l.lower.cells.now l.lower.slots.now) (spots_of l.upper.cells.now l.upper.slots.now)
