use Rattle.std.proofs.Common.{◌≡◌, ◌≤◌, length, drop}
use Rattle.layout_make.specs.Spots.{spots_of}
use Rattle.layout_make.specs.Code.Labelling.{port_slots}
use Rattle.layout_make.proofs.marks.port_slots.Given as goal

abbrev pub invariant-loop-number : goal.invariant-loop-number
invariant-loop-number l = (l.number ≤ length l.row.cells.now)
    × (l.slots.items ≡ port_slots l.ports (drop l.number (spots_of l.row.cells.now l.row.slots.now)) l.count)

abbrev pub decreases-loop-number : goal.decreases-loop-number
decreases-loop-number l = l.number
