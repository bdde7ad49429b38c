use Rattle.std.proofs.Common.{◌≡◌, ◌+◌, drop}
use Rattle.rowed.specs.Counts.{wires_in}
use Rattle.rowed.proofs.placed.Placed.wire_count.Given as goal

abbrev pub invariant-loop-row : goal.invariant-loop-row
invariant-loop-row l = l.count + wires_in (drop l.row-index l.self.net.rows) ≡ wires_in l.self.net.rows
