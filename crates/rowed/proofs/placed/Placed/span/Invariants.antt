use Rattle.std.proofs.Common.{◌≡◌, max, drop}
use Rattle.rowed.specs.PlacedNets.{paired, placed_rows}
use Rattle.rowed.specs.Extent.{widest}
use Rattle.rowed.proofs.placed.Placed.span.Given as goal

abbrev pub invariant-loop-number : goal.invariant-loop-number
invariant-loop-number l =
    max l.widest (widest (paired (drop l.number l.self.net.rows) (drop l.number l.self.slots))) ≡ widest
    (placed_rows l.self)
