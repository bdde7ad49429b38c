use Rattle.std.proofs.Common.{◌≡◌, ◌+◌, drop}
use Rattle.plan_compact.specs.Junctions.{junctions_in}
use Rattle.plan_compact.proofs.sizes.junctions.Given as goal

abbrev pub invariant-loop-row : goal.invariant-loop-row
invariant-loop-row l = l.junctions + junctions_in (drop l.row-index l.chip.net.rows) ≡ junctions_in l.chip.net.rows
