use Rattle.std.proofs.Common.{◌≡◌, ◌+◌, drop}
use Rattle.level_balance.specs.Code.Served.{used_each, IsAtMost}
use Rattle.level_balance.proofs.count.add_outputs.Given as goal

abbrev pub invariant-loop-output : goal.invariant-loop-output
invariant-loop-output l = IsAtMost (0 + l.output-index) l.fans
    × (used_each l.fans (drop l.output-index l.outputs) ≡ used_each l.fn.fans l.outputs)
