use Rattle.std.proofs.Common.{◌≡◌, ◌++◌, ◌-◌, ℕ, drop, map}
use Rattle.repeater_rows.specs.Examples.{output}
use Rattle.test_plans.proofs.repeaters.outputs.Given as goal

abbrev pub invariant-loop-i : goal.invariant-loop-i
invariant-loop-i l = l.row.items ++ map (λ (i : ℕ). output (39 - i) i) (drop l.i-index l.numbers)
    ≡ map (λ (i : ℕ). output (39 - i) i) l.numbers
