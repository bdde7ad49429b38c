use Rattle.std.specs.Prelude.{◌≡◌}
use Rattle.sorting.specs.Numbers.{numbers}
use Rattle.test_plans.proofs.repeaters.forty.Given as goal

abbrev pub invariant-loop-slot : goal.invariant-loop-slot
invariant-loop-slot l = l.slots.items ≡ numbers 0 l.slot
