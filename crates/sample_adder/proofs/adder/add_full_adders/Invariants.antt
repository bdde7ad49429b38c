use Rattle.std.proofs.Common.{◌≡◌, ◌++◌}
use Rattle.sample_adder.specs.Adder as adder
use Rattle.sample_adder.proofs.adder.add_full_adders.Given as goal

abbrev pub invariant-loop-done : goal.invariant-loop-done
invariant-loop-done l = l.text.items ≡ l.initial.text.items ++ adder.full_adders l.done
