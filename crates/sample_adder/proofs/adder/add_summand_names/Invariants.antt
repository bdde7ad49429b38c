use Rattle.std.proofs.Common.{◌≡◌, ◌++◌}
use Rattle.sample_adder.specs.Adder as adder
use Rattle.sample_adder.proofs.adder.add_summand_names.Given as goal

abbrev pub invariant-loop-bit : goal.invariant-loop-bit
invariant-loop-bit l = l.text.items ≡ l.initial.text.items ++ adder.summand_names l.bit
