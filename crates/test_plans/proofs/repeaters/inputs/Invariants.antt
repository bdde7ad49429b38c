use Rattle.std.proofs.Common.{◌≡◌, ◌++◌, ℕ, drop, map}
use Rattle.rowed.specs.MadeCells.{input_cell}
use Rattle.test_plans.proofs.repeaters.inputs.Given as goal

abbrev pub invariant-loop-i : goal.invariant-loop-i
invariant-loop-i l =
    l.row.items ++ map (λ (i : ℕ). input_cell i) (drop l.i-index l.numbers) ≡ map (λ (i : ℕ). input_cell i) l.numbers
