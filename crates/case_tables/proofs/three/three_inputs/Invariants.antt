use Rattle.std.proofs.Common.{◌≡◌}
use Rattle.case_tables.specs.Tables.{three_recipe, recipes_below}
use Rattle.case_tables.proofs.three.three_inputs.Given as goal

abbrev pub invariant-loop-number : goal.invariant-loop-number
invariant-loop-number l = l.recipes ≡ recipes_below three_recipe l.number
