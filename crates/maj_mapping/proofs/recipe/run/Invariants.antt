use Rattle.maj_mapping.proofs.Running.{Running}
use Rattle.maj_mapping.proofs.recipe.run.Given as goal

abbrev pub invariant-loop-step : goal.invariant-loop-step
invariant-loop-step l = Running l.fn.maker l.inputs.a l.inputs.b l.inputs.c l.step-items l.recipe.steps l.maker
    l.done.items l.step-index
