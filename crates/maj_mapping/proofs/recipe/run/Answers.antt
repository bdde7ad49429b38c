use Rattle.std.proofs.Common.{◌∙◌, ap}
use Rattle.case_tables.specs.RecipeView.{RecipeView}
use Rattle.case_tables.specs.Recipes.{operand_is}
use Rattle.maj_mapping.specs.Covers.{names}
use Rattle.maj_mapping.proofs.Running.{no_steps, one_step, all_steps, step_room}
use Rattle.maj_mapping.proofs.recipe.run.Goals as goal

pub loop-step-init : goal.loop-step-init
loop-step-init c = no_steps _ _ _ _ _ _ _ c.requires.good (c.as_slice-step-items.ensures
    ∙ ap (λ (r : RecipeView). r.steps) c.recipe.view_is) c.new-done.ensures.items

pub loop-step-preserved : goal.loop-step-preserved
loop-step-preserved c = one_step _ _ _ _ _ _ _ _ _ _ _ _ _ _ c.requires.a c.requires.b c.requires.c
    c.loop-step.invariant c.loop-step-test.true c.deref.ensures.value c.in_ok-gate.ensures.gates c.in_ok-gate.ensures.at
    c.in_ok-push.ensures.items

pub returns-clause-gates : goal.returns-clause-gates
returns-clause-gates c = (all_steps _ _ _ _ _ c.args.recipe.now _ _ _ c.loop-step.invariant c.loop-step-test.false).0

pub returns-clause-at : goal.returns-clause-at
returns-clause-at c =
    c.gate_of.ensures
    ∙ ap (λ ds. operand_is (names c.loop-step.maker.inputs c.args.inputs.a c.args.inputs.b c.args.inputs.c) ds
    c.recipe.inside.out) c.deref-2.ensures.value
    ∙ ap (λ (r : RecipeView). operand_is
    (names c.loop-step.maker.inputs c.args.inputs.a c.args.inputs.b c.args.inputs.c) c.loop-step.done.items r.out)
    c.recipe.view_is
    ∙ (all_steps _ _ _ _ _ c.args.recipe.now _ _ _ c.loop-step.invariant c.loop-step-test.false).1

pub make_step-requires-clause-room : goal.make_step-requires-clause-room
make_step-requires-clause-room c = step_room _ _ _ _ _ _ _ _ _ _ _ _ c.loop-step.invariant c.loop-step-test.true
    c.deref.ensures.value c.requires.room
