use Rattle.std.proofs.Common.{◌≡◌, ℕ, ◌+◌, ◌/◌, ◌%◌, ◌≤◌, List, length, ◌++◌, ◌∷◌, [], refl, sym, ap, ◌∙◌, subst, arith}
use Rattle.std.proofs.Common.{lit<, add-one}
use Rattle.case_tables.specs.declared.recipe.Operand.{Operand}
use Rattle.case_tables.specs.declared.recipe.Step.{Step}
use Rattle.case_tables.specs.RecipeView.{RecipeView}
use Rattle.case_tables.specs.Recipes.{truth_number3}
use Rattle.case_tables.specs.Tables.{three_recipe_by, three_recipe, recipes_below}
use Rattle.case_tables.specs.Entries.{IsTable}
use Rattle.case_tables.proofs.EntryLaws.{three_entry}
use Rattle.case_tables.proofs.TableLaws.{three_table, length_below}
use Rattle.case_tables.proofs.three.three_inputs.Goals as goal

one_more : (k : ℕ) (before after : List RecipeView) (steps : List Step) (out : Operand)
    → before ≡ recipes_below three_recipe k
    → after ≡ before ++ record { steps = steps; out = out } ∷ []
    → steps ≡ (three_recipe_by (k % 16) (k / 16)).steps → out ≡ (three_recipe_by (k % 16) (k / 16)).out
    → after ≡ recipes_below three_recipe (k + 1)
unfolding three_recipe recipes_below
one_more k before after steps out b a s o = a ∙ rw (b, s, o, add-one) refl

all_of : (k : ℕ) (made : List RecipeView) → made ≡ recipes_below three_recipe k → 256 ≤ k → k ≤ 256
    → made ≡ recipes_below three_recipe 256
all_of k made e past within = e ∙ ap (recipes_below three_recipe) (let all : k ≡ 256 = omega arith in all)

pub loop-number-init : goal.loop-number-init
unfolding recipes_below
loop-number-init c = c.new-recipes.ensures

pub invariant_of-push : goal.invariant_of-push
unfolding three_recipe
invariant_of-push c = rw (c.in_ok-out.ensures.steps, c.in_ok-out.ensures.out)
    (three_entry c.loop-number.number c.loop-number-test.true).recipe_is

pub loop-number-preserved : goal.loop-number-preserved
loop-number-preserved c = one_more c.loop-number.number _ _ _ _ c.loop-number.invariant c.in_ok-push.ensures.ok
    c.in_ok-out.ensures.steps c.in_ok-out.ensures.out

pub new-requires : goal.new-requires
new-requires c = (
  lit< tt,
  ap length (all_of _ _ c.loop-number.invariant c.loop-number-test.false
      c.loop-number.auto.number-end) ∙ length_below three_recipe 256,
)

pub returns-clause-recipes : goal.returns-clause-recipes
returns-clause-recipes c = c.new.ensures ∙ all_of _ _ c.loop-number.invariant c.loop-number-test.false
    c.loop-number.auto.number-end

pub returns-clause-entries : goal.returns-clause-entries
returns-clause-entries c = subst (IsTable truth_number3) (sym (returns-clause-recipes c)) three_table
