-- The recipes that were pushed are the table, by computation.
use Rattle.std.proofs.Common.{sym, subst}
use Rattle.case_tables.specs.Recipes.{truth_number2}
use Rattle.case_tables.specs.Formulas.{write, recipe, recipe_with}
use Rattle.case_tables.specs.Tables.{two_formula, two_formulas, two_recipe, recipes_below}
use Rattle.case_tables.specs.Entries.{IsTable, KeepsToInputs}
use Rattle.case_tables.proofs.TableLaws.{two_table, two_keeps}
use Rattle.case_tables.proofs.two.two_inputs.Goals as goal

pub returns-clause-recipes : goal.returns-clause-recipes
unfolding recipes_below two_recipe two_formula two_formulas write recipe recipe_with
returns-clause-recipes c = rw (
  c.new.ensures,
  c.in_ok-push_recipe-16.ensures,
  c.in_ok-push_recipe-15.ensures,
  c.in_ok-push_recipe-14.ensures,
  c.in_ok-push_recipe-13.ensures,
  c.in_ok-push_recipe-12.ensures,
  c.in_ok-push_recipe-11.ensures,
  c.in_ok-push_recipe-10.ensures,
  c.in_ok-push_recipe-9.ensures,
  c.in_ok-push_recipe-8.ensures,
  c.in_ok-push_recipe-7.ensures,
  c.in_ok-push_recipe-6.ensures,
  c.in_ok-push_recipe-5.ensures,
  c.in_ok-push_recipe-4.ensures,
  c.in_ok-push_recipe-3.ensures,
  c.in_ok-push_recipe-2.ensures,
  c.in_ok-push_recipe.ensures,
  c.new-recipes.ensures,
)

pub returns-clause-entries : goal.returns-clause-entries
returns-clause-entries c = subst (IsTable truth_number2) (sym (returns-clause-recipes c)) two_table

pub returns-clause-inputs : goal.returns-clause-inputs
returns-clause-inputs c = subst KeepsToInputs (sym (returns-clause-recipes c)) two_keeps
