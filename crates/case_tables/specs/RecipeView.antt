-- What clauses see of a recipe.
use Rattle.std.specs.Prelude.{List}
use Rattle.case_tables.specs.declared.recipe.Operand.{Operand}
use Rattle.case_tables.specs.declared.recipe.Step.{Step}

-- the steps, and the operand that is the result
pub record RecipeView : Type 0 where
  pub steps : List Step
  pub out : Operand
