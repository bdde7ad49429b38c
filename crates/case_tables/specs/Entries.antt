-- What the entries of the tables keep: each computes its number in few steps, and those of functions of two inputs name
-- no input that they don't read.
use Rattle.std.specs.Prelude.{◌≡◌, ℕ, ◌≤◌, ◌&&◌, ◌||◌, Bool, true, false, eqb, List, length, Some, slice_get}
use Rattle.std.specs.List.{list_all}
use Rattle.case_tables.specs.declared.recipe.Operand.{Operand}
use Rattle.case_tables.specs.declared.recipe.Operand.TheVariants.{A, B, C, Zero, One, Step as Result}
use Rattle.case_tables.specs.RecipeView.{RecipeView}
use Rattle.case_tables.specs.Recipes.{operands_pass, is_recipe}

-- an entry computes its number, and has at most ten steps
pub record IsEntry (truth_number : RecipeView → ℕ) (n : ℕ) (r : RecipeView) : Type 0 where
  pub number_is : truth_number r ≡ n
  pub recipe_is : is_recipe r ≡ true
  pub few : length r.steps ≤ 10

-- each recipe of the table is an entry of its number
abbrev pub IsTable : (RecipeView → ℕ) → List RecipeView → Type 0
IsTable truth_number table = (n : ℕ) (r : RecipeView) → slice_get table n ≡ Some r → IsEntry truth_number n r

-- all operands of a recipe pass a test
abbrev pub recipe_passes : (Operand → Bool) → RecipeView → Bool
recipe_passes p r = list_all (operands_pass p) r.steps && p r.out

-- the operand is not the third input
abbrev pub not_c : Operand → Bool
not_c C = false
not_c A = true
not_c B = true
not_c Zero = true
not_c One = true
not_c (Result k) = true

-- the operand is not the second input
abbrev pub not_b : Operand → Bool
not_b B = false
not_b A = true
not_b C = true
not_b Zero = true
not_b One = true
not_b (Result k) = true

-- the truth numbers of the functions of two inputs that read the first alone
abbrev pub reads_first : ℕ → Bool
reads_first n = eqb n 0 || (eqb n 5 || (eqb n 10 || eqb n 15))

-- no recipe names C, and those of the functions that read the first input alone don't name B
pub record KeepsToInputs (table : List RecipeView) : Type 0 where
  pub no_c : (n : ℕ) (r : RecipeView) → slice_get table n ≡ Some r → recipe_passes not_c r ≡ true
  pub no_b : (n : ℕ) (r : RecipeView) → slice_get table n ≡ Some r
      → reads_first n ≡ true → recipe_passes not_b r ≡ true
