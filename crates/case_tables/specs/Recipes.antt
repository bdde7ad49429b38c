-- What a recipe computes, what each recipe keeps, and the truth number of a function: the row of its truth table read
-- as a binary number, the first input being the lowest bit of a row's index.
use Rattle.std.specs.Prelude.{ℕ, suc, ◌+◌, ◌*◌, List, [], ◌∷◌, ◌++◌, length, slice_index_or}
use Rattle.std.specs.Prelude.{◌&&◌, ◌||◌, Bool, true, false, not, cond, ltb}
use Rattle.circuit.specs.Function.{majority}
use Rattle.case_tables.specs.declared.recipe.Operand.{Operand}
use Rattle.case_tables.specs.declared.recipe.Operand.TheVariants.{A, B, C, Zero, One, Step as Result}
use Rattle.case_tables.specs.declared.recipe.Step.{Step}
use Rattle.case_tables.specs.declared.recipe.Step.TheVariants.{And, Or, Inv, Maj}
use Rattle.case_tables.specs.RecipeView.{RecipeView}

-- what the inputs and the constants of a recipe stand for: truth values here, gates where a recipe makes gates
pub record Named (X : Type 0) : Type 0 where
  pub a : X
  pub b : X
  pub c : X
  pub zero_is : X
  pub one_is : X

-- what an operand stands for, where the results of the steps before are told
abbrev pub operand_is : {X : Type 0} → Named X → List X → Operand → X
operand_is n done A = n.a
operand_is n done B = n.b
operand_is n done C = n.c
operand_is n done Zero = n.zero_is
operand_is n done One = n.one_is
operand_is n done (Result k) = slice_index_or done k n.zero_is

-- the value of a step, where those of the steps before are told
abbrev pub step_value : Named Bool → List Bool → Step → Bool
step_value n done (And x y) = operand_is n done x && operand_is n done y
step_value n done (Or x y) = operand_is n done x || operand_is n done y
step_value n done (Inv x) = not (operand_is n done x)
step_value n done (Maj x y z) = majority (operand_is n done x) (operand_is n done y) (operand_is n done z)

-- the values of all steps, after those that are done
abbrev pub steps_values : Named Bool → List Bool → List Step → List Bool
steps_values n done [] = done
steps_values n done (s ∷ ss) = steps_values n (done ++ step_value n done s ∷ []) ss

-- truth values of the inputs, beside those of the constants
abbrev pub truths : Bool → Bool → Bool → Named Bool
truths a b c = record { a = a; b = b; c = c; zero_is = false; one_is = true }

-- the value of a recipe
abbrev pub recipe_value : RecipeView → Bool → Bool → Bool → Bool
recipe_value r a b c = operand_is (truths a b c) (steps_values (truths a b c) [] r.steps) r.out

-- the number with these binary digits, the lowest first
abbrev pub number : List Bool → ℕ
number [] = 0
number (b ∷ bs) = cond b 1 0 + 2 * number bs

-- the column of the truth table of a function of two inputs
abbrev pub values2 : (Bool → Bool → Bool) → List Bool
values2 f = f false false ∷ f true false ∷ f false true ∷ f true true ∷ []

-- the column of the truth table of a function of three inputs
abbrev pub values3 : (Bool → Bool → Bool → Bool) → List Bool
values3 f =
    f false false false ∷ f true false false ∷ f false true false ∷ f true true false
    ∷ f false false true ∷ f true false true ∷ f false true true ∷ f true true true ∷ []

-- the truth number of a recipe as a function of two inputs
abbrev pub truth_number2 : RecipeView → ℕ
truth_number2 r = number (values2 (λ a b. recipe_value r a b false))

-- the truth number of a recipe as a function of three inputs
abbrev pub truth_number3 : RecipeView → ℕ
truth_number3 r = number (values3 (recipe_value r))

-- the operand names no step from k on
abbrev pub names_below : ℕ → Operand → Bool
names_below k A = true
names_below k B = true
names_below k C = true
names_below k Zero = true
names_below k One = true
names_below k (Result j) = ltb j k

-- all operands of a step pass a test
abbrev pub operands_pass : (Operand → Bool) → Step → Bool
operands_pass p (And x y) = p x && p y
operands_pass p (Or x y) = p x && p y
operands_pass p (Inv x) = p x
operands_pass p (Maj x y z) = p x && (p y && p z)

-- each step, from step k on, names steps before it alone
abbrev pub steps_below : ℕ → List Step → Bool
steps_below k [] = true
steps_below k (s ∷ ss) = operands_pass (names_below k) s && steps_below (suc k) ss

-- each step names steps before it alone, and a step that `out` names is there
abbrev pub is_recipe : RecipeView → Bool
is_recipe r = steps_below 0 r.steps && names_below (length r.steps) r.out
