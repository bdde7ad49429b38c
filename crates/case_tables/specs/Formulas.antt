-- Formulas over the inputs a, b and c, and the recipe of a formula: it makes operands, left to right, before the
-- operation.
use Rattle.std.specs.Prelude.{List, [], ◌∷◌, ◌++◌, length}
use Rattle.case_tables.specs.declared.recipe.Operand.{Operand}
use Rattle.case_tables.specs.declared.recipe.Operand.TheVariants.{Zero, Step as Result}
use Rattle.case_tables.specs.declared.recipe.Step.{Step}
use Rattle.case_tables.specs.declared.recipe.Step.TheVariants.{And, Or, Inv, Maj}
use Rattle.case_tables.specs.RecipeView.{RecipeView}

-- a formula, in which `shared` stands for a formula that was made before
pub data Formula : Type 0 where
  leaf : (o : Operand) → Formula
  shared : Formula
  and : (x y : Formula) → Formula
  or : (x y : Formula) → Formula
  inv : (x : Formula) → Formula
  maj : (x y z : Formula) → Formula

-- the recipe with one more step, whose result is that step's
abbrev pub step : RecipeView → Step → RecipeView
step r s = record { steps = r.steps ++ s ∷ []; out = Result (length r.steps) }

-- the steps of a formula after those that are there, where `shared` is this operand
unfoldable pub write : Operand → List Step → Formula → RecipeView
write made steps (leaf o) = record { steps = steps; out = o }
write made steps shared = record { steps = steps; out = made }
write made steps (and x y) =
    let p = write made steps x in let q = write made p.steps y in step q (And p.out q.out)
write made steps (or x y) =
    let p = write made steps x in let q = write made p.steps y in step q (Or p.out q.out)
write made steps (inv x) = let p = write made steps x in step p (Inv p.out)
write made steps (maj x y z) =
    let p = write made steps x in let q = write made p.steps y in let r = write made q.steps z in
    step r (Maj p.out q.out r.out)

-- the recipe of a formula without `shared`
unfoldable pub recipe : Formula → RecipeView
unfolding write
recipe f = write Zero [] f

-- the recipe of a formula in which `shared` stands for another one, which is made first
unfoldable pub recipe_with : Formula → Formula → RecipeView
unfolding write
recipe_with x f = let made = write Zero [] x in write made.out made.steps f
