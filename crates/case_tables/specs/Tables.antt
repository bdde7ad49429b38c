-- The recipe of each truth number: a formula for each function of two inputs, and ten cases for three.
use Rattle.std.specs.Prelude.{ℕ, zero, suc, ◌-◌, ◌/◌, ◌%◌, ◌&&◌, true, false, eqb, bit_and}
use Rattle.std.specs.Prelude.{List, [], ◌∷◌, ◌++◌, slice_index_or}
use Rattle.case_tables.specs.declared.recipe.Operand.TheVariants.{A, B, C, Zero, One}
use Rattle.case_tables.specs.RecipeView.{RecipeView}
use Rattle.case_tables.specs.Formulas.{Formula, leaf, shared, and, or, inv, maj, recipe, recipe_with}

-- the first input
abbrev a : Formula
a = leaf A

-- the second input
abbrev b : Formula
b = leaf B

-- the third input
abbrev c : Formula
c = leaf C

-- the formulas of the functions of two inputs, by truth number
unfoldable pub two_formulas : List Formula
two_formulas =
    leaf Zero ∷ inv (or a b) ∷ and a (inv b) ∷ inv b
    ∷ and (inv a) b ∷ inv a ∷ and (or a b) (inv (and a b)) ∷ inv (and a b)
    ∷ and a b ∷ or (and a b) (inv (or a b)) ∷ a ∷ or a (inv b)
    ∷ b ∷ or (inv a) b ∷ or a b ∷ leaf One ∷ []

-- the formula of a function of two inputs, by truth number
unfoldable pub two_formula : ℕ → Formula
unfolding two_formulas
two_formula n = slice_index_or two_formulas n (leaf Zero)

-- the halves of a function of three inputs are the functions of two inputs that it is where c is false, and where c is
-- true, by number. Where they differ and neither is constant, the first case that fits: a majority, an exclusive `or`,
-- one that implies the other, or a choice. One number implies another where each of its bits is a bit of the other
abbrev pub recipe_of_varying : ℕ → ℕ → RecipeView
recipe_of_varying lo hi =
    let l = two_formula lo in
    let h = two_formula hi in
    elim (eqb lo 8 && eqb hi 14) [
      | true ↦ recipe (maj a c b)
      | false ↦
          elim (eqb lo (15 - hi)) [
            | true ↦ recipe_with l (and (or shared c) (inv (and shared c)))
            | false ↦
                elim (eqb (bit_and lo hi) lo) [
                  | true ↦ recipe (or l (and h c))
                  | false ↦
                      elim (eqb (bit_and lo hi) hi) [
                        | true ↦ recipe (or h (and l (inv c)))
                        | false ↦ recipe (or (and l (inv c)) (and h c))
                      ]
                ]
          ]
    ]

-- a function of three inputs by its halves: the first case that fits, those where a half is constant before the others
unfoldable pub three_recipe_by : ℕ → ℕ → RecipeView
three_recipe_by lo hi =
    let l = two_formula lo in
    let h = two_formula hi in
    elim (eqb lo hi) [
      | true ↦ recipe l
      | false ↦
          elim (eqb lo 0) [
            | true ↦ recipe (and h c)
            | false ↦
                elim (eqb hi 0) [
                  | true ↦ recipe (and l (inv c))
                  | false ↦
                      elim (eqb lo 15) [
                        | true ↦ recipe (or h (inv c))
                        | false ↦
                            elim (eqb hi 15) [
                              | true ↦ recipe (or l c)
                              | false ↦ recipe_of_varying lo hi
                            ]
                      ]
                ]
          ]
    ]

-- the recipe of a function of two inputs, by truth number
unfoldable pub two_recipe : ℕ → RecipeView
two_recipe n = recipe (two_formula n)

-- the recipe of a function of three inputs, by truth number: its four lowest bits are the half where c is false, and
-- its four highest that where c is true
unfoldable pub three_recipe : ℕ → RecipeView
three_recipe n = three_recipe_by (n % 16) (n / 16)

-- the recipes of the numbers below n
unfoldable pub recipes_below : (ℕ → RecipeView) → ℕ → List RecipeView
recipes_below f zero = []
recipes_below f (suc n) = recipes_below f n ++ f n ∷ []
