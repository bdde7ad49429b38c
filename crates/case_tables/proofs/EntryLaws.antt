-- Each recipe of the plan is an entry of its number, and keeps to its inputs: computed, once over each table.
use Rattle.std.specs.Prelude.{◌≡◌, ℕ, zero, suc, ◌<◌, ◌&&◌, ◌||◌, Bool, true, false, not, eqb, leb, length, refl}
use Rattle.std.proofs.Common.{ap, ◌∙◌, arith, inl, inr}
use Rattle.std.proofs.lemmas.Bool.{eqb-true, leb-true, and_parts, cases_eq}
use Rattle.case_tables.specs.RecipeView.{RecipeView}
use Rattle.case_tables.specs.Recipes.{truth_number2, truth_number3, is_recipe}
use Rattle.case_tables.specs.Formulas.{write, recipe, recipe_with}
use Rattle.case_tables.specs.Tables.{two_formula, two_formulas, three_recipe_by, two_recipe, three_recipe}
use Rattle.case_tables.specs.Entries.{IsEntry, recipe_passes, not_c, not_b, reads_first}

-- every number below n passes a test
unfoldable all_below : (ℕ → Bool) → ℕ → Bool
all_below p zero = true
all_below p (suc n) = all_below p n && p n

-- the recipe is an entry of the number
abbrev is_entry : (RecipeView → ℕ) → ℕ → RecipeView → Bool
is_entry truth_number n r = is_recipe r && (eqb (truth_number r) n && leb (length r.steps) 10)

-- the recipe of a number names no input that it should not
abbrev keeps_to_inputs : ℕ → Bool
keeps_to_inputs n =
    recipe_passes not_c (two_recipe n) && (not (reads_first n) || recipe_passes not_b (two_recipe n))

all_two : all_below (λ n. is_entry truth_number2 n (two_recipe n)) 16 ≡ true
unfolding all_below write recipe recipe_with two_formula two_formulas two_recipe
all_two = refl

all_three : all_below (λ n. is_entry truth_number3 n (three_recipe n)) 256 ≡ true
unfolding all_below write recipe recipe_with two_formula two_formulas three_recipe_by three_recipe
all_three = refl

all_keep : all_below keeps_to_inputs 16 ≡ true
unfolding all_below write recipe recipe_with two_formula two_formulas two_recipe
all_keep = refl

at_number : (p : ℕ → Bool) (k n : ℕ) → all_below p k ≡ true → n < k → p n ≡ true
unfolding all_below
at_number p zero n h lt = absurd (omega arith)
at_number p (suc k) n h lt =
    let both = and_parts (all_below p k) (p k) h in
    elim (cases_eq n k) [ inl same ↦ ap p same ∙ both.1 | inr other ↦ at_number p k n both.0 (omega arith) ]

entry_is : (truth_number : RecipeView → ℕ) (n : ℕ) (r : RecipeView) → is_entry truth_number n r ≡ true
    → IsEntry truth_number n r
entry_is truth_number n r h =
    let a = and_parts (is_recipe r) (eqb (truth_number r) n && leb (length r.steps) 10) h in
    let b = and_parts (eqb (truth_number r) n) (leb (length r.steps) 10) a.1 in
    record { number_is = eqb-true _ n b.0; recipe_is = a.0; few = leb-true _ 10 b.1 }

pub two_entry : (n : ℕ) → n < 16 → IsEntry truth_number2 n (two_recipe n)
two_entry n lt =
    entry_is truth_number2 n (two_recipe n)
    (at_number (λ k. is_entry truth_number2 k (two_recipe k)) 16 n all_two lt)

pub three_entry : (n : ℕ) → n < 256 → IsEntry truth_number3 n (three_recipe n)
three_entry n lt =
    entry_is truth_number3 n (three_recipe n)
    (at_number (λ k. is_entry truth_number3 k (three_recipe k)) 256 n all_three lt)

implied : (a b : Bool) → not a || b ≡ true → a ≡ true → b ≡ true
implied true b h e = h
implied false b h e = absurd (let z : false ≡ true = e in cc)

pub keeps_not_c : (n : ℕ) → n < 16 → recipe_passes not_c (two_recipe n) ≡ true
keeps_not_c n lt = (and_parts (recipe_passes not_c (two_recipe n)) _ (at_number keeps_to_inputs 16 n all_keep lt)).0

pub keeps_not_b : (n : ℕ) → n < 16 → reads_first n ≡ true → recipe_passes not_b (two_recipe n) ≡ true
keeps_not_b n lt e =
    let both = and_parts (recipe_passes not_c (two_recipe n)) _ (at_number keeps_to_inputs 16 n all_keep lt) in
    implied (reads_first n) (recipe_passes not_b (two_recipe n)) both.1 e
