-- Which recipes stand in the tables: at each number that of the plan.
use Rattle.std.specs.Prelude.{◌≡◌, ℕ, zero, suc, ◌<◌, true, List, [], ◌∷◌, ◌++◌, length, Some, slice_get}
use Rattle.std.proofs.Common.{refl, sym, ap, ◌∙◌, subst, arith, inl, inr, length-append}
use Rattle.std.proofs.lemmas.Bool.{cases_eq}
use Rattle.std.proofs.lemmas.Option.{slice_get_within, same_Some}
use Rattle.case_tables.specs.RecipeView.{RecipeView}
use Rattle.case_tables.specs.Recipes.{truth_number2, truth_number3}
use Rattle.case_tables.specs.Tables.{two_recipe, three_recipe, recipes_below}
use Rattle.case_tables.specs.Entries.{IsEntry, IsTable, KeepsToInputs, recipe_passes, not_b, not_c}
use Rattle.case_tables.proofs.EntryLaws.{two_entry, three_entry, keeps_not_b, keeps_not_c}

pub length_below : (f : ℕ → RecipeView) (k : ℕ) → length (recipes_below f k) ≡ k
unfolding recipes_below
length_below f zero = refl
length_below f (suc k) =
    length-append (recipes_below f k) (f k ∷ []) ∙ (let e = length_below f k in omega arith)

front : (xs ys : List RecipeView) (i : ℕ) (r : RecipeView) → slice_get xs i ≡ Some r → slice_get (xs ++ ys) i ≡ Some r
front [] ys i r e = cc
front (x ∷ xs) ys zero r e = e
front (x ∷ xs) ys (suc i) r e = front xs ys i r e

last : (xs : List RecipeView) (r : RecipeView) → slice_get (xs ++ r ∷ []) (length xs) ≡ Some r
last [] r = refl
last (x ∷ xs) r = last xs r

-- the entry of a number
pub at_entry : (f : ℕ → RecipeView) (k n : ℕ) → n < k → slice_get (recipes_below f k) n ≡ Some (f n)
unfolding recipes_below
at_entry f zero n lt = absurd (omega arith)
at_entry f (suc k) n lt =
    elim (cases_eq n k) [
      | inl same ↦
          subst (λ i. slice_get (recipes_below f k ++ f k ∷ []) i ≡ Some (f n)) (length_below f k ∙ sym same)
          (last (recipes_below f k) (f k) ∙ ap (λ i. Some (f i)) (sym same))
      | inr other ↦ front (recipes_below f k) (f k ∷ []) n (f n) (at_entry f k n (omega arith))
    ]

-- an entry that stands in the table
stands : (f : ℕ → RecipeView) (k n : ℕ) (r : RecipeView) → slice_get (recipes_below f k) n ≡ Some r
    → (n < k) × (f n ≡ r)
stands f k n r is =
    let within = slice_get_within (recipes_below f k) n r is in
    let long = length_below f k in
    let lt : n < k = omega arith in
    (lt, same_Some (f n) r (sym (at_entry f k n lt) ∙ is))

is_table : (truth_number : RecipeView → ℕ) (f : ℕ → RecipeView) (k : ℕ)
    → ((n : ℕ) → n < k → IsEntry truth_number n (f n)) → IsTable truth_number (recipes_below f k)
is_table truth_number f k entry n r is =
    let at = stands f k n r is in subst (IsEntry truth_number n) at.1 (entry n at.0)

pub two_table : IsTable truth_number2 (recipes_below two_recipe 16)
two_table = is_table truth_number2 two_recipe 16 two_entry

pub three_table : IsTable truth_number3 (recipes_below three_recipe 256)
three_table = is_table truth_number3 three_recipe 256 three_entry

pub two_keeps : KeepsToInputs (recipes_below two_recipe 16)
two_keeps = record {
  no_c = λ n r is.
      let at = stands two_recipe 16 n r is in
      subst (λ t. recipe_passes not_c t ≡ true) at.1 (keeps_not_c n at.0);
  no_b = λ n r is first.
      let at = stands two_recipe 16 n r is in
      subst (λ t. recipe_passes not_b t ≡ true) at.1 (keeps_not_b n at.0 first);
}
