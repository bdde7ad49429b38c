-- The recipe of a function's truth number computes the function, since truth tables of one length that have one number
-- are one.
use Rattle.std.proofs.Common.{◌≡◌, ◌<◌, ◌≤◌, Bool, true, false, cond, List, [], ◌∷◌, length, refl, ap, arith}
use Rattle.case_tables.specs.Recipes.{number, values2, values3, recipe_value}
use Rattle.case_tables.specs.Tables.{two_recipe, three_recipe}
use Rattle.case_tables.proofs.EntryLaws.{two_entry, three_entry}

bit_below : (b : Bool) → cond b 1 0 ≤ 1
bit_below true = omega arith
bit_below false = omega arith

number_injective : (xs ys : List Bool) → length xs ≡ length ys → number xs ≡ number ys → xs ≡ ys
number_injective [] [] e h = refl
number_injective [] (y ∷ ys) e h = absurd (omega arith)
number_injective (x ∷ xs) [] e h = absurd (omega arith)
number_injective (true ∷ xs) (true ∷ ys) e h =
    ap (λ (t : List Bool). true ∷ t) (number_injective xs ys (omega arith) (omega arith))
number_injective (true ∷ xs) (false ∷ ys) e h = absurd (omega arith)
number_injective (false ∷ xs) (true ∷ ys) e h = absurd (omega arith)
number_injective (false ∷ xs) (false ∷ ys) e h =
    ap (λ (t : List Bool). false ∷ t) (number_injective xs ys (omega arith) (omega arith))

pub below_16 : (a b c d : Bool) → number (a ∷ b ∷ c ∷ d ∷ []) < 16
below_16 a b c d = omega (arith, bit_below a, bit_below b, bit_below c, bit_below d)

pub below_256 : (a b c d e f g h : Bool) → number (a ∷ b ∷ c ∷ d ∷ e ∷ f ∷ g ∷ h ∷ []) < 256
below_256 a b c d e f g h =
    omega (
      arith,
      bit_below a,
      bit_below b,
      bit_below c,
      bit_below d,
      bit_below e,
      bit_below f,
      bit_below g,
      bit_below h,
    )

pub same_two : (f g : Bool → Bool → Bool) → values2 f ≡ values2 g → (a b : Bool) → f a b ≡ g a b
same_two f g e false false = cc
same_two f g e false true = cc
same_two f g e true false = cc
same_two f g e true true = cc

same_three : (f g : Bool → Bool → Bool → Bool) → values3 f ≡ values3 g → (a b c : Bool) → f a b c ≡ g a b c
same_three f g e false false false = cc
same_three f g e false false true = cc
same_three f g e false true false = cc
same_three f g e false true true = cc
same_three f g e true false false = cc
same_three f g e true false true = cc
same_three f g e true true false = cc
same_three f g e true true true = cc

pub two_value : (f : Bool → Bool → Bool) (a b : Bool)
    → recipe_value (two_recipe (number (values2 f))) a b false ≡ f a b
two_value f =
    let entry = two_entry (number (values2 f)) (below_16 _ _ _ _) in
    same_two (λ a b. recipe_value (two_recipe (number (values2 f))) a b false) f
    (number_injective _ _ refl entry.number_is)

pub three_value : (f : Bool → Bool → Bool → Bool) (a b c : Bool)
    → recipe_value (three_recipe (number (values3 f))) a b c ≡ f a b c
three_value f =
    let entry = three_entry (number (values3 f)) (below_256 _ _ _ _ _ _ _ _) in
    same_three _ f (number_injective _ _ refl entry.number_is)
