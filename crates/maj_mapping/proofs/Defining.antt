-- The gates of a definition, by the number of its inputs.
use Rattle.std.proofs.Common.{◌≡◌, ◌≢◌, ℕ, ◌+◌, Bool, cond, List, [], ◌∷◌, length, get_or, refl, arith}
use Rattle.circuit.specs.declared.gate.Gate.{Gate}
use Rattle.blif_read.specs.declared.netlist.Def.{Def}
use Rattle.case_tables.specs.RecipeView.{RecipeView}
use Rattle.case_tables.specs.Recipes.{number, values2, values3}
use Rattle.case_tables.specs.Tables.{two_recipe, three_recipe}
use Rattle.maj_mapping.specs.Operations.{keep, run}
use Rattle.maj_mapping.specs.Values.{cover}
use Rattle.maj_mapping.specs.Covers.{names, by_cubes, define}

pub define_none : (n : ℕ) (gs : List Gate) (xs : List ℕ) (d : Def) (value : Bool) (at : ℕ) → length xs ≡ 0
    → value ≡ cover d [] → at ≡ cond value (n + 1) n → keep gs at ≡ define n gs xs d
unfolding define
define_none n gs [] d value at size v a = rw (a, v) refl
define_none n gs (x ∷ xs) d value at size v a = absurd (omega arith)

pub define_one : (n : ℕ) (gs : List Gate) (xs : List ℕ) (d : Def) (a z k : ℕ) (r : RecipeView) → length xs ≡ 1
    → a ≡ get_or xs 0 0 → z ≡ n
    → k ≡ number (values2 (λ p q. cover d (p ∷ []))) → r ≡ two_recipe k → run n gs (names n a z z) r ≡ define n gs xs d
unfolding define
define_one n gs [] d a z k r size e f g h = absurd (omega arith)
define_one n gs (x ∷ []) d a z k r size e f g h = rw (h, g, e, f) refl
define_one n gs (x ∷ y ∷ xs) d a z k r size e f g h = absurd (omega arith)

pub define_two : (n : ℕ) (gs : List Gate) (xs : List ℕ) (d : Def) (a b z k : ℕ) (r : RecipeView) → length xs ≡ 2
    → a ≡ get_or xs 0 0 → b ≡ get_or xs 1 0 → z ≡ n
    → k ≡ number (values2 (λ p q. cover d (p ∷ q ∷ []))) → r ≡ two_recipe k
    → run n gs (names n a b z) r ≡ define n gs xs d
unfolding define
define_two n gs [] d a b z k r size e i f g h = absurd (omega arith)
define_two n gs (x ∷ []) d a b z k r size e i f g h = absurd (omega arith)
define_two n gs (x ∷ y ∷ []) d a b z k r size e i f g h = rw (h, g, e, i, f) refl
define_two n gs (x ∷ y ∷ w ∷ xs) d a b z k r size e i f g h = absurd (omega arith)

pub define_three : (n : ℕ) (gs : List Gate) (xs : List ℕ) (d : Def) (a b c k : ℕ) (r : RecipeView) → length xs ≡ 3
    → a ≡ get_or xs 0 0 → b ≡ get_or xs 1 0 → c ≡ get_or xs 2 0
    → k ≡ number (values3 (λ p q s. cover d (p ∷ q ∷ s ∷ []))) → r ≡ three_recipe k
    → run n gs (names n a b c) r ≡ define n gs xs d
unfolding define
define_three n gs [] d a b c k r size e i f g h = absurd (omega arith)
define_three n gs (x ∷ []) d a b c k r size e i f g h = absurd (omega arith)
define_three n gs (x ∷ y ∷ []) d a b c k r size e i f g h = absurd (omega arith)
define_three n gs (x ∷ y ∷ z ∷ []) d a b c k r size e i f g h = rw (h, g, e, i, f) refl
define_three n gs (x ∷ y ∷ z ∷ w ∷ xs) d a b c k r size e i f g h = absurd (omega arith)

pub define_more : (n : ℕ) (gs : List Gate) (xs : List ℕ) (d : Def) → length xs ≢ 0 → length xs ≢ 1 → length xs ≢ 2
    → length xs ≢ 3 → by_cubes n gs xs d ≡ define n gs xs d
unfolding define
define_more n gs [] d a b c e = absurd (a refl)
define_more n gs (x ∷ []) d a b c e = absurd (b refl)
define_more n gs (x ∷ y ∷ []) d a b c e = absurd (c refl)
define_more n gs (x ∷ y ∷ z ∷ []) d a b c e = absurd (e refl)
define_more n gs (x ∷ y ∷ z ∷ w ∷ xs) d a b c e = refl
