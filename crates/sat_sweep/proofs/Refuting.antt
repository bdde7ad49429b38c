-- Literals of which neither can be true without the other have one value.
use Rattle.std.specs.Prelude.{◌≡◌, ℕ, Bool, true, false, not, [], ◌∷◌, IfOk}
use Rattle.std.proofs.Common.{Result, Ok, Err, refl, ◌∙◌}
use Rattle.mig.specs.Graphs.{literal_value, turned}
use Rattle.mig.specs.Building.{BuilderView}
use Rattle.mig.proofs.Folded.{turned_value}
use Rattle.sat_solver.specs.Clauses.{AreUnsatisfiable}
use Rattle.sat_sweep.specs.Code.Merging.{AreAlike}

two_alike : (a c : Bool) → (a ≡ true → not c ≡ true → ⊥) → (not a ≡ true → c ≡ true → ⊥) → a ≡ c
two_alike true true p q = refl
two_alike false false p q = refl
two_alike true false p q = absurd (p refl refl)
two_alike false true p q = absurd (q refl refl)

pub one_value : (v : ℕ → Bool) (l m : ℕ) → (literal_value v l ≡ true → literal_value v (turned m) ≡ true → ⊥)
    → (literal_value v (turned l) ≡ true → literal_value v m ≡ true → ⊥) → literal_value v l ≡ literal_value v m
one_value v l m p q =
    two_alike (literal_value v l) (literal_value v m) (λ one other. p one (turned_value v m ∙ other))
    (λ one other. q (turned_value v l ∙ one) other)

-- what a comparison answers
pub if_compared : {A E : Type 0} (r : Result A E) (unsatisfiable : A) (b : BuilderView) (l m : ℕ)
    → IfOk r (λ found. found ≡ unsatisfiable → AreUnsatisfiable b (l ∷ turned m ∷ []))
    → IfOk r (λ found. found ≡ unsatisfiable → AreUnsatisfiable b (turned l ∷ m ∷ []))
    → IfOk r (λ found. found ≡ unsatisfiable → AreAlike b l m)
if_compared (Err e) unsatisfiable b l m one other = tt
if_compared (Ok found) unsatisfiable b l m one other = λ is. record {
  shows = λ word v fit. one_value v l m (λ p q. (one is).never word v fit (p, (q, tt)))
      (λ p q. (other is).never word v fit (p, (q, tt)));
}
