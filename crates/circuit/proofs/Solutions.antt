-- Equations over values of lower rank have exactly one solution.
use Rattle.std.specs.Prelude.{◌≡◌, ℕ, zero, suc, ◌<◌, ◌≤◌, Bool}
use Rattle.std.proofs.Common.{sym, ◌∙◌, arith}
use Rattle.circuit.specs.Ranked.{IsRanked, Solves, approximation, solution}

same_below : (rank : ℕ → ℕ) (equation : ℕ → (ℕ → Bool) → Bool) → IsRanked rank equation
    → (v w : ℕ → Bool) → Solves equation v → Solves equation w → (n c : ℕ) → rank c < n → v c ≡ w c
same_below rank equation ranked v w first second zero c below = absurd (omega arith)
same_below rank equation ranked v w first second (suc n) c below =
    first c ∙ ranked c v w (λ d lower. same_below rank equation ranked v w first second n d (omega arith))
    ∙ sym (second c)

-- two solutions agree
pub one_solution : (rank : ℕ → ℕ) (equation : ℕ → (ℕ → Bool) → Bool) → IsRanked rank equation
    → (v w : ℕ → Bool) → Solves equation v → Solves equation w → (c : ℕ) → v c ≡ w c
one_solution rank equation ranked v w first second c =
    same_below rank equation ranked v w first second (suc (rank c)) c (omega arith)

settles : (rank : ℕ → ℕ) (equation : ℕ → (ℕ → Bool) → Bool) → IsRanked rank equation
    → (n m c : ℕ) → rank c < n → n ≤ m → approximation equation n c ≡ approximation equation m c
unfolding approximation
settles rank equation ranked zero m c below more = absurd (omega arith)
settles rank equation ranked (suc n) zero c below more = absurd (omega arith)
settles rank equation ranked (suc n) (suc m) c below more =
    ranked c (approximation equation n) (approximation equation m)
    (λ d lower. settles rank equation ranked n m d (omega arith) (omega arith))

-- the solution by approximations is one
pub some_solution : (rank : ℕ → ℕ) (equation : ℕ → (ℕ → Bool) → Bool) → IsRanked rank equation
    → Solves equation (solution rank equation)
unfolding approximation solution
some_solution rank equation ranked c =
    ranked c (approximation equation (rank c)) (solution rank equation)
    (λ d lower. sym (settles rank equation ranked (suc (rank d)) (rank c) d (omega arith) (omega arith)))
