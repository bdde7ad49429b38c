-- Walls of a slab, pair by pair.
use Rattle.std.proofs.Common.{◌≡◌, ℕ, zero, suc, ◌+◌, ◌<◌, ◌≤◌, ℤ, pos, ◌+ℤ◌, ◌<ℤ◌, ◌≤ℤ◌, List, [], ◌∷◌, length, drop}
use Rattle.std.proofs.Common.{Option, Some, None, refl, sym, subst, ◌∙◌, arith}
use Rattle.std.specs.Prelude.{slice_get}
use Rattle.std.proofs.lemmas.Int.{ints}
use Rattle.std.proofs.lemmas.Option.{same_Some}
use Rattle.poly_cut.specs.Cuts.{between}
use Rattle.poly_cut.specs.Code.Sweeping.{Above, Rising}
use Rattle.poly_cut.specs.Code.Levels.{IsPair, IsCut}
use Rattle.poly_cut.proofs.Spans.{got_less}

-- right of all walls
beyond : ℤ → List ℤ → ℤ
beyond a [] = a +ℤ pos 1
beyond a (w ∷ ws) = beyond w ws

beyond_first : (a : ℤ) (ws : List ℤ) → Above a ws → a <ℤ beyond a ws
unfolding beyond
beyond_first a [] up = omega (arith, ints)
beyond_first a (w ∷ ws) up = let h : w <ℤ beyond w ws = beyond_first w ws up.1 in omega (arith, ints, up.0, h)

beyond_all : (a : ℤ) (ws : List ℤ) (k : ℕ) (w : ℤ) → Above a ws → slice_get ws k ≡ Some w → w <ℤ beyond a ws
unfolding beyond
beyond_all a [] k w up e = absurd cc
beyond_all a (v ∷ ws) zero w up e = subst (λ (x : ℤ). x <ℤ beyond v ws) (same_Some v w e) (beyond_first v ws up.1)
beyond_all a (v ∷ ws) (suc k) w up e = beyond_all v ws k w up.1 e

past_all : (ws : List ℤ) → Rising ws → (left : ℤ) × ((k : ℕ) (w : ℤ) → slice_get ws k ≡ Some w → w <ℤ left)
past_all [] up = (pos 0, λ k w e. absurd cc)
past_all (v ∷ ws) up = (beyond v ws, λ k w e. turn k w e)
  where
    turn : (k : ℕ) (w : ℤ) → slice_get (v ∷ ws) k ≡ Some w → w <ℤ beyond v ws
    turn zero w e = subst (λ (x : ℤ). x <ℤ beyond v ws) (same_Some v w e) (beyond_first v ws up)
    turn (suc k) w e = beyond_all v ws k w up e

not_less : (ws : List ℤ) (k i : ℕ) (v w : ℤ) → Rising ws → k ≤ i → slice_get ws k ≡ Some v
    → slice_get ws i ≡ Some w → v ≤ℤ w
not_less [] k i v w up le p q = absurd cc
not_less (u ∷ ws) zero zero v w up le p q = (let e : v ≡ w = same_Some v w (sym p ∙ q) in omega (arith, ints, e))
not_less (u ∷ ws) zero (suc i) v w up le p q =
    (let h : v <ℤ w = got_less (u ∷ ws) 0 (suc i) v w up (omega arith) p q in omega (arith, ints, h))
not_less (u ∷ ws) (suc k) zero v w up le p q = absurd (omega arith)
not_less (u ∷ []) (suc k) (suc i) v w up le p q = absurd cc
not_less (u ∷ t ∷ ws) (suc k) (suc i) v w up le p q = not_less (t ∷ ws) k i v w up.1 (omega arith) p q

-- between the pairs before the h-th and those from it on there is a place
pub cut_exists : (ws : List ℤ) (h : ℕ) → Rising ws → (c : ℤ) × IsCut ws h c
cut_exists ws h up = turn (slice_get ws (h + h)) refl
  where
    none : (ws : List ℤ) (n k : ℕ) (w : ℤ) → n ≤ k → slice_get ws n ≡ None → slice_get ws k ≡ Some w → ⊥
    none [] n k w le e g = cc
    none (v ∷ ws) zero k w le e g = cc
    none (v ∷ ws) (suc n) zero w le e g = omega (arith, le)
    none (v ∷ ws) (suc n) (suc k) w le e g = none ws n k w (omega (arith, le)) e g

    turn : (o : Option ℤ) → slice_get ws (h + h) ≡ o → (c : ℤ) × IsCut ws h c
    turn (Some c) e = (
      c,
      record {
        right = λ k w lt g. got_less ws k (h + h) w c up lt g e;
        left = λ k w le g. not_less ws (h + h) k c w up le e g;
      },
    )
    turn None e = (let p = past_all ws up in
        (p.0, record { right = λ k w lt g. p.1 k w g; left = λ k w le g. absurd (none ws (h + h) k w le e g) }))

-- ---- what is left from a pair on

pub pair_drop : (ws : List ℤ) (h : ℕ) (a b : ℤ) → IsPair ws h a b → drop (h + h) ws ≡ a ∷ b ∷ drop (suc h + suc h) ws
pair_drop ws h a b p = let e : suc h + suc h ≡ suc (suc (h + h)) = omega arith in
    rw e (turn ws (h + h) p.first p.second)
  where
    turn : (l : List ℤ) (n : ℕ) → slice_get l n ≡ Some a → slice_get l (suc n) ≡ Some b
        → drop n l ≡ a ∷ b ∷ drop (suc (suc n)) l
    turn [] n p q = absurd cc
    turn (u ∷ []) zero p q = absurd cc
    turn (u ∷ v ∷ l) zero p q = λ k. same_Some u a p k ∷ same_Some v b q k ∷ l
    turn (u ∷ l) (suc n) p q = turn l n p q

pub none_left : (ws : List ℤ) (n : ℕ) (bottom top : ℤ) → length ws ≤ suc n → between bottom top (drop n ws) ≡ []
none_left [] zero bottom top le = refl
none_left [] (suc n) bottom top le = refl
none_left (w ∷ []) zero bottom top le = refl
none_left (w ∷ v ∷ ws) zero bottom top le = absurd (omega arith)
none_left (w ∷ ws) (suc n) bottom top le = none_left ws n bottom top (omega arith)

pub pair_there : (ws : List ℤ) (h : ℕ) → suc (h + h) < length ws → (a : ℤ) × ((b : ℤ) × IsPair ws h a b)
pair_there ws h lt = (let a = got ws (h + h) (omega arith) in let b = got ws (suc (h + h)) lt in
    (a.0, (b.0, record { first = a.1; second = b.1 })))
  where
    got : (l : List ℤ) (n : ℕ) → n < length l → (w : ℤ) × (slice_get l n ≡ Some w)
    got [] n lt = absurd (omega arith)
    got (w ∷ l) zero lt = (w, refl)
    got (w ∷ l) (suc n) lt = got l n (omega arith)
