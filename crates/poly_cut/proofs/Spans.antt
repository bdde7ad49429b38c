-- Pairs of walls, by what parities tell.
use Rattle.std.proofs.Common.{◌≡◌, ℕ, zero, suc, ◌+◌, ◌<◌, ℤ, pos, ◌-ℤ◌, ◌<ℤ◌, ◌≤ℤ◌, List, [], ◌∷◌, Bool, true, false}
use Rattle.std.proofs.Common.{Some, refl, sym, ap, subst, ◌∙◌, arith}
use Rattle.std.specs.Prelude.{slice_get}
use Rattle.std.proofs.lemmas.Int.{ints, by_lt_z}
use Rattle.std.proofs.lemmas.Option.{same_Some, slice_get_within}
use Rattle.poly_cut.specs.Squares.{differ}
use Rattle.poly_cut.specs.Code.Sweeping.{Above, Rising}
use Rattle.poly_cut.specs.Code.Levels.{IsPair}
use Rattle.poly_cut.proofs.Parity.{le_is, rising_of, odd_upto, none_upto}

-- inside from a to b, and outside left and right of them
pub record IsSpan (ws : List ℤ) (a b : ℤ) : Type 0 where
  pub wide : a <ℤ b
  pub before : odd_upto ws (a -ℤ pos 1) ≡ false
  pub inside : (i : ℤ) → a ≤ℤ i → i <ℤ b → odd_upto ws i ≡ true
  pub after : odd_upto ws b ≡ false

-- ---- places of pairs

pub pair_rest : (v w : ℤ) (ws : List ℤ) (i : ℕ) (a b : ℤ) → IsPair (v ∷ w ∷ ws) (suc i) a b → IsPair ws i a b
pair_rest v w ws i a b p =
    let e : suc i + suc i ≡ suc (suc (i + i)) = omega arith in
    record {
      first = subst (λ (k : ℕ). slice_get (v ∷ w ∷ ws) k ≡ Some a) e p.first;
      second = subst (λ (k : ℕ). slice_get (v ∷ w ∷ ws) (suc k) ≡ Some b) e p.second;
    }

pub pair_more : (v w : ℤ) (ws : List ℤ) (i : ℕ) (a b : ℤ) → IsPair ws i a b → IsPair (v ∷ w ∷ ws) (suc i) a b
pair_more v w ws i a b p =
    let e : suc (suc (i + i)) ≡ suc i + suc i = omega arith in
    record {
      first = subst (λ (k : ℕ). slice_get (v ∷ w ∷ ws) k ≡ Some a) e p.first;
      second = subst (λ (k : ℕ). slice_get (v ∷ w ∷ ws) (suc k) ≡ Some b) e p.second;
    }

pub above_got : (a : ℤ) (ws : List ℤ) (k : ℕ) (w : ℤ) → Above a ws → slice_get ws k ≡ Some w → a <ℤ w
above_got a [] k w up e = absurd cc
above_got a (v ∷ ws) zero w up e = let s : v ≡ w = same_Some v w e in subst (λ (x : ℤ). a <ℤ x) s up.0
above_got a (v ∷ ws) (suc k) w up e = let h : v <ℤ w = above_got v ws k w up.1 e in omega (arith, ints, up.0, h)

-- ---- from a pair to its span

-- two walls left of i count nothing
two_left : (v w : ℤ) (ws : List ℤ) (i : ℤ) → v <ℤ w → w ≤ℤ i → odd_upto (v ∷ w ∷ ws) i ≡ odd_upto ws i
two_left v w ws i lt le = (λ n. differ (le_is v i (omega (arith, ints, lt, le)) n)
    (differ (le_is w i le n) (odd_upto ws i))) ∙ twice (odd_upto ws i)
  where
    twice : (b : Bool) → differ true (differ true b) ≡ b
    twice true = refl
    twice false = refl

first_inside : (v w : ℤ) (ws : List ℤ) (i : ℤ) → Above w ws → v ≤ℤ i → i <ℤ w → odd_upto (v ∷ w ∷ ws) i ≡ true
first_inside v w ws i up le lt =
    (λ n. differ (le_is v i le n) (none_upto i i (w ∷ ws) (lt, up) (omega (arith, ints)) n))

first_after : (v w : ℤ) (ws : List ℤ) → v <ℤ w → Above w ws → odd_upto (v ∷ w ∷ ws) w ≡ false
first_after v w ws lt up = two_left v w ws w lt (omega (arith, ints)) ∙ none_upto w w ws up (omega (arith, ints))

pub pair_span : (ws : List ℤ) (i : ℕ) (a b : ℤ) → Rising ws → IsPair ws i a b → IsSpan ws a b
pair_span [] i a b up p = absurd (let e = p.first in cc)
pair_span (v ∷ []) zero a b up p = absurd (let e = p.second in cc)
pair_span (v ∷ []) (suc i) a b up p = absurd
    (let e : suc i + suc i < 1 = slice_get_within (v ∷ []) (suc i + suc i) a p.first in omega (arith, e))
pair_span (v ∷ w ∷ ws) zero a b up p = let e : v ≡ a = same_Some v a p.first in
    let f : w ≡ b = same_Some w b p.second in
    subst (λ (x : ℤ). IsSpan (v ∷ w ∷ ws) x b) e (subst (λ (x : ℤ). IsSpan (v ∷ w ∷ ws) v x) f (record {
      wide = up.0;
      before = none_upto (v -ℤ pos 1) (v -ℤ pos 1) (v ∷ w ∷ ws) (omega (arith, ints), up) (omega (arith, ints));
      inside = λ i le lt. first_inside v w ws i up.1 le lt;
      after = first_after v w ws up.0 up.1;
    }))
pair_span (v ∷ w ∷ ws) (suc i) a b up p =
    let q = pair_rest v w ws i a b p in
    let s = pair_span ws i a b (rising_of w ws up.1) q in
    let h : w <ℤ a = above_got w ws (i + i) a up.1 q.first in
    let lt : a <ℤ b = s.wide in
    record {
      wide = lt;
      before = two_left v w ws (a -ℤ pos 1) up.0 (omega (arith, ints, h)) ∙ s.before;
      inside = λ i le less. two_left v w ws i up.0 (omega (arith, ints, h, le)) ∙ s.inside i le less;
      after = two_left v w ws b up.0 (omega (arith, ints, h, lt)) ∙ s.after;
    }

-- ---- from a span to its pair

no_truth : (b : Bool) → b ≡ true → b ≡ false → ⊥
no_truth true e f = cc
no_truth false e f = cc

pub span_pair : (ws : List ℤ) (a b : ℤ) → Rising ws → IsSpan ws a b → (i : ℕ) × IsPair ws i a b
span_pair [] a b up s = absurd (no_truth false (s.inside a (omega (arith, ints)) s.wide) refl)
span_pair (v ∷ []) a b up s = absurd (by_lt_z a v
    (λ lt. no_truth (odd_upto (v ∷ []) a) (s.inside a (omega (arith, ints)) s.wide)
    (none_upto a a (v ∷ []) (lt, tt) (omega (arith, ints))))
    (λ le. no_truth (odd_upto (v ∷ []) b)
    (ap (λ (k : Bool). differ k false) (le_is v b (let w = s.wide in omega (arith, ints, w, le)))) s.after))
span_pair (v ∷ w ∷ ws) a b up s = by_lt_z a v
    (λ lt. absurd (no_truth (odd_upto (v ∷ w ∷ ws) a) (s.inside a (omega (arith, ints)) s.wide)
    (none_upto a a (v ∷ w ∷ ws) (lt, up) (omega (arith, ints)))))
    (λ le. by_lt_z v a (λ lt. later lt (λ r q. span_pair ws a b r q)) (λ ge. first (equal a v ge le)))
  where
    equal : (x y : ℤ) → x ≤ℤ y → y ≤ℤ x → x ≡ y
    equal x y h k = grind (arith, ints)

    first : a ≡ v → (i : ℕ) × IsPair (v ∷ w ∷ ws) i a b
    first e = (0, record { first = ap (λ (x : ℤ). Some x) (sym e); second = ap (λ (x : ℤ). Some x) (sym ends) })
      where
        low : v ≤ℤ a
        low = omega (arith, ints, e)

        ends : b ≡ w
        ends = by_lt_z b w
            (λ lt. absurd
            (no_truth (odd_upto (v ∷ w ∷ ws) b)
            (first_inside v w ws b up.1 (let k = s.wide in omega (arith, ints, k, low)) lt) s.after))
            (λ le. by_lt_z w b
            (λ lt. absurd
            (no_truth (odd_upto (v ∷ w ∷ ws) w) (s.inside w (let k = up.0 in omega (arith, ints, k, e)) lt)
            (first_after v w ws up.0 up.1)))
            (λ ge. equal b w ge le))

    later : v <ℤ a → (Rising ws → IsSpan ws a b → (i : ℕ) × IsPair ws i a b) → (i : ℕ) × IsPair (v ∷ w ∷ ws) i a b
    later lt ih = by_lt_z w a
        (λ right. (let p = ih (rising_of w ws up.1) (rest right) in (suc p.0, pair_more v w ws p.0 a b p.1)))
        (λ le. absurd (no_truth (odd_upto (v ∷ w ∷ ws) (a -ℤ pos 1))
        (first_inside v w ws (a -ℤ pos 1) up.1 (omega (arith, ints, lt)) (omega (arith, ints, le))) s.before))
      where
        rest : w <ℤ a → IsSpan ws a b
        rest right = record {
          wide = s.wide;
          before = sym (two_left v w ws (a -ℤ pos 1) up.0 (omega (arith, ints, right))) ∙ s.before;
          inside = λ i le less. sym (two_left v w ws i up.0 (omega (arith, ints, right, le))) ∙ s.inside i le less;
          after = (let k = s.wide in sym (two_left v w ws b up.0 (omega (arith, ints, right, k))) ∙ s.after);
        }

-- ---- two pairs that share their first wall are one

pub got_less : (ws : List ℤ) (k i : ℕ) (v w : ℤ) → Rising ws → k < i → slice_get ws k ≡ Some v
    → slice_get ws i ≡ Some w → v <ℤ w
got_less [] k i v w up lt p q = absurd cc
got_less (u ∷ ws) zero zero v w up lt p q = absurd (omega arith)
got_less (u ∷ ws) zero (suc i) v w up lt p q = subst (λ (x : ℤ). x <ℤ w) (same_Some u v p) (above_got u ws i w up q)
got_less (u ∷ ws) (suc k) zero v w up lt p q = absurd (omega arith)
got_less (u ∷ ws) (suc k) (suc i) v w up lt p q = got_less ws k i v w (rising_of u ws up) (omega arith) p q
