-- Windows between the ends at a level, and what toggling all ends does to the pairs of walls that are off them.
use Rattle.std.proofs.Common.{◌≡◌, ◌⊎◌, ℕ, zero, suc, ◌+◌, ◌<◌, ◌≤◌, ℤ, pos, ◌+ℤ◌, ◌-ℤ◌, ◌<ℤ◌, ◌≤ℤ◌, List, [], ◌∷◌}
use Rattle.std.proofs.Common.{Bool, true, false, length, drop, Some, refl, sym, ap, subst, ◌∙◌, arith, inl, inr}
use Rattle.std.specs.Prelude.{slice_get, int_le}
use Rattle.std.proofs.lemmas.Int.{ints}
use Rattle.std.proofs.lemmas.Option.{same_Some}
use Rattle.poly_cut.specs.declared.ends.End.{End}
use Rattle.poly_cut.specs.Squares.{differ}
use Rattle.poly_cut.specs.Cuts.{toggled}
use Rattle.poly_cut.specs.Code.Sweeping.{Rising}
use Rattle.poly_cut.specs.Code.Levels.{IsPair, FromLeft, Off, Clear, Past, Reached, all_toggled}
use Rattle.poly_cut.proofs.Parity.{le_is, le_not, odd_upto, toggled_odd, toggled_rising}
use Rattle.poly_cut.proofs.Spans.{IsSpan, pair_span, span_pair}

-- ---- toggling

-- an odd number of the ends stand at most at i
abbrev pub odd_ends : List End → ℤ → Bool
odd_ends [] i = false
odd_ends (e ∷ es) i = differ (int_le e.x i) (odd_ends es i)

-- what is left to be toggled in these walls makes them those with all toggled
pub record Toggled (ws : List ℤ) (rest : List End) (old : List ℤ) (ends : List End) : Type 0 where
  pub rising : Rising ws
  pub same : all_toggled rest ws ≡ all_toggled ends old

pub toggled_one : (ws : List ℤ) (rest : List End) (old : List ℤ) (ends : List End) (e : End) (new : List ℤ)
    → Toggled ws (e ∷ rest) old ends → new ≡ toggled e.x ws → Toggled new rest old ends
toggled_one ws rest old ends e new t is = rw is (record { rising = toggled_rising e.x ws t.rising; same = t.same })

pub all_rising : (ends : List End) (ws : List ℤ) → Rising ws → Rising (all_toggled ends ws)
all_rising [] ws up = up
all_rising (e ∷ es) ws up = all_rising es (toggled e.x ws) (toggled_rising e.x ws up)

pub all_odd : (ends : List End) (ws : List ℤ) (i : ℤ) → odd_upto (all_toggled ends ws) i ≡ differ (odd_ends ends i)
    (odd_upto ws i)
all_odd [] ws i = refl
all_odd (e ∷ es) ws i = all_odd es (toggled e.x ws) i ∙ ap (λ (b : Bool). differ (odd_ends es i) b)
    (toggled_odd e.x ws i) ∙ swap (odd_ends es i) (int_le e.x i) (odd_upto ws i)
  where
    swap : (a b c : Bool) → differ a (differ b c) ≡ differ (differ b a) c
    swap true true true = refl
    swap true true false = refl
    swap true false c = refl
    swap false true c = refl
    swap false false c = refl

-- ---- clear of the windows the ends count nothing

left_rest : (e : End) (es : List End) → FromLeft (e ∷ es) → FromLeft es
left_rest e es up i j f g le p q = up (suc i) (suc j) f g (omega arith) p q

clear_even : (ends : List End) (a b i : ℤ) → FromLeft ends → Clear ends a b → a ≤ℤ (i +ℤ pos 1) → i ≤ℤ b
    → odd_ends ends i ≡ false
clear_even [] a b i up c lo hi = refl
clear_even (t ∷ []) a b i up c lo hi = ap (λ (k : Bool). differ k false) (le_not t.x i (omega (arith, ints, c, hi)))
clear_even (t ∷ u ∷ ts) a b i up c lo hi = turn c.0
    (clear_even ts a b i (left_rest u ts (left_rest t (u ∷ ts) up)) c.1 lo hi)
  where
    tu : t.x ≤ℤ u.x
    tu = up 0 1 t u (omega arith) refl refl

    turn : (b <ℤ t.x) ⊎ (u.x <ℤ a) → odd_ends ts i ≡ false
        → differ (int_le t.x i) (differ (int_le u.x i) (odd_ends ts i)) ≡ false
    turn (inl h) ih = (λ n. differ (le_not t.x i (omega (arith, ints, h, hi)) n)
        (differ (le_not u.x i (omega (arith, ints, h, hi, tu)) n) (ih n)))
    turn (inr h) ih = (λ n. differ (le_is t.x i (omega (arith, ints, h, lo, tu)) n)
        (differ (le_is u.x i (omega (arith, ints, h, lo)) n) (ih n)))

span_on : (ends : List End) (ws vs : List ℤ) (a b : ℤ) → FromLeft ends → Clear ends a b
    → ((i : ℤ) → odd_ends ends i ≡ false → odd_upto vs i ≡ odd_upto ws i) → IsSpan ws a b → IsSpan vs a b
span_on ends ws vs a b up c same s = record {
  wide = s.wide;
  before = same (a -ℤ pos 1) (clear_even ends a b (a -ℤ pos 1) up c (omega (arith, ints))
      (let k = s.wide in omega (arith, ints, k))) ∙ s.before;
  inside = λ i le lt. same i (clear_even ends a b i up c (omega (arith, ints, le)) (omega (arith, ints, lt)))
      ∙ s.inside i le lt;
  after = same b (clear_even ends a b b up c (let k = s.wide in omega (arith, ints, k)) (omega (arith, ints)))
      ∙ s.after;
}

pub pair_stays : (ends : List End) (ws : List ℤ) (i : ℕ) (a b : ℤ) → Rising ws → FromLeft ends → Clear ends a b
    → IsPair ws i a b → (k : ℕ) × IsPair (all_toggled ends ws) k a b
pair_stays ends ws i a b up left c p =
    span_pair (all_toggled ends ws) a b (all_rising ends ws up)
    (span_on ends ws (all_toggled ends ws) a b left c
    (λ k e. all_odd ends ws k ∙ ap (λ (x : Bool). differ x (odd_upto ws k)) e) (pair_span ws i a b up p))

pub pair_was : (ends : List End) (ws : List ℤ) (i : ℕ) (a b : ℤ) → Rising ws → FromLeft ends → Clear ends a b
    → IsPair (all_toggled ends ws) i a b → (k : ℕ) × IsPair ws k a b
pair_was ends ws i a b up left c p =
    span_pair ws a b up
    (span_on ends (all_toggled ends ws) ws a b left c
    (λ k e. sym (all_odd ends ws k ∙ ap (λ (x : Bool). differ x (odd_upto ws k)) e))
    (pair_span (all_toggled ends ws) i a b (all_rising ends ws up) p))

-- ---- the windows from the k-th end on

pub clear_left : (ends : List End) (e : End) (a b : ℤ) → FromLeft ends → slice_get ends 0 ≡ Some e → b <ℤ e.x
    → Clear ends a b
clear_left [] e a b up at lt = tt
clear_left (t ∷ []) e a b up at lt =
    (let h : e.x ≤ℤ t.x = up 0 0 e t (omega arith) at refl in omega (arith, ints, lt, h))
clear_left (t ∷ u ∷ []) e a b up at lt =
    (inl (let h : e.x ≤ℤ t.x = up 0 0 e t (omega arith) at refl in omega (arith, ints, lt, h)), tt)
clear_left (t ∷ u ∷ v ∷ ts) e a b up at lt = (
  inl (let h : e.x ≤ℤ t.x = up 0 0 e t (omega arith) at refl in omega (arith, ints, lt, h)),
  clear_left (v ∷ ts) v a b (left_rest u (v ∷ ts) (left_rest t (u ∷ v ∷ ts) up)) refl
      (let h : e.x ≤ℤ v.x = up 0 2 e v (omega arith) at refl in omega (arith, ints, lt, h)),
)

pub off_left : (ends : List End) (e : End) (a b : ℤ) → slice_get ends 0 ≡ Some e → b <ℤ e.x → Off ends a b
off_left [] e a b at lt = tt
off_left (t ∷ []) e a b at lt = subst (λ (k : End). b <ℤ k.x) (sym (same_Some t e at)) lt
off_left (t ∷ u ∷ ts) e a b at lt = inl (subst (λ (k : End). b <ℤ k.x) (sym (same_Some t e at)) lt)

pub clear_first : (ends : List End) (a b : ℤ) → Clear ends a b → Off ends a b
clear_first [] a b c = tt
clear_first (t ∷ []) a b c = c
clear_first (t ∷ u ∷ ts) a b c = c.0

pub clear_rest : (ends : List End) (n : ℕ) (a b : ℤ) → Clear (drop n ends) a b → Clear (drop (n + 2) ends) a b
clear_rest ends n a b c = let e : n + 2 ≡ suc (suc n) = omega arith in rw e (turn ends n c)
  where
    turn : (l : List End) (n : ℕ) → Clear (drop n l) a b → Clear (drop (suc (suc n)) l) a b
    turn [] zero c = tt
    turn [] (suc n) c = tt
    turn (t ∷ []) zero c = tt
    turn (t ∷ u ∷ ts) zero c = c.1
    turn (t ∷ l) (suc n) c = turn l n c

pub clear_all : (ends : List End) (n : ℕ) (a b : ℤ) → Off (drop n ends) a b → Clear (drop (n + 2) ends) a b
    → Clear (drop n ends) a b
clear_all ends n a b o c = let e : n + 2 ≡ suc (suc n) = omega arith in turn ends n o (rw e at c)
  where
    turn : (l : List End) (n : ℕ) → Off (drop n l) a b → Clear (drop (suc (suc n)) l) a b → Clear (drop n l) a b
    turn [] zero o c = tt
    turn [] (suc n) o c = tt
    turn (t ∷ []) zero o c = o
    turn (t ∷ u ∷ ts) zero o c = (o, c)
    turn (t ∷ l) (suc n) o c = turn l n o c

pub clear_end : (ends : List End) (n : ℕ) (a b : ℤ) → length ends ≤ n → Clear (drop n ends) a b
clear_end [] zero a b le = tt
clear_end [] (suc n) a b le = tt
clear_end (t ∷ ends) zero a b le = absurd (omega arith)
clear_end (t ∷ ends) (suc n) a b le = clear_end ends n a b (omega arith)

pub drop_left : (ends : List End) (n : ℕ) → FromLeft ends → FromLeft (drop n ends)
drop_left [] zero up = up
drop_left [] (suc n) up = up
drop_left (e ∷ es) zero up = up
drop_left (e ∷ es) (suc n) up = drop_left es n (left_rest e es up)

pub drop_first : (ends : List End) (n : ℕ) (e : End) → slice_get ends n ≡ Some e → slice_get (drop n ends) 0 ≡ Some e
drop_first [] n e h = absurd cc
drop_first (f ∷ es) zero e h = h
drop_first (f ∷ es) (suc n) e h = drop_first es n e h

pub past_off : (ends : List End) (a b x : ℤ) → Past ends x → x ≤ℤ a → Off ends a b
past_off [] a b x p le = absurd p
past_off (t ∷ []) a b x p le = absurd p
past_off (t ∷ u ∷ ts) a b x p le = inr (omega (arith, ints, p, le))

-- what meets the first window isn't off it
pub met : (ends : List End) (e : End) (a b : ℤ) → slice_get ends 0 ≡ Some e → Reached ends a → e.x ≤ℤ b
    → Off ends a b → ⊥
met [] e a b at r le o = r
met (t ∷ []) e a b at r le o = (let h : t.x ≡ e.x = same t e at in omega (arith, ints, h, le, o))
  where
    same : (t e : End) → Some t ≡ Some e → t.x ≡ e.x
    same t e h = cc
met (t ∷ u ∷ ts) e a b at r le (inl h) = (let k : t.x ≡ e.x = same t e at in omega (arith, ints, h, le, k))
  where
    same : (t e : End) → Some t ≡ Some e → t.x ≡ e.x
    same t e h = cc
met (t ∷ u ∷ ts) e a b at r le (inr h) = omega (arith, ints, h, r)

-- the last end has no other behind it
pub reached_last : (ends : List End) (n : ℕ) (a : ℤ) → n < length ends → length ends ≤ n + 1 → Reached (drop n ends) a
reached_last [] n a lt le = absurd (omega arith)
reached_last (t ∷ []) zero a lt le = tt
reached_last (t ∷ u ∷ ts) zero a lt le = absurd (omega arith)
reached_last (t ∷ ts) (suc n) a lt le = reached_last ts n a (omega arith) (omega arith)
