-- One step down, and one step up, through levels of minima.
use Rattle.std.proofs.Common.{◌≡◌, ℕ, zero, suc, ◌+◌, ◌/◌, ◌<◌, ◌≤◌, Bool, true, false, cond, ltb, min, List, [], ◌∷◌}
use Rattle.std.proofs.Common.{◌++◌, length, get_or, set, refl, sym, ap, subst, inl, inr, arith}
use Rattle.std.proofs.lemmas.Bool.{cases_lt, le-ltb, lt-ltb}
use Rattle.channel_route.specs.Code.Levels.{halves, pair_least, put}
use Rattle.channel_route.specs.Tracks.{lowest_free, ends_after}

-- a step down: the first entry below c lies in the first pair whose minimum is, left or right
pub step_down : (c j : ℕ) (xs : List ℕ) → lowest_free c (halves xs) ≡ j → j < length (halves xs)
    → lowest_free c xs ≡ cond (ltb (get_or xs (j + j) 0) c) (j + j) (suc (j + j))
step_down c j [] e lt = absurd (omega (arith, lt))
step_down c j (a ∷ []) e lt = elim (cases_lt a c) [
  | inr above ↦ absurd (let k : ltb a c ≡ false = le-ltb a c above in let h = rw k at e in omega (arith, h, lt))
  | inl below ↦
      let k : ltb a c ≡ true = lt-ltb a c below in
      let h = rw k at e in
      subst (λ (i : ℕ). lowest_free c (a ∷ []) ≡ cond (ltb (get_or (a ∷ []) (i + i) 0) c) (i + i) (suc (i + i))) h
      (rw k refl)
]
step_down c j (a ∷ (b ∷ xs)) e lt = elim (cases_lt (min a b) c) [
  | inl below ↦
      let k : ltb (min a b) c ≡ true = lt-ltb (min a b) c below in
      let h = rw k at e in
      subst (λ (i : ℕ). lowest_free c (a ∷ (b ∷ xs)) ≡ cond (ltb (get_or (a ∷ (b ∷ xs)) (i + i) 0) c) (i + i)
      (suc (i + i))) h (first a b below)
  | inr above ↦
      let k : ltb (min a b) c ≡ false = le-ltb (min a b) c above in
      let ka : ltb a c ≡ false = le-ltb a c (omega arith) in
      let kb : ltb b c ≡ false = le-ltb b c (omega arith) in
      let h : suc (lowest_free c (halves xs)) ≡ j = rw k at e in
      let rest = step_down c (lowest_free c (halves xs)) xs refl (omega (arith, h, lt)) in
      subst (λ (i : ℕ). lowest_free c (a ∷ (b ∷ xs)) ≡ cond (ltb (get_or (a ∷ (b ∷ xs)) (i + i) 0) c) (i + i)
      (suc (i + i))) h (later (lowest_free c (halves xs)) ka kb rest)
]
  where
    first : (a b : ℕ) → min a b < c → lowest_free c (a ∷ (b ∷ xs)) ≡ cond (ltb a c) 0 1
    first a b lt = elim (cases_lt a c) [
      | inr above ↦ let ka : ltb a c ≡ false = le-ltb a c above in let kb : ltb b c ≡ true = lt-ltb b c (omega arith) in
          rw (ka, kb) refl
      | inl below ↦ let ka : ltb a c ≡ true = lt-ltb a c below in rw ka refl
    ]

    later : (i : ℕ) → ltb a c ≡ false → ltb b c ≡ false
        → lowest_free c xs ≡ cond (ltb (get_or xs (i + i) 0) c) (i + i) (suc (i + i))
        → lowest_free c (a ∷ (b ∷ xs)) ≡ cond (ltb (get_or (a ∷ (b ∷ xs)) (suc i + suc i) 0) c) (suc i + suc i)
        (suc (suc i + suc i))
    later i ka kb rest =
        let s : suc i + suc i ≡ suc (suc (i + i)) = omega arith in
        rw (ka, kb, s, rest) (go (ltb (get_or xs (i + i) 0) c))
      where
        go : (t : Bool) → suc (suc (cond t (i + i) (suc (i + i)))) ≡ cond t (suc (suc (i + i)))
            (suc (suc (suc (i + i))))
        go true = refl
        go false = refl

pub pair_long : (j : ℕ) (xs : List ℕ) → j < length (halves xs) → j + j < length xs
pair_long j [] lt = absurd (omega arith)
pair_long j (a ∷ []) lt = omega arith
pair_long zero (a ∷ (b ∷ xs)) lt = omega arith
pair_long (suc j) (a ∷ (b ∷ xs)) lt = omega (arith, pair_long j xs (omega arith))

pub below_within : (c : ℕ) (xs : List ℕ) → lowest_free c (halves xs) < length (halves xs) → lowest_free c xs < length xs
below_within c [] lt = absurd (omega (arith, lt))
below_within c (a ∷ []) lt = lt
below_within c (a ∷ (b ∷ xs)) lt = elim (cases_lt a c) [
  | inl below ↦ let k : ltb a c ≡ true = lt-ltb a c below in rw k (omega arith)
  | inr above ↦ elim (cases_lt b c) [
    | inl below ↦ let k : ltb a c ≡ false = le-ltb a c above in let k' : ltb b c ≡ true = lt-ltb b c below in
        rw (k, k') (omega arith)
    | inr above' ↦
        let k : ltb a c ≡ false = le-ltb a c above in
        let k' : ltb b c ≡ false = le-ltb b c above' in
        let m : ltb (min a b) c ≡ false = le-ltb (min a b) c (omega arith) in
        let h = rw m at lt in
        rw (k, k') (omega (arith, below_within c xs (omega (arith, h))))
  ]
]

-- where no minimum is below c, no entry is
pub none_below : (c : ℕ) (xs : List ℕ) → length (halves xs) ≤ lowest_free c (halves xs) → lowest_free c xs ≡ length xs
none_below c [] le = refl
none_below c (a ∷ []) le = elim (cases_lt a c) [
  | inl below ↦ let k : ltb a c ≡ true = lt-ltb a c below in absurd (let h = rw k at le in omega (arith, h))
  | inr above ↦ let k : ltb a c ≡ false = le-ltb a c above in rw k refl
]
none_below c (a ∷ (b ∷ xs)) le = elim (cases_lt (min a b) c) [
  | inl below ↦ let k : ltb (min a b) c ≡ true = lt-ltb (min a b) c below in
      absurd (let h = rw k at le in omega (arith, h))
  | inr above ↦
      let m : ltb (min a b) c ≡ false = le-ltb (min a b) c above in
      let k : ltb a c ≡ false = le-ltb a c (omega arith) in
      let k' : ltb b c ≡ false = le-ltb b c (omega arith) in
      let h = rw m at le in
      rw (k, k') (ap (λ n. suc (suc n)) (none_below c xs (omega (arith, h))))
]

-- a step up: where one entry is put, one minimum is
same_min : (v : ℕ) → min v v ≡ v
same_min v = omega arith

pair_shift : (a b : ℕ) (ys : List ℕ) (j : ℕ) → pair_least (a ∷ (b ∷ ys)) (suc j) ≡ pair_least ys j
pair_shift a b ys j = let s : suc j + suc j ≡ suc (suc (j + j)) = omega arith in rw s refl

pub step_up : (i v : ℕ) (xs : List ℕ) → i ≤ length xs
    → halves (put xs i v) ≡ put (halves xs) (i / 2) (pair_least (put xs i v) (i / 2))
step_up zero v [] le = ap (λ n. n ∷ []) (sym (same_min v))
step_up (suc i) v [] le = absurd (omega arith)
step_up zero v (a ∷ []) le = ap (λ n. n ∷ []) (sym (same_min v))
step_up (suc zero) v (a ∷ []) le = refl
step_up (suc (suc i)) v (a ∷ []) le = absurd (omega arith)
step_up zero v (a ∷ (b ∷ xs)) le = refl
step_up (suc zero) v (a ∷ (b ∷ xs)) le = refl
step_up (suc (suc i)) v (a ∷ (b ∷ xs)) le =
    let h : suc (suc i) / 2 ≡ suc (i / 2) = omega arith in
    rw (h, pair_shift a b (put xs i v) (i / 2)) (ap (λ (l : List ℕ). min a b ∷ l) (step_up i v xs (omega arith)))

pub halves_reach : (i : ℕ) (xs : List ℕ) → i ≤ length xs → i / 2 ≤ length (halves xs)
halves_reach i [] le = omega arith
halves_reach i (a ∷ []) le = omega arith
halves_reach zero (a ∷ (b ∷ xs)) le = omega arith
halves_reach (suc zero) (a ∷ (b ∷ xs)) le = omega arith
halves_reach (suc (suc i)) (a ∷ (b ∷ xs)) le = omega (arith, halves_reach i xs (omega arith))

-- what `put` does
pub put_set : (xs : List ℕ) (i v : ℕ) → i < length xs → set xs i v ≡ put xs i v
put_set [] i v lt = absurd (omega arith)
put_set (x ∷ xs) zero v lt = refl
put_set (x ∷ xs) (suc i) v lt = ap (λ (l : List ℕ). x ∷ l) (put_set xs i v (omega arith))

pub put_push : (xs : List ℕ) (i v : ℕ) → length xs ≤ i → xs ++ v ∷ [] ≡ put xs i v
put_push [] i v le = refl
put_push (x ∷ xs) zero v le = absurd (omega arith)
put_push (x ∷ xs) (suc i) v le = ap (λ (l : List ℕ). x ∷ l) (put_push xs i v (omega arith))

pub put_long : (xs : List ℕ) (i v : ℕ) → i ≤ length xs → (length xs ≤ length (put xs i v)) × (i < length (put xs i v))
put_long [] zero v le = (omega arith, omega arith)
put_long [] (suc i) v le = absurd (omega arith)
put_long (x ∷ xs) zero v le = (omega arith, omega arith)
put_long (x ∷ xs) (suc i) v le = let h = put_long xs i v (omega arith) in (omega (arith, h.0), omega (arith, h.1))

pub lowest_le : (l : ℕ) (es : List ℕ) → lowest_free l es ≤ length es
lowest_le l [] = omega arith
lowest_le l (e ∷ es) = go (ltb e l) refl (lowest_le l es)
  where
    go : (b : Bool) → ltb e l ≡ b → lowest_free l es ≤ length es → lowest_free l (e ∷ es) ≤ length (e ∷ es)
    go true q r = rw q (omega arith)
    go false q r = rw q (omega (arith, r))

-- a wire's end is put at its track
pub after_put : (low high : ℕ) (es : List ℕ) → ends_after low high es ≡ put es (lowest_free low es) high
after_put low high [] = refl
after_put low high (e ∷ es) = elim (cases_lt e low) [
  | inl small ↦ let k : ltb e low ≡ true = lt-ltb e low small in rw k refl
  | inr large ↦ let k : ltb e low ≡ false = le-ltb e low large in
      rw k (ap (λ (l : List ℕ). e ∷ l) (after_put low high es))
]
