-- An entry put at the lowest level, and then one at each level above it.
use Rattle.std.proofs.Common.{◌≡◌, ℕ, zero, suc, ◌+◌, ◌-◌, ◌/◌, ◌<◌, ◌≤◌, List, [], ◌∷◌, ◌++◌, length, get_or, set}
use Rattle.std.proofs.Common.{take, drop, refl, sym, ap, ◌∙◌, subst, arith, append_assoc, append-nil}
use Rattle.std.proofs.lemmas.List.{take_all, drop_all, drop-set-lt, drop_more, take_more_set}
use Rattle.channel_route.specs.Code.Levels.{halves, pair_least, put, LeadUp, AreLevels, lowest_level, top_level}
use Rattle.channel_route.proofs.Minima.{step_up, halves_reach, put_long}

abbrev pub raised : List (List ℕ) → ℕ → ℕ → List (List ℕ)
raised [] i v = []
raised (l ∷ ls) i v = put l i v ∷ raised ls (i / 2) (pair_least (put l i v) (i / 2))

-- the minimum that would stand above the top
abbrev pub last_least : List (List ℕ) → ℕ → ℕ → ℕ
last_least [] i v = v
last_least (l ∷ ls) i v = last_least ls (i / 2) (pair_least (put l i v) (i / 2))

abbrev pub top_of : List ℕ → List (List ℕ) → List ℕ
top_of xs [] = xs
top_of xs (l ∷ ls) = top_of l ls

top_at : (xs : List ℕ) (ls : List (List ℕ)) → get_or (xs ∷ ls) (length ls) [] ≡ top_of xs ls
top_at xs [] = refl
top_at xs (l ∷ ls) = top_at l ls

pub top_is : (xs : List ℕ) (ls : List (List ℕ)) → top_level (xs ∷ ls) ≡ top_of xs ls
top_is xs ls = let e : suc (length ls) - 1 ≡ length ls = omega arith in
    ap (λ (n : ℕ). get_or (xs ∷ ls) n []) e ∙ top_at xs ls

-- levels with one entry at the top are whole; others want one more
pub raised_whole : (xs : List ℕ) (ls : List (List ℕ)) (i v : ℕ) → LeadUp xs ls → i ≤ length xs
    → length (top_of (put xs i v) (raised ls (i / 2) (pair_least (put xs i v) (i / 2)))) ≡ 1
    → LeadUp (put xs i v) (raised ls (i / 2) (pair_least (put xs i v) (i / 2)))
raised_whole xs [] i v up le one = one
raised_whole xs (l ∷ ls) i v up le one =
    let m = pair_least (put xs i v) (i / 2) in
    let here : put l (i / 2) m ≡ halves (put xs i v) = ap (λ (k : List ℕ). put k (i / 2) m) up.1
    ∙ sym (step_up i v xs le) in
    let reach : i / 2 ≤ length l = subst (λ (k : List ℕ). i / 2 ≤ length k) (sym up.1) (halves_reach i xs le) in
    (omega (arith, up.0, (put_long xs i v le).0), here, raised_whole l ls (i / 2) m up.2 reach one)

pub raised_short : (xs : List ℕ) (ls : List (List ℕ)) (i v : ℕ) → LeadUp xs ls → i ≤ length xs
    → (length (top_of (put xs i v) (raised ls (i / 2) (pair_least (put xs i v) (i / 2)))) ≡ 1 → ⊥)
    → LeadUp (put xs i v) (raised ls (i / 2) (pair_least (put xs i v) (i / 2))
    ++ (last_least ls (i / 2) (pair_least (put xs i v) (i / 2)) ∷ []) ∷ [])
raised_short [] [] i v up le more = absurd (omega (arith, up))
raised_short (x ∷ []) [] zero v up le more = absurd (more refl)
raised_short (x ∷ []) [] (suc zero) v up le more = (omega arith, refl, refl)
raised_short (x ∷ []) [] (suc (suc i)) v up le more = absurd (omega arith)
raised_short (x ∷ (y ∷ xs)) [] i v up le more = absurd (omega (arith, up))
raised_short xs (l ∷ ls) i v up le more =
    let m = pair_least (put xs i v) (i / 2) in
    let here : put l (i / 2) m ≡ halves (put xs i v) = ap (λ (k : List ℕ). put k (i / 2) m) up.1
    ∙ sym (step_up i v xs le) in
    let reach : i / 2 ≤ length l = subst (λ (k : List ℕ). i / 2 ≤ length k) (sym up.1) (halves_reach i xs le) in
    (omega (arith, up.0, (put_long xs i v le).0), here, raised_short l ls (i / 2) m up.2 reach more)

-- what the loop keeps: the first k levels are done
pub record Raising (old now : List (List ℕ)) (i v k at' least : ℕ) : Type 0 where
  pub same : take k now ++ raised (drop k now) at' least ≡ raised old i v
  pub last : last_least (drop k now) at' least ≡ last_least old i v
  pub rest : AreLevels (drop k now)
  pub fits : at' ≤ length (lowest_level (drop k now))

pub raising_fits : (old now : List (List ℕ)) (i v k at' least : ℕ) (d : List ℕ) → Raising old now i v k at' least
    → k < length now → at' ≤ length (get_or now k d)
raising_fits old now i v k at' least d r lt =
    subst (λ (ls : List (List ℕ)). at' ≤ length (lowest_level ls)) (drop_more now k d lt) r.fits

above : (x : List ℕ) (ls : List (List ℕ)) (i : ℕ) → LeadUp x ls → i ≤ length x → AreLevels ls
    × (i / 2 ≤ length (lowest_level ls))
above x [] i up le = (tt, omega (arith, up))
above x (l ∷ ls) i up le = (up.2, subst (λ (k : List ℕ). i / 2 ≤ length k) (sym up.1) (halves_reach i x le))

pub raising_more : (old now : List (List ℕ)) (i v k at' least : ℕ) (d : List ℕ) → Raising old now i v k at' least
    → k < length now
    → Raising old (set now k (put (get_or now k d) at' least)) i v (k + 1) (at' / 2)
    (pair_least (put (get_or now k d) at' least) (at' / 2))
raising_more old now i v k at' least d r lt =
    let split : drop k now ≡ get_or now k d ∷ drop (k + 1) now = drop_more now k d lt in
    let x = get_or now k d in
    let y = put (get_or now k d) at' least in
    let m = pair_least y (at' / 2) in
    let later : drop (k + 1) (set now k y) ≡ drop (k + 1) now = drop-set-lt (k + 1) now k y (omega arith) in
    let up : LeadUp x (drop (k + 1) now) = subst AreLevels split r.rest in
    let parts = above x (drop (k + 1) now) at' up (raising_fits old now i v k at' least d r lt) in
    record {
      same = ap (λ (ls : List (List ℕ)). ls ++ raised (drop (k + 1) (set now k y)) (at' / 2) m)
          (take_more_set now k y lt)
          ∙ ap (λ (ls : List (List ℕ)). (take k now ++ y ∷ []) ++ raised ls (at' / 2) m) later
          ∙ append_assoc (take k now) (y ∷ []) (raised (drop (k + 1) now) (at' / 2) m)
          ∙ ap (λ (ls : List (List ℕ)). take k now ++ raised ls at' least) (sym split)
          ∙ r.same;
      last = ap (λ (ls : List (List ℕ)). last_least ls (at' / 2) m) later
          ∙ ap (λ (ls : List (List ℕ)). last_least ls at' least) (sym split) ∙ r.last;
      rest = subst AreLevels (sym later) parts.0;
      fits = subst (λ (ls : List (List ℕ)). at' / 2 ≤ length (lowest_level ls)) (sym later) parts.1;
    }

-- all levels are done
pub raising_all : (old now : List (List ℕ)) (i v k at' least : ℕ) → Raising old now i v k at' least → length now ≤ k
    → (now ≡ raised old i v) × (least ≡ last_least old i v)
raising_all old now i v k at' least r le =
    let none : drop k now ≡ [] = drop_all k now le in (
      sym (append-nil now) ∙ ap (λ (ls : List (List ℕ)). ls ++ []) (sym (take_all k now le))
          ∙ ap (λ (ls : List (List ℕ)). take k now ++ raised ls at' least) (sym none)
          ∙ r.same,
      ap (λ (ls : List (List ℕ)). last_least ls at' least) (sym none) ∙ r.last,
    )

-- what the code has after the loop
pub levels_whole : (old now : List (List ℕ)) (i v : ℕ) → AreLevels old → i ≤ length (lowest_level old)
    → now ≡ raised old i v → length (top_level now) ≡ 1 → AreLevels now
levels_whole [] now i v are le is one = absurd (let h = rw is at one in omega (arith, h))
levels_whole (x ∷ ls) now i v are le is one =
    let m = pair_least (put x i v) (i / 2) in
    let top : length (top_of (put x i v) (raised ls (i / 2) m)) ≡ 1 =
    ap (λ (k : List ℕ). length k) (sym (top_is (put x i v) (raised ls (i / 2) m)))
    ∙ ap (λ (k : List (List ℕ)). length (top_level k)) (sym is) ∙ one in
    subst AreLevels (sym is) (raised_whole x ls i v are le top)

pub levels_short : (old now new : List (List ℕ)) (i v least : ℕ) (root : List ℕ) → AreLevels old
    → i ≤ length (lowest_level old) → now ≡ raised old i v → least ≡ last_least old i v
    → (length (top_level now) ≡ 1 → ⊥) → root ≡ least ∷ [] → new ≡ now ++ root ∷ [] → AreLevels new
levels_short [] now new i v least root are le is last more one grown = let e : new ≡ root ∷ [] = grown
    ∙ ap (λ (k : List (List ℕ)). k ++ root ∷ []) is in subst AreLevels (sym e) (ap (λ (k : List ℕ). length k) one)
levels_short (x ∷ ls) now new i v least root are le is last more one grown =
    let m = pair_least (put x i v) (i / 2) in
    let top : length (top_of (put x i v) (raised ls (i / 2) m)) ≡ 1
    → ⊥ = λ q. more (ap (λ (k : List (List ℕ)). length (top_level k)) is
    ∙ ap (λ (k : List ℕ). length k) (top_is (put x i v) (raised ls (i / 2) m)) ∙ q) in
    let e : new ≡ raised (x ∷ ls) i v ++ (last_least (x ∷ ls) i v ∷ []) ∷ [] = grown
    ∙ ap (λ (k : List (List ℕ)). k ++ root ∷ []) is
    ∙ ap (λ (k : List ℕ). raised (x ∷ ls) i v ++ k ∷ []) (one ∙ ap (λ n. n ∷ []) last) in
    subst AreLevels (sym e) (raised_short x ls i v are le top)

-- the same at what the code holds
pub raising_code : (old now : List (List ℕ)) (i v k at' least least' : ℕ) (d y : List ℕ)
    → Raising old now i v k at' least → k < length now → y ≡ put (get_or now k d) at' least
    → least' ≡ pair_least y (at' / 2) → Raising old (set now k y) i v (k + 1) (at' / 2) least'
raising_code old now i v k at' least least' d y r lt is m =
    rw (m, is) (raising_more old now i v k at' least d r lt)

pub written : (now old : List (List ℕ)) (n : ℕ) → n ≡ length old → length now ≡ length old
    → take n (now ++ drop (length now) old) ≡ now
written now old n size long = rw (drop_all (length now) old (omega arith), append-nil now)
    (take_all n now (omega arith))
