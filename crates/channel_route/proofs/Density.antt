-- The tracks that are used are the density: no assignment uses fewer.
use Rattle.std.proofs.Common.{◌≡◌, ℕ, suc, ◌+◌, ◌<◌, ◌≤◌, Bool, true, false, cond, leb, ltb, eqb, List, [], ◌∷◌, length}
use Rattle.std.proofs.Common.{refl, sym, ap, ◌∙◌, subst, ◌⊎◌, inl, inr, arith}
use Rattle.std.specs.List.{filter}
use Rattle.std.proofs.lemmas.Bool.{cases_lt, lt-ltb, le-ltb, le-leb, lt-leb, eq-eqb, ne_eqb, eqb-true, eqb-false}
use Rattle.rowed.specs.declared.wire.Wire.{Wire}
use Rattle.sorting.specs.Sorting.{Rising}
use Rattle.channel_route.specs.Crossing.{low, high, crossing, IsDensity}
use Rattle.channel_route.specs.Tracks.{lowest_free, ends_after, last_ends, last_column}

-- how many of the tracks hold a wire that ends at x or later
abbrev pub held : ℕ → List ℕ → ℕ
held x es = length (filter (leb x) es)

abbrev pub one : Bool → ℕ
one b = cond b 1 0

pub held-cons : (x e : ℕ) (es : List ℕ) → held x (e ∷ es) ≡ one (leb x e) + held x es
held-cons x e es = go (leb x e) refl
  where
    go : (b : Bool) → leb x e ≡ b → held x (e ∷ es) ≡ one b + held x es
    go true q = rw q (omega arith)
    go false q = rw q (omega arith)

one-le : (b : Bool) → one b ≤ 1
one-le true = omega arith
one-le false = omega arith

held-le : (x : ℕ) (es : List ℕ) → held x es ≤ length es
held-le x [] = omega arith
held-le x (e ∷ es) = omega (arith, held-cons x e es, one-le (leb x e), held-le x es)

-- a wire that has taken its track is held at each column that it reaches
pub held-after : (x low high : ℕ) (es : List ℕ) → low ≤ x
    → held x (ends_after low high es) ≡ one (leb x high) + held x es
held-after x low high [] le = held-cons x high []
held-after x low high (e ∷ es) le = elim (cases_lt e low) [
  | inl small ↦ let k : ltb e low ≡ true = lt-ltb e low small in
      let f : leb x e ≡ false = lt-leb x e (omega arith) in
      let h : held x (high ∷ es) ≡ one (leb x high) + held x (e ∷ es) = rw f (held-cons x high es) in
      rw k h
  | inr large ↦ let k : ltb e low ≡ false = le-ltb e low large in
      let h : held x (e ∷ ends_after low high es) ≡ one (leb x high) + held x (e ∷ es) =
      omega (arith, held-cons x e (ends_after low high es), held-cons x e es, held-after x low high es le) in
      rw k h
]

pub crossing-cons : (x : ℕ) (w : Wire) (ws : List Wire) → low w ≤ x
    → length (crossing x (w ∷ ws)) ≡ one (leb x (high w)) + length (crossing x ws)
crossing-cons x w ws le = go (leb x (high w)) refl
  where
    k : leb (low w) x ≡ true
    k = le-leb (low w) x le

    go : (b : Bool) → leb x (high w) ≡ b → length (crossing x (w ∷ ws)) ≡ one b + length (crossing x ws)
    go true q = rw (k, q) (omega arith)
    go false q = rw (k, q) (omega arith)

pub crossing-before : (x b : ℕ) (ws : List Wire) → Rising low b ws → x < b → crossing x ws ≡ []
crossing-before x b [] r lt = refl
crossing-before x b (w ∷ ws) r lt =
    let k : leb (low w) x ≡ false = lt-leb (low w) x (omega (arith, r.0)) in
    rw k (crossing-before x (low w + 1) ws r.1 (omega (arith, r.0)))

pub after-grows : (low high : ℕ) (es : List ℕ) → length es ≤ length (ends_after low high es)
after-grows low high [] = omega arith
after-grows low high (e ∷ es) = elim (cases_lt e low) [
  | inl small ↦ let k : ltb e low ≡ true = lt-ltb e low small in rw k (omega arith)
  | inr large ↦ let k : ltb e low ≡ false = le-ltb e low large in rw k (omega (arith, after-grows low high es))
]

pub last-grows : (es : List ℕ) (ws : List Wire) → length es ≤ length (last_ends es ws)
last-grows es [] = omega arith
last-grows es (w ∷ ws) = omega (arith, after-grows (low w) (high w) es, last-grows (ends_after (low w) (high w) es) ws)

-- a track is added only where every track holds a wire
pub after-adds : (low high : ℕ) (es : List ℕ)
    → ((length (ends_after low high es) ≡ length es) × (eqb (lowest_free low es) (length es) ≡ false)) ⊎
    ((length (ends_after low high es) ≡ length es + 1) × (held low es ≡ length es)
    × (eqb (lowest_free low es) (length es) ≡ true))
after-adds low high [] = inr (refl, refl, refl)
after-adds low high (e ∷ es) = elim (cases_lt e low) [
  | inl small ↦ let k : ltb e low ≡ true = lt-ltb e low small in
      rw k (inl (refl, ne_eqb 0 (suc (length es)) (λ q. absurd (omega (arith, q)))))
  | inr large ↦
      let k : ltb e low ≡ false = le-ltb e low large in
      let f : leb low e ≡ true = le-leb low e large in
      elim (after-adds low high es) [
        | inl same ↦ rw k (inl (
          omega (arith, same.0),
          ne_eqb (suc (lowest_free low es)) (suc (length es))
              (λ q. absurd (eqb-false (lowest_free low es) (length es) same.1 (omega (arith, q)))),
        ))
        | inr more ↦ rw (k, f) (inr (
          omega (arith, more.0),
          omega (arith, more.1),
          eq-eqb (suc (lowest_free low es))
              (suc (length es)) (ap suc (eqb-true (lowest_free low es) (length es) more.2)),
        ))
      ]
]

-- no column is crossed by more wires than there are tracks
pub most_held : (es : List ℕ) (b : ℕ) (ws : List Wire) → Rising low b ws → (x : ℕ)
    → held x es + length (crossing x ws) ≤ length (last_ends es ws)
most_held es b [] r x = omega (arith, held-le x es)
most_held es b (w ∷ ws) r x = elim (cases_lt x (low w)) [
  | inl before ↦
      let none : crossing x (w ∷ ws) ≡ [] = crossing-before x (low w) (w ∷ ws) (omega arith, r.1) before in
      omega (arith, held-le x es, last-grows es (w ∷ ws), ap length none)
  | inr after ↦ omega (
    arith,
    held-after x (low w) (high w) es after,
    crossing-cons x w ws after,
    most_held
        (ends_after (low w) (high w) es) (low w + 1) ws r.1 x,
  )
]

-- and where a track is added, some column is crossed by as many
pub all_held : (es : List ℕ) (c b : ℕ) (ws : List Wire) → Rising low b ws
    → ((length (last_ends es ws) ≡ length es) × (last_column es c ws ≡ c)) ⊎
    ((b ≤ last_column es c ws) × (held (last_column es c ws) es + length (crossing (last_column es c ws) ws) ≡ length
    (last_ends es ws)))
all_held es c b [] r = inl (refl, refl)
all_held es c b (w ∷ ws) r = elim (all_held (ends_after (low w) (high w) es)
    (cond (eqb (lowest_free (low w) es) (length es)) (low w) c) (low w + 1) ws r.1) [
      | inr more ↦
          let x = last_column es c (w ∷ ws) in
          inr (
            omega (arith, more.0, r.0),
            omega (
              arith,
              more.0,
              more.1,
              held-after x (low w) (high w) es (omega (arith, more.0)),
              crossing-cons x w ws
                  (omega (arith, more.0)),
            ),
          )
      | inl same ↦ elim (after-adds (low w) (high w) es) [
        | inl none ↦ inl (same.0 ∙ none.0, same.1 ∙ rw none.1 refl)
        | inr added ↦
            let at : last_column es c (w ∷ ws) ≡ low w = same.1 ∙ rw added.2 refl in
            let here : leb (low w) (high w) ≡ true = le-leb (low w) (high w) (omega arith) in
            let first : length (crossing (low w) (w ∷ ws)) ≡ 1 = crossing-cons (low w) w ws (omega arith)
            ∙ rw (here, crossing-before (low w) (low w + 1) ws r.1 (omega arith)) refl in
            let whole : held (low w) es + length (crossing (low w) (w ∷ ws)) ≡ length (last_ends es (w ∷ ws)) =
            omega (arith, same.0, added.0, added.1, first) in
            inr (
              omega (arith, at, r.0),
              subst
                  (λ (x : ℕ). held x es + length (crossing x (w ∷ ws)) ≡ length (last_ends es (w ∷ ws))) (sym at) whole,
            )
      ]
    ]

pub used_is_density : (b : ℕ) (ws : List Wire) → Rising low b ws
    → IsDensity ws (length (last_ends [] ws)) (last_column [] 0 ws)
used_is_density b ws r = elim (all_held [] 0 b ws r) [
  | inl none ↦ record {
    reached = omega (arith, none.0, most_held [] b ws r (last_column [] 0 ws));
    most = λ x. omega (arith, most_held [] b ws r x);
  }
  | inr some ↦ record { reached = omega (arith, some.1); most = λ x. omega (arith, most_held [] b ws r x) }
]
