-- Two wires on one track share no column.
use Rattle.std.proofs.Common.{◌≡◌, ℕ, zero, suc, ◌+◌, ◌<◌, true, false, leb, ltb, List, [], ◌∷◌, length, get_or, refl}
use Rattle.std.proofs.Common.{sym, ap, ◌∙◌, subst, inl, inr, arith}
use Rattle.std.specs.List.{All, AllByRecursion}
use Rattle.std.proofs.lemmas.List.Elements.{All-from_recursion, recursion_from_All}
use Rattle.std.proofs.lemmas.Bool.{cases_lt, cases_eq, lt-ltb, le-ltb, leb-true, and_parts}
use Rattle.rowed.specs.declared.wire.Wire.{Wire}
use Rattle.sorting.specs.Sorting.{by_key, Rising, EachPair}
use Rattle.sorting.proofs.SortingLaws.{by_key_in_order, by_key_pairs, by_key_length, by_key_passing, all_by_key}
use Rattle.sorting.proofs.SortingLaws.{rising_from, rising_at, rank_is_place, pair_at}
use Rattle.channel_route.specs.Crossing.{low, high, crosses, IsDensity, EndsApart, Apart}
use Rattle.channel_route.specs.Tracks.{lowest_free, ends_after, tracks, last_ends, tracks_used, route_of, column_of}
use Rattle.channel_route.specs.Tracks.{rank, AreTracks}
use Rattle.std.proofs.lemmas.List.{get_or-map, length-map, get_or_default}
use Rattle.channel_route.proofs.Density.{last-grows, after-grows, used_is_density}

lowest_within : (l h : ℕ) (es : List ℕ) → lowest_free l es < length (ends_after l h es)
lowest_within l h [] = omega arith
lowest_within l h (e ∷ es) = elim (cases_lt e l) [
  | inl small ↦ let k : ltb e l ≡ true = lt-ltb e l small in rw k (omega arith)
  | inr large ↦ let k : ltb e l ≡ false = le-ltb e l large in rw k (omega (arith, lowest_within l h es))
]

lowest_end : (l : ℕ) (es : List ℕ) → lowest_free l es < length es → get_or es (lowest_free l es) 0 < l
lowest_end l [] lt = absurd (omega arith)
lowest_end l (e ∷ es) lt = elim (cases_lt e l) [
  | inl small ↦ let k : ltb e l ≡ true = lt-ltb e l small in rw k small
  | inr large ↦ let k : ltb e l ≡ false = le-ltb e l large in
      let h = rw k at lt in
      rw k (lowest_end l es (omega (arith, h)))
]

after_at : (l h : ℕ) (es : List ℕ) → get_or (ends_after l h es) (lowest_free l es) 0 ≡ h
after_at l h [] = refl
after_at l h (e ∷ es) = elim (cases_lt e l) [
  | inl small ↦ let k : ltb e l ≡ true = lt-ltb e l small in rw k refl
  | inr large ↦ let k : ltb e l ≡ false = le-ltb e l large in rw k (after_at l h es)
]

after_other : (l h : ℕ) (es : List ℕ) (t : ℕ) → (t ≡ lowest_free l es → ⊥)
    → get_or (ends_after l h es) t 0 ≡ get_or es t 0
after_other l h [] zero ne = absurd (ne refl)
after_other l h [] (suc t) ne = refl
after_other l h (e ∷ es) zero ne = elim (cases_lt e l) [
  | inl small ↦ let k : ltb e l ≡ true = lt-ltb e l small in absurd (ne (rw k refl))
  | inr large ↦ let k : ltb e l ≡ false = le-ltb e l large in rw k refl
]
after_other l h (e ∷ es) (suc t) ne = elim (cases_lt e l) [
  | inl small ↦ let k : ltb e l ≡ true = lt-ltb e l small in rw k refl
  | inr large ↦ let k : ltb e l ≡ false = le-ltb e l large in
      let n = rw k at ne in
      rw k (after_other l h es t (λ q. n (ap suc q)))
]

pub tracks_within : (es : List ℕ) (ws : List Wire) (k : ℕ) → k < length ws
    → get_or (tracks es ws) k 0 < length (last_ends es ws)
tracks_within es [] k lt = absurd (omega arith)
tracks_within es (w ∷ ws) zero lt = omega
    (arith, lowest_within (low w) (high w) es, last-grows (ends_after (low w) (high w) es) ws)
tracks_within es (w ∷ ws) (suc k) lt = tracks_within (ends_after (low w) (high w) es) ws k (omega arith)

-- a wire on a track that is in use begins after the track's last wire
begins_later : (es : List ℕ) (b : ℕ) (ws : List Wire) → Rising low b ws → (k t : ℕ) (d : Wire) → k < length ws
    → get_or (tracks es ws) k 0 ≡ t → t < length es → get_or es t 0 < low (get_or ws k d)
begins_later es b [] r k t d lt e within = absurd (omega arith)
begins_later es b (w ∷ ws) r zero t d lt e within =
    subst (λ (s : ℕ). s < length es → get_or es s 0 < low w) e (lowest_end (low w) es) within
begins_later es b (w ∷ ws) r (suc k) t d lt e within = elim (cases_eq t (lowest_free (low w) es)) [
  | inl same ↦
      let h : get_or es t 0 < low w = subst (λ (s : ℕ). s < length es → get_or es s 0 < low w) (sym same)
      (lowest_end (low w) es) within in
      omega (arith, h, rising_at low (low w + 1) ws r.1 k d (omega arith))
  | inr other ↦
      let h = begins_later (ends_after (low w) (high w) es) (low w + 1) ws r.1 k t d (omega arith) e
      (omega (arith, after-grows (low w) (high w) es)) in
      omega (arith, h, after_other (low w) (high w) es t other)
]

pub tracks_apart : (es : List ℕ) (b : ℕ) (ws : List Wire) → Rising low b ws → (i j : ℕ) (d : Wire) → i < j
    → j < length ws → get_or (tracks es ws) i 0 ≡ get_or (tracks es ws) j 0 → high (get_or ws i d) < low (get_or ws j d)
tracks_apart es b [] r i j d lt in' e = absurd (omega arith)
tracks_apart es b (w ∷ ws) r i zero d lt in' e = absurd (omega arith)
tracks_apart es b (w ∷ ws) r zero (suc j) d lt in' e =
    let h = begins_later (ends_after (low w) (high w) es) (low w + 1) ws r.1 j (lowest_free (low w) es) d (omega arith)
    (sym e) (lowest_within (low w) (high w) es) in
    omega (arith, h, after_at (low w) (high w) es)
tracks_apart es b (w ∷ ws) r (suc i) (suc j) d lt in' e =
    tracks_apart (ends_after (low w) (high w) es) (low w + 1) ws r.1 i j d (omega arith) (omega arith) e

-- in the order in which the wires came
pub rising_lows : (ws : List Wire) → EndsApart ws → Rising low 0 (by_key low ws)
rising_lows ws apart = rising_from low 0 (by_key low ws) (by_key_in_order low ws)
    (by_key_pairs (λ v w. low v ≡ low w → ⊥) (λ v w ne e. ne (sym e)) low ws (lows_apart ws apart.others))
  where
    low_apart : (v w : Wire) → Apart v w → low v ≡ low w → ⊥
    low_apart v w a e = elim (cases_lt v.from_column v.to_column) [
      | inl p ↦ elim (cases_lt w.from_column w.to_column)
          [ inl q ↦ a.from_from (omega (arith, e)) | inr q ↦ a.from_to (omega (arith, e)) ]
      | inr p ↦ elim (cases_lt w.from_column w.to_column)
          [ inl q ↦ a.to_from (omega (arith, e)) | inr q ↦ a.to_to (omega (arith, e)) ]
    ]

    all_apart : (v : Wire) (ws : List Wire) → AllByRecursion (Apart v) ws → AllByRecursion (λ w. low v ≡ low w → ⊥) ws
    all_apart v [] all = tt
    all_apart v (w ∷ ws) all = (low_apart v w all.0, all_apart v ws all.1)

    lows_apart : (ws : List Wire) → EachPair Apart ws → EachPair (λ v w. low v ≡ low w → ⊥) ws
    lows_apart [] all = tt
    lows_apart (w ∷ ws) all = (all_apart w ws all.0, lows_apart ws all.1)

-- each wire stands at its rank among those by rising lower end column
pub ranked : (ws : List Wire) → EndsApart ws → (i : ℕ) (d : Wire) → i < length ws
    → (rank ws (get_or ws i d) < length ws) × (get_or (by_key low ws) (rank ws (get_or ws i d)) d ≡ get_or ws i d)
ranked ws apart i d lt = All-from_recursion P ws (all_by_key P low ws (recursion_from_All P (by_key low ws) each)) i d
    lt
  where
    P : Wire → Type 0
    P w = (rank ws w < length ws) × (get_or (by_key low ws) (rank ws w) d ≡ w)

    each : All P (by_key low ws)
    each k d' lt' =
        let place : rank ws (get_or (by_key low ws) k d') ≡ k =
        sym (by_key_passing (λ v. ltb (low v) (low (get_or (by_key low ws) k d'))) low ws)
        ∙ rank_is_place low 0 (by_key low ws) (rising_lows ws apart) k d' lt' in (
          omega (arith, place, by_key_length low ws),
          ap (λ (n : ℕ). get_or (by_key low ws) n d) place
              ∙ get_or_default (by_key low ws) k d d' lt',
        )

pub track_at : (ws : List Wire) (i : ℕ) (d : Wire) → i < length ws
    → get_or (route_of ws) i 0 ≡ get_or (tracks [] (by_key low ws)) (rank ws (get_or ws i d)) 0
track_at ws i d lt = get_or-map (λ w. get_or (tracks [] (by_key low ws)) (rank ws w) 0) ws i d 0 lt

crossing_both : (x : ℕ) (v w : Wire) → crosses x v ≡ true → crosses x w ≡ true → high v < low w → ⊥
crossing_both x v w c c' lt =
    let a = leb-true x (high v) (and_parts (leb (low v) x) (leb x (high v)) c).1 in
    let b = leb-true (low w) x (and_parts (leb (low w) x) (leb x (high w)) c').0 in
    omega (arith, a, b, lt)

own_rank : (ws : List Wire) → EndsApart ws → (i j : ℕ) (d : Wire) → i < length ws → j < length ws
    → rank ws (get_or ws i d) ≡ rank ws (get_or ws j d) → i ≡ j
own_rank ws apart i j d li lj e =
    let same : get_or ws i d ≡ get_or ws j d = sym (ranked ws apart i d li).1
    ∙ ap (λ (n : ℕ). get_or (by_key low ws) n d) e ∙ (ranked ws apart j d lj).1 in
    elim (cases_lt i j) [
      | inl lt ↦ absurd ((pair_at Apart ws apart.others i j d lt lj).from_from (ap (λ (w : Wire). w.from_column) same))
      | inr ge ↦ elim (cases_lt j i) [
        | inl lt ↦ absurd ((pair_at Apart ws apart.others j i d lt li).from_from
            (sym (ap (λ (w : Wire). w.from_column) same)))
        | inr le ↦ omega arith
      ]
    ]

-- the tracks that the plan gives are what tracks are to be
pub route_is : (ws : List Wire) → EndsApart ws → AreTracks ws (route_of ws) (tracks_used ws) (column_of ws)
route_is ws apart = record {
  apart = record {
    one_each = length-map ws (λ w. get_or (tracks [] (by_key low ws)) (rank ws w) 0);
    below_used = λ i lt. within i lt;
    distinct = λ x i j d li lj ne c c' same. elim (cases_lt (rank ws (get_or ws i d)) (rank ws (get_or ws j d))) [
      | inl lt ↦ crossing_both x (get_or ws i d) (get_or ws j d) c c' (later i j d li lj lt same)
      | inr ge ↦ elim (cases_lt (rank ws (get_or ws j d)) (rank ws (get_or ws i d))) [
        | inl lt ↦ crossing_both x (get_or ws j d) (get_or ws i d) c' c (later j i d lj li lt (sym same))
        | inr le ↦ ne (own_rank ws apart i j d li lj (omega arith))
      ]
    ];
  };
  density = record {
    reached = sym (by_key_passing (crosses (column_of ws)) low ws) ∙ best.reached;
    most = λ x. omega (arith, best.most x, by_key_passing (crosses x) low ws);
  };
}
  where
    best : IsDensity (by_key low ws) (tracks_used ws) (column_of ws)
    best = used_is_density 0 (by_key low ws) (rising_lows ws apart)

    within : (i : ℕ) → i < length ws → get_or (route_of ws) i 0 < tracks_used ws
    within i lt =
        let d : Wire = record { from_slot = 0; to_slot = 0; from_column = 0; to_column = 0 } in
        omega (
          arith,
          track_at ws i d lt,
          tracks_within [] (by_key low ws) (rank ws (get_or ws i d))
              (omega (arith, (ranked ws apart i d lt).0, by_key_length low ws)),
        )

    later : (i j : ℕ) (d : Wire) → i < length ws → j < length ws → rank ws (get_or ws i d) < rank ws (get_or ws j d)
        → get_or (route_of ws) i 0 ≡ get_or (route_of ws) j 0 → high (get_or ws i d) < low (get_or ws j d)
    later i j d li lj lt same =
        let t : get_or (tracks [] (by_key low ws)) (rank ws (get_or ws i d)) 0 ≡ get_or (tracks [] (by_key low ws))
        (rank ws (get_or ws j d)) 0 = sym (track_at ws i d li) ∙ same ∙ track_at ws j d lj in
        let h = tracks_apart [] 0 (by_key low ws) (rising_lows ws apart) (rank ws (get_or ws i d))
        (rank ws (get_or ws j d)) d lt (omega (arith, (ranked ws apart j d lj).0, by_key_length low ws)) t in
        let a : high (get_or ws i d) ≡ high (get_or (by_key low ws) (rank ws (get_or ws i d)) d) =
        sym (ap high (ranked ws apart i d li).1) in
        let b : low (get_or ws j d) ≡ low (get_or (by_key low ws) (rank ws (get_or ws j d)) d) =
        sym (ap low (ranked ws apart j d lj).1) in
        omega (arith, a, b, h)
