-- The sorted ends of a ring have the levels of its points.
use Rattle.std.proofs.Common.{◌≡◌, ◌<◌, ◌++◌, ℤ, ◌<ℤ◌, ◌≤ℤ◌, ◌⊎◌, List, [], ◌∷◌, Bool, true, false, length, get_or}
use Rattle.std.proofs.Common.{refl, sym, ap, subst, ◌∙◌, arith, inl, inr}
use Rattle.std.specs.Prelude.{◌||◌, int_le, IsPermutation, IsSorted}
use Rattle.std.specs.List.{list_any}
use Rattle.std.specs.declared.cmp.Ordering.{Ordering}
use Rattle.std.specs.declared.cmp.Ordering.TheVariants.{Less, Equal}
use Rattle.std.specs.Ordering.{int_cmp, int_eq, is_lt, ordering_then}
use Rattle.std.proofs.lemmas.Int.{ints, by_lt_z}
use Rattle.std.proofs.lemmas.Cmp.{int_cmp_total, then_total, on_total}
use Rattle.std.proofs.lemmas.List.Sorted.{ranks_by, sorted_far, list_any-IsPermutation}
use Rattle.std.proofs.lemmas.Option.{slice_get_within, get_or_from_slice_get}
use Rattle.geom.specs.Rectangle.{Rectangle}
use Rattle.poly_cut.specs.declared.layout.Point.{Point}
use Rattle.poly_cut.specs.declared.ends.End.{End}
use Rattle.poly_cut.specs.Rings.{Edge, edges_from, edges, covers}
use Rattle.poly_cut.specs.Squares.{differ}
use Rattle.poly_cut.specs.Cuts.{placed, levels, toggled, walls, between, slabs_from, slabs, all_joined, ring_cut}
use Rattle.poly_cut.specs.Code.Sweeping.{end, ends_of, steep, FromBelow, levels_of}
use Rattle.poly_cut.specs.Code.Levels.{LevelsFromLeft}
use Rattle.poly_cut.proofs.Parity.{In, in_placed, in_still, in_placed_cases}
use Rattle.poly_cut.proofs.EdgeEnds.{edge_of, steep_level, steep_edge}
use Rattle.poly_cut.proofs.RingLaw.{AreAmong, edges_among, levels_rising}
use Rattle.poly_cut.proofs.Sweeps.{same_members, levels_rise}

-- ---- sorted ends

abbrev end_cmp : End → End → Ordering
end_cmp a b = ordering_then (int_cmp a.y b.y) (int_cmp a.x b.x)

not_below : (v y : ℤ) (o : Ordering) → is_lt (ordering_then (int_cmp v y) o) ≡ false → y ≤ℤ v
not_below v y o h = by_lt_z v y
    (λ lt. absurd
    (let e : int_cmp v y ≡ Less = less v y lt in let k : true ≡ false =
    sym (ap (λ (p : Ordering). is_lt (ordering_then p o)) e) ∙ h in cc)) (λ le. le)
  where
    less : (x y : ℤ) → x <ℤ y → int_cmp x y ≡ Less
    less x y h = grind (arith, ints)

pub from_sort : (ends : List End) → IsSorted end_cmp ends → FromBelow ends
from_sort ends up i j e f le p q =
    let lt : j < length ends = slice_get_within ends j f q in
    let a : get_or ends i e ≡ e = get_or_from_slice_get ends i e e p in
    let b : get_or ends j e ≡ f = get_or_from_slice_get ends j f e q in
    let far : is_lt (end_cmp (get_or ends j e) (get_or ends i e)) ≡ false =
    sorted_far (λ u v. is_lt (end_cmp u v))
    (ranks_by (then_total (on_total (λ (k : End). k.y) int_cmp_total) (on_total (λ (k : End). k.x) int_cmp_total))
    (λ u. u)) ends up i j e le lt in
    not_below f.y e.y (int_cmp f.x e.x) (sym (λ n. is_lt (end_cmp (b n) (a n))) ∙ far)

not_left : (v y w x : ℤ) → v ≡ y → is_lt (ordering_then (int_cmp v y) (int_cmp w x)) ≡ false → x ≤ℤ w
not_left v y w x e h = by_lt_z w x
    (λ lt. absurd (let k : true ≡ false = sym (λ n. is_lt (ordering_then (same v y e n) (less w x lt n))) ∙ h in cc))
    (λ le. le)
  where
    less : (x y : ℤ) → x <ℤ y → int_cmp x y ≡ Less
    less x y h = grind (arith, ints)

    same : (x y : ℤ) → x ≡ y → int_cmp x y ≡ Equal
    same x y h = grind (arith, ints)

pub left_sort : (ends : List End) → IsSorted end_cmp ends → LevelsFromLeft ends
left_sort ends up i j e f le p q same =
    let lt : j < length ends = slice_get_within ends j f q in
    let a : get_or ends i e ≡ e = get_or_from_slice_get ends i e e p in
    let b : get_or ends j e ≡ f = get_or_from_slice_get ends j f e q in
    let far : is_lt (end_cmp (get_or ends j e) (get_or ends i e)) ≡ false =
    sorted_far (λ u v. is_lt (end_cmp u v))
    (ranks_by (then_total (on_total (λ (k : End). k.y) int_cmp_total) (on_total (λ (k : End). k.x) int_cmp_total))
    (λ u. u)) ends up i j e le lt in
    not_left f.y e.y f.x e.x (sym same) (sym (λ n. is_lt (end_cmp (b n) (a n))) ∙ far)

-- ---- what is among the levels

abbrev at : ℤ → End → Bool
at v e = int_eq v e.y

or_true : (a b : Bool) → b ≡ true → (a || b) ≡ true
or_true true b e = refl
or_true false b e = e

or_first : (a b : Bool) → a ≡ true → (a || b) ≡ true
or_first true b e = refl
or_first false b e = absurd cc

or_cases : (a b : Bool) → (a || b) ≡ true → (a ≡ true) ⊎ (b ≡ true)
or_cases true b e = inl refl
or_cases false b e = inr e

eq_is : (v : ℤ) → int_eq v v ≡ true
eq_is v = grind (arith, ints)

eq_so : (a b : ℤ) → int_eq a b ≡ true → a ≡ b
eq_so a b e = grind (arith, ints)

some_end : (v : ℤ) (es : List End) → In v (levels_of es) → list_any (at v) es ≡ true
some_end v [] i = absurd i
some_end v (e ∷ es) i = elim (in_placed_cases v e.y (levels_of es) i) [
  | inl h ↦ or_first (int_eq v e.y) (list_any (at v) es) (ap (λ (y : ℤ). int_eq v y) (sym h) ∙ eq_is v)
  | inr h ↦ or_true (int_eq v e.y) (list_any (at v) es) (some_end v es h)
]

in_levels : (v : ℤ) (es : List End) → list_any (at v) es ≡ true → In v (levels_of es)
in_levels v [] h = absurd cc
in_levels v (e ∷ es) h = elim (or_cases (int_eq v e.y) (list_any (at v) es) h) [
  | inl k ↦ subst (λ (y : ℤ). In v (placed y (levels_of es))) (eq_so v e.y k) (in_placed v (levels_of es))
  | inr k ↦ in_still v e.y (levels_of es) (in_levels v es k)
]

-- ---- every point of a ring with a steep edge is an end of one

first_end : (v y z : ℤ) (es : List End) → v ≡ y → list_any (at v) (end y z ∷ es) ≡ true
first_end v y z es e = or_first (int_eq v y) (list_any (at v) es) (ap (λ (k : ℤ). int_eq v k) (sym e) ∙ eq_is v)

later_end : (v : ℤ) (e : End) (es : List End) → list_any (at v) es ≡ true → list_any (at v) (e ∷ es) ≡ true
later_end v e es h = or_true (int_eq v e.y) (list_any (at v) es) h

-- where no edge is steep there is one level
one_level : (v : ℤ) (p : Point) (qs : List Point) → steep (edges_from p qs) ≡ [] → In v (levels (p ∷ qs)) → v ≡ p.y
one_level v p [] none (inl h) = h
one_level v p [] none (inr h) = absurd h
one_level v p (q ∷ qs) none i = turn (int_eq p.y q.y) refl (λ e k. one_level v q qs e k)
  where
    turn : (b : Bool) → int_eq p.y q.y ≡ b → (steep (edges_from q qs) ≡ [] → In v (levels (q ∷ qs)) → v ≡ q.y) → v ≡ p.y
    turn true e rest = elim (in_placed_cases v p.y (levels (q ∷ qs)) i) [
      | inl h ↦ h
      | inr h ↦ rest (sym (steep_level (edge_of p q) (edges_from q qs) e) ∙ none) h ∙ sym (eq_so p.y q.y e)
    ]
    turn false e rest = absurd
        (let h : edge_of p q ∷ steep (edges_from q qs) ≡ [] = sym (steep_edge (edge_of p q) (edges_from q qs) e)
        ∙ none in cc)

points_end : (v : ℤ) (p : Point) (qs : List Point) → In v (levels (p ∷ qs))
    → (list_any (at v) (ends_of (steep (edges_from p qs))) ≡ true) ⊎ (steep (edges_from p qs) ≡ [])
points_end v p [] i = inr refl
points_end v p (q ∷ qs) i = turn (int_eq p.y q.y) refl (λ k. points_end v q qs k)
  where
    level : int_eq p.y q.y ≡ true → In v (levels (q ∷ qs))
    level e = elim (in_placed_cases v p.y (levels (q ∷ qs)) i) [
      | inl h ↦ subst (λ (y : ℤ). In y (levels (q ∷ qs))) (sym (h ∙ eq_so p.y q.y e)) (in_placed q.y (levels qs))
      | inr h ↦ h
    ]

    found : In v (levels (q ∷ qs)) → (list_any (at v) (ends_of (steep (edges_from q qs))) ≡ true)
        ⊎ (steep (edges_from q qs) ≡ []) → list_any (at v)
        (end p.y p.x ∷ end q.y p.x ∷ ends_of (steep (edges_from q qs))) ≡ true
    found k r = elim r [
      | inl h ↦ later_end v (end p.y p.x) (end q.y p.x ∷ ends_of (steep (edges_from q qs)))
          (later_end v (end q.y p.x) (ends_of (steep (edges_from q qs))) h)
      | inr none ↦ later_end v (end p.y p.x) (end q.y p.x ∷ ends_of (steep (edges_from q qs)))
          (first_end v q.y p.x (ends_of (steep (edges_from q qs))) (one_level v q qs none k))
    ]

    turn : (b : Bool) → int_eq p.y q.y ≡ b
        → (In v (levels (q ∷ qs)) → (list_any (at v) (ends_of (steep (edges_from q qs))) ≡ true)
        ⊎ (steep (edges_from q qs) ≡ [])) → (list_any (at v) (ends_of (steep (edges_from p (q ∷ qs)))) ≡ true)
        ⊎ (steep (edges_from p (q ∷ qs)) ≡ [])
    turn true e later = subst (λ (es : List Edge). (list_any (at v) (ends_of es) ≡ true) ⊎ (es ≡ []))
        (sym (steep_level (edge_of p q) (edges_from q qs) e)) (later (level e))
    turn false e later = inl (ap (λ (es : List Edge). list_any (at v) (ends_of es))
        (steep_edge (edge_of p q) (edges_from q qs) e) ∙ elim (in_placed_cases v p.y (levels (q ∷ qs)) i) [
          | inl h ↦ first_end v p.y p.x (end q.y p.x ∷ ends_of (steep (edges_from q qs))) h
          | inr h ↦ found h (later h)
        ])

ends_point : (v : ℤ) (ls : List ℤ) (es : List Edge) → AreAmong ls es → list_any (at v) (ends_of es) ≡ true → In v ls
ends_point v ls [] a h = absurd cc
ends_point v ls (e ∷ es) a h = elim (or_cases (int_eq v e.start) (int_eq v e.stop || list_any (at v) (ends_of es)) h) [
  | inl k ↦ subst (λ (y : ℤ). In y ls) (sym (eq_so v e.start k)) a.0
  | inr k ↦ elim (or_cases (int_eq v e.stop) (list_any (at v) (ends_of es)) k) [
    | inl m ↦ subst (λ (y : ℤ). In y ls) (sym (eq_so v e.stop m)) a.1
    | inr m ↦ ends_point v ls es a.2 m
  ]
]

among_steep : (ls : List ℤ) (es : List Edge) → AreAmong ls es → AreAmong ls (steep es)
among_steep ls [] a = a
among_steep ls (e ∷ es) a = turn (int_eq e.start e.stop) refl (among_steep ls es a.2)
  where
    turn : (b : Bool) → int_eq e.start e.stop ≡ b → AreAmong ls (steep es) → AreAmong ls (steep (e ∷ es))
    turn true is rest = subst (λ (l : List Edge). AreAmong ls l) (sym (steep_level e es is)) rest
    turn false is rest = subst (λ (l : List Edge). AreAmong ls l) (sym (steep_edge e es is)) (a.0, a.1, rest)

levels_same : (p : Point) (qs : List Point) (ends : List End) (e : Edge) (es : List Edge)
    → steep (edges_from p qs) ≡ e ∷ es → IsPermutation (ends_of (steep (edges_from p qs))) ends
    → levels_of ends ≡ levels (p ∷ qs)
levels_same p qs ends e es some perm = same_members (levels_of ends) (levels (p ∷ qs)) (levels_rise ends)
    (levels_rising (p ∷ qs))
    (λ v i. ends_point v (levels (p ∷ qs)) (steep (edges_from p qs))
    (among_steep (levels (p ∷ qs)) (edges_from p qs) (edges_among p qs))
    (list_any-IsPermutation (at v) (ends_of (steep (edges_from p qs))) ends perm ∙ some_end v ends i))
    (λ v i. in_levels v ends (sym (list_any-IsPermutation (at v) (ends_of (steep (edges_from p qs))) ends perm)
    ∙ elim (points_end v p qs i) [
      | inl h ↦ h
      | inr none ↦ absurd (let h : e ∷ es ≡ [] = sym some ∙ none in cc)
    ]))

-- ---- edges along x have no walls

covers_level : (e : Edge) (j : ℤ) → e.start ≡ e.stop → covers e j ≡ false
covers_level e j is = ap (λ (y : ℤ). differ (int_le y j) (int_le e.stop j)) is ∙ same (int_le e.stop j)
  where
    same : (b : Bool) → differ b b ≡ false
    same true = refl
    same false = refl

walls_steep : (es : List Edge) (j : ℤ) → walls (steep es) j ≡ walls es j
walls_steep [] j = refl
walls_steep (e ∷ es) j = turn (int_eq e.start e.stop) refl (walls_steep es j)
  where
    with : (vs ws : List ℤ) (b : Bool) → vs ≡ ws
        → (elim b as (λ (t : Bool). List ℤ) [
          | true ↦ toggled e.x vs
          | false ↦ vs
        ]) ≡ (elim b as (λ (t : Bool). List ℤ) [ true ↦ toggled e.x ws | false ↦ ws ])
    with vs ws b same = ap (λ (l : List ℤ). elim b as (λ (t : Bool). List ℤ) [ true ↦ toggled e.x l | false ↦ l ]) same

    off : (ws : List ℤ) (b : Bool) → b ≡ false
        → ws ≡ (elim b as (λ (t : Bool). List ℤ) [ true ↦ toggled e.x ws | false ↦ ws ])
    off ws true h = absurd cc
    off ws false h = refl

    turn : (b : Bool) → int_eq e.start e.stop ≡ b → walls (steep es) j ≡ walls es j
        → walls (steep (e ∷ es)) j ≡ walls (e ∷ es) j
    turn true is rest = ap (λ (l : List Edge). walls l j) (steep_level e es is) ∙ rest
        ∙ off (walls es j) (covers e j) (covers_level e j (eq_so e.start e.stop is))
    turn false is rest = ap (λ (l : List Edge). walls l j) (steep_edge e es is)
        ∙ with (walls (steep es) j) (walls es j) (covers e j) rest

slabs_from_steep : (es : List Edge) (y : ℤ) (ls : List ℤ) → slabs_from (steep es) y ls ≡ slabs_from es y ls
slabs_from_steep es y [] = refl
slabs_from_steep es y (z ∷ zs) = λ k. between y z (walls_steep es y k) ++ slabs_from_steep es z zs k

slabs_steep : (es : List Edge) (ls : List ℤ) → slabs (steep es) ls ≡ slabs es ls
slabs_steep es [] = refl
slabs_steep es (y ∷ ys) = slabs_from_steep es y ys

none_from : (y : ℤ) (ls : List ℤ) → slabs_from [] y ls ≡ []
none_from y [] = refl
none_from y (z ∷ zs) = none_from z zs

no_slabs : (ls : List ℤ) → slabs [] ls ≡ []
no_slabs [] = refl
no_slabs (y ∷ ys) = none_from y ys

pub swept_cut : (ring : List Point) (ends : List End) (rects : List Rectangle)
    → IsPermutation (ends_of (steep (edges ring))) ends → rects ≡ all_joined []
    (slabs (steep (edges ring)) (levels_of ends)) → rects ≡ ring_cut ring
unfolding ring_cut
swept_cut [] ends rects p e = e ∙ ap (λ (l : List Rectangle). all_joined [] l) (no_slabs (levels_of ends))
swept_cut (q ∷ qs) ends rects p e = e ∙ ap (λ (l : List Rectangle). all_joined [] l)
    (turn (steep (edges_from q qs)) refl ∙ slabs_steep (edges_from q qs) (levels (q ∷ qs)))
  where
    turn : (es : List Edge) → steep (edges_from q qs) ≡ es
        → slabs (steep (edges_from q qs)) (levels_of ends) ≡ slabs (steep (edges_from q qs)) (levels (q ∷ qs))
    turn [] is =
        ap (λ (l : List Edge). slabs l (levels_of ends)) is ∙ no_slabs (levels_of ends)
        ∙ sym (ap (λ (l : List Edge). slabs l (levels (q ∷ qs))) is ∙ no_slabs (levels (q ∷ qs)))
    turn (f ∷ es) is = ap (λ (l : List ℤ). slabs (steep (edges_from q qs)) l) (levels_same q qs ends f es is p)
