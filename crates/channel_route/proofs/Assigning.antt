-- Tracks assigned so far.
use Rattle.std.proofs.Common.{◌≡◌, ℕ, zero, suc, ◌+◌, ◌<◌, ◌≤◌, ◌^◌, true, false, cond, eqb, leb, List, [], ◌∷◌, ◌++◌}
use Rattle.std.proofs.Common.{length, get_or, set, take, drop, refl, sym, ap, subst, ◌∙◌, inl, inr, arith}
use Rattle.std.specs.List.{All}
use Rattle.std.proofs.lemmas.Bool.{cases_lt, cases_eq, eq-eqb, ne_eqb, eqb-true, eqb-false, le-leb}
use Rattle.std.proofs.lemmas.List.{take_more, get_or-set_same, get_or-set_other, length-set, get_or_default}
use Rattle.rowed.specs.declared.wire.Wire.{Wire}
use Rattle.sorting.specs.Sorting.{Rising, EachPair}
use Rattle.sorting.proofs.SortingLaws.{pair_at, passing-cons}
use Rattle.channel_route.specs.declared.order.Numbered.{Numbered}
use Rattle.channel_route.specs.Code.Numbered.{low_of}
use Rattle.channel_route.specs.Crossing.{low, high, crosses, crossing, IsOver}
use Rattle.channel_route.specs.Tracks.{lowest_free, ends_after, tracks, last_ends, last_column}
use Rattle.channel_route.specs.Code.Assigned.{wires_of, HaveTracks}
use Rattle.channel_route.proofs.Minima.{lowest_le}
use Rattle.channel_route.proofs.Density.{held, one, held-after, crossing-cons, crossing-before, after-adds, most_held}

pub record Assigning (ones : List Numbered) (capacity i : ℕ) (track ends : List ℕ) (column : ℕ) : Type 0 where
  pub one_each : length track ≡ length ones
  pub placed : HaveTracks ones track i
  pub ends_are : ends ≡ last_ends [] (wires_of (take i ones))
  pub column_is : column ≡ last_column [] 0 (wires_of (take i ones))
  pub within : length ends ≤ capacity
  pub few : length ends ≤ i

-- one wire more
last_ends-push : (es : List ℕ) (ws : List Wire) (w : Wire)
    → last_ends es (ws ++ w ∷ []) ≡ ends_after (low w) (high w) (last_ends es ws)
last_ends-push es [] w = refl
last_ends-push es (v ∷ ws) w = last_ends-push (ends_after (low v) (high v) es) ws w

last_column-push : (es : List ℕ) (c : ℕ) (ws : List Wire) (w : Wire)
    → last_column es c (ws ++ w ∷ []) ≡ cond (eqb (lowest_free (low w) (last_ends es ws)) (length (last_ends es ws)))
    (low w) (last_column es c ws)
last_column-push es c [] w = refl
last_column-push es c (v ∷ ws) w = last_column-push (ends_after (low v) (high v) es)
    (cond (eqb (lowest_free (low v) es) (length es)) (low v) c) ws w

wires-push : (ones : List Numbered) (one : Numbered) → wires_of (ones ++ one ∷ []) ≡ wires_of ones ++ one.wire ∷ []
wires-push [] one = refl
wires-push (v ∷ ones) one = ap (λ (l : List Wire). v.wire ∷ l) (wires-push ones one)

wires_more : (ones : List Numbered) (i : ℕ) (d : Numbered) → i < length ones
    → wires_of (take (i + 1) ones) ≡ wires_of (take i ones) ++ (get_or ones i d).wire ∷ []
wires_more ones i d lt = ap wires_of (take_more ones i d lt) ∙ wires-push (take i ones) (get_or ones i d)

track_at_place : (es : List ℕ) (ones : List Numbered) (i : ℕ) (d : Numbered) → i < length ones
    → get_or (tracks es (wires_of ones)) i 0 ≡ lowest_free (low (get_or ones i d).wire)
    (last_ends es (wires_of (take i ones)))
track_at_place es [] i d lt = absurd (omega arith)
track_at_place es (v ∷ ones) zero d lt = refl
track_at_place es (v ∷ ones) (suc i) d lt =
    track_at_place (ends_after (low v.wire) (high v.wire) es) ones i d (omega arith)

after_length : (l h : ℕ) (es : List ℕ) → length (ends_after l h es) ≤ length es + 1
after_length l h es = elim (after-adds l h es) [ inl same ↦ omega (arith, same.0) | inr more ↦ omega (arith, more.0) ]

-- the wire whose turn it is: what was assigned before, the wire's ends, the track that it takes, and how far the tracks
-- reach then
pub record Turn : Type 0 where
  pub ones : List Numbered
  pub capacity : ℕ
  pub place : ℕ
  pub track : List ℕ
  pub ends : List ℕ
  pub column : ℕ
  pub one : Numbered
  pub lower : ℕ
  pub taken : ℕ
  pub within : place < length ones
  pub assigned : Assigning ones capacity place track ends column
  pub lower_is : lower ≡ low (get_or ones place one).wire
  pub taken_is : taken ≡ lowest_free lower ends

abbrev pub turn_of : {ones : List Numbered} {capacity place : ℕ} {track ends : List ℕ} {column lower taken : ℕ}
    (one : Numbered) → place < length ones → Assigning ones capacity place track ends column
    → lower ≡ low (get_or ones place one).wire → taken ≡ lowest_free lower ends → Turn
turn_of {ones} {capacity} {place} {track} {ends} {column} {lower} {taken} one within assigned lower_is taken_is =
    record {
      ones = ones;
      capacity = capacity;
      place = place;
      track = track;
      ends = ends;
      column = column;
      one = one;
      lower = lower;
      taken = taken;
      within = within;
      assigned = assigned;
      lower_is = lower_is;
      taken_is = taken_is;
    }

-- the wire, and the wires before it
abbrev own : Turn → Numbered
own x = get_or x.ones x.place x.one

abbrev before : Turn → List Wire
before x = wires_of (take x.place x.ones)

-- the track is the plan's
taken_here : (x : Turn) → x.taken ≡ get_or (tracks [] (wires_of x.ones)) x.place 0
taken_here x = x.taken_is ∙ ap (λ (n : ℕ). lowest_free n x.ends) x.lower_is
    ∙ ap (lowest_free (low (own x).wire)) x.assigned.ends_are ∙ sym (track_at_place [] x.ones x.place x.one x.within)

-- the wire is assigned its track: one more column is the last in which a track was begun, or none
pub assigned_more : (x : Turn) {higher : ℕ} {ends : List ℕ} {column : ℕ}
    → EachPair (λ v w. v.number ≡ w.number → ⊥) x.ones → All (λ one. one.number < length x.ones) x.ones
    → higher ≡ high (own x).wire → ends ≡ ends_after x.lower higher x.ends
    → (x.taken ≡ length x.ends → length x.ends < x.capacity)
    → column ≡ cond (eqb x.taken (length x.ends)) x.lower x.column
    → Assigning x.ones x.capacity (x.place + 1) (set x.track (own x).number x.taken) ends column
assigned_more x {higher} {ends} {column} apart below h e room c = record {
  one_each = length-set x.track (own x).number x.taken ∙ a.one_each;
  placed = λ k d lk. elim (cases_eq k x.place) [
    | inl same ↦
        let n : (get_or x.ones k d).number ≡ (own x).number = ap (λ (j : ℕ). (get_or x.ones j d).number) same
        ∙ ap (λ (one : Numbered). one.number) (get_or_default x.ones x.place d x.one x.within) in
        ap (λ (j : ℕ). get_or (set x.track (own x).number x.taken) j 0) n
        ∙ get_or-set_same x.track (own x).number x.taken 0 (omega (arith, below x.place x.one x.within, a.one_each))
        ∙ taken_here x ∙ ap (λ (j : ℕ). get_or (tracks [] (wires_of x.ones)) j 0) (sym same)
    | inr other ↦
        let less : k < x.place = elim (cases_lt k x.place) [ inl l ↦ l | inr g ↦ absurd (other (omega arith)) ] in
        let ne : (get_or x.ones k d).number ≡ (own x).number → ⊥ =
        λ q. pair_at (λ v w. v.number ≡ w.number → ⊥) x.ones apart k x.place d less x.within
        (q ∙ ap (λ (one : Numbered). one.number) (get_or_default x.ones x.place x.one d x.within)) in
        get_or-set_other x.track (own x).number (get_or x.ones k d).number x.taken 0 ne ∙ a.placed k d less
  ];
  ends_are = same_ends ∙ ap (ends_after (low (own x).wire) (high (own x).wire)) a.ends_are
      ∙ sym (last_ends-push [] (before x) (own x).wire)
      ∙ ap (last_ends []) (sym (wires_more x.ones x.place x.one x.within));
  column_is = c ∙ columns ∙ sym (last_column-push [] 0 (before x) (own x).wire)
      ∙ ap (last_column [] 0) (sym (wires_more x.ones x.place x.one x.within));
  within = elim (after-adds x.lower higher x.ends) [
    | inl same ↦ omega (arith, same.0, a.within, ap (λ (l : List ℕ). length l) e)
    | inr more ↦
        let less = room (x.taken_is ∙ eqb-true (lowest_free x.lower x.ends) (length x.ends) more.2) in
        omega (arith, more.0, less, ap (λ (l : List ℕ). length l) e)
  ];
  few = omega (arith, a.few, ap (λ (l : List ℕ). length l) e, after_length x.lower higher x.ends);
}
  where
    a : Assigning x.ones x.capacity x.place x.track x.ends x.column
    a = x.assigned

    same_ends : ends ≡ ends_after (low (own x).wire) (high (own x).wire) x.ends
    same_ends = e ∙ rw (x.lower_is, h) refl

    columns : cond (eqb x.taken (length x.ends)) x.lower x.column ≡ cond
        (eqb (lowest_free (low (own x).wire) (last_ends [] (before x))) (length (last_ends [] (before x))))
        (low (own x).wire) (last_column [] 0 (before x))
    columns = rw (x.taken_is, x.lower_is, x.assigned.column_is, x.assigned.ends_are) refl

-- the same at what the code holds: the branch that adds a track, and the one that doesn't
pub more_added : (x : Turn) {used higher : ℕ} {ends : List ℕ} {column : ℕ}
    → EachPair (λ v w. v.number ≡ w.number → ⊥) x.ones → All (λ one. one.number < length x.ones) x.ones
    → higher ≡ high (own x).wire → ends ≡ ends_after x.lower higher x.ends
    → used ≡ length x.ends → x.taken ≡ used → (used ≡ x.capacity → ⊥) → column ≡ x.lower
    → Assigning x.ones x.capacity (x.place + 1) (set x.track (own x).number x.taken) ends column
more_added x {used} apart below h e u same room c =
    let new : eqb x.taken (length x.ends) ≡ true = eq-eqb x.taken (length x.ends) (same ∙ u) in
    assigned_more x apart below h e
    (λ q. elim (cases_eq used x.capacity) [ inl full ↦ absurd (room full) | inr less ↦ strict less ]) (rw new c)
  where
    strict : (used ≡ x.capacity → ⊥) → length x.ends < x.capacity
    strict n = elim (cases_lt (length x.ends) x.capacity)
        [ inl less ↦ less | inr ge ↦ absurd (n (omega (arith, x.assigned.within, u))) ]

pub more_kept : (x : Turn) {used higher : ℕ} {ends : List ℕ} {column : ℕ}
    → EachPair (λ v w. v.number ≡ w.number → ⊥) x.ones → All (λ one. one.number < length x.ones) x.ones
    → higher ≡ high (own x).wire → ends ≡ ends_after x.lower higher x.ends
    → used ≡ length x.ends → (x.taken ≡ used → ⊥) → column ≡ x.column
    → Assigning x.ones x.capacity (x.place + 1) (set x.track (own x).number x.taken) ends column
more_kept x apart below h e u other c =
    let old : eqb x.taken (length x.ends) ≡ false = ne_eqb x.taken (length x.ends) (λ q. other (q ∙ sym u)) in
    assigned_more x apart below h e (λ q. absurd (other (q ∙ sym u))) (rw old c)

pub taken_small : (x : Turn) → length x.ones < 2 ^ 32 → x.taken < 2 ^ 32
taken_small x few =
    let lt = x.within in omega (arith, lt, x.taken_is, lowest_le x.lower x.ends, x.assigned.few)

-- where no track is left, the wire's lower end is the first column that too many cross
rising_rest : (b : ℕ) (front : List Wire) (w : Wire) (rest : List Wire) → Rising low b (front ++ w ∷ rest)
    → (Rising low (low w + 1) rest) × (Rising low b front) × (b ≤ low w)
rising_rest b [] w rest r = (r.1, tt, r.0)
rising_rest b (v ∷ front) w rest r = let h = rising_rest (low v + 1) front w rest r.1 in
    (h.0, (r.0, h.1), omega (arith, r.0, h.2))

-- all the wires before it begin before it, so that those held there cross it
held_crosses : (x b : ℕ) (es : List ℕ) (front : List Wire) (w : Wire) (rest : List Wire)
    → Rising low b (front ++ w ∷ rest) → x ≡ low w → held x es + length (crossing x front) ≡ held x (last_ends es front)
held_crosses x b es [] w rest r e = omega arith
held_crosses x b es (v ∷ front) w rest r e =
    let le : low v ≤ x = omega (arith, e, (rising_rest (low v + 1) front w rest r.1).2) in
    omega (
      arith,
      crossing-cons x v front le,
      held-after x (low v) (high v) es le,
      held_crosses x (low v + 1)
          (ends_after (low v) (high v) es) front w rest r.1 e,
    )

crossing-append : (x : ℕ) (xs ys : List Wire)
    → length (crossing x (xs ++ ys)) ≡ length (crossing x xs) + length (crossing x ys)
crossing-append x [] ys = omega arith
crossing-append x (w ∷ xs) ys = omega (
  arith,
  passing-cons (crosses x) w (xs ++ ys),
  passing-cons (crosses x) w xs,
  crossing-append x xs ys,
)

over_at : (front rest : List Wire) (w : Wire) (capacity : ℕ) → Rising low 0 (front ++ w ∷ rest)
    → length (last_ends [] front) ≡ capacity → lowest_free (low w) (last_ends [] front) ≡ length (last_ends [] front)
    → IsOver (front ++ w ∷ rest) capacity (low w)
over_at front rest w capacity r full none = record {
  over = elim (after-adds (low w) (high w) (last_ends [] front)) [
    | inl same ↦ absurd (eqb-false (lowest_free (low w) (last_ends [] front)) (length (last_ends [] front)) same.1 none)
    | inr added ↦
        let here : leb (low w) (high w) ≡ true = le-leb (low w) (high w) (omega arith) in
        let first : length (crossing (low w) (w ∷ rest)) ≡ 1 + length (crossing (low w) rest) =
        crossing-cons (low w) w rest (omega arith) ∙ rw here refl in
        omega (
          arith,
          full,
          added.1,
          first,
          crossing-append (low w) front (w ∷ rest),
          held_crosses (low w) 0 [] front w
              rest r refl,
        )
  ];
  least = λ x over. elim (cases_lt x (low w)) [
    | inr ge ↦ ge
    | inl before ↦
        let parts = rising_rest 0 front w rest r in
        let none : length (crossing x (w ∷ rest)) ≡ 0 =
        ap (λ (l : List Wire). length l) (crossing-before x (low w) (w ∷ rest) (omega arith, parts.0) before) in
        absurd (omega (arith, over, none, full, crossing-append x front (w ∷ rest), most_held [] 0 front parts.1 x))
  ];
}

wires_split : (ones : List Numbered) (i : ℕ) (d : Numbered) → i < length ones
    → wires_of ones ≡ wires_of (take i ones) ++ (get_or ones i d).wire ∷ wires_of (drop (suc i) ones)
wires_split [] i d lt = absurd (omega arith)
wires_split (v ∷ ones) zero d lt = refl
wires_split (v ∷ ones) (suc i) d lt = ap (λ (l : List Wire). v.wire ∷ l) (wires_split ones i d (omega arith))

rising_wires : (b : ℕ) (ones : List Numbered) → Rising low_of b ones → Rising low b (wires_of ones)
rising_wires b [] r = tt
rising_wires b (v ∷ ones) r = (r.0, rising_wires (low_of v + 1) ones r.1)

pub full_at : (x : Turn) {used : ℕ} → Rising low_of 0 x.ones → used ≡ length x.ends → x.taken ≡ used → used ≡ x.capacity
    → IsOver (wires_of x.ones) x.capacity x.lower
full_at x r u same full =
    let split = wires_split x.ones x.place x.one x.within in
    let rising = subst (λ (ws : List Wire). Rising low 0 ws) split (rising_wires 0 x.ones r) in
    let ends_length : length (last_ends [] (before x)) ≡ length x.ends =
    ap (λ (es : List ℕ). length es) (sym x.assigned.ends_are) in
    let free : lowest_free (low (own x).wire) (last_ends [] (before x)) ≡ x.taken =
    rw (← x.assigned.ends_are, ← x.lower_is) (sym x.taken_is) in
    let over = over_at (before x) (wires_of (drop (suc x.place) x.ones)) (own x).wire x.capacity rising
    (omega (arith, ends_length, u, full)) (omega (arith, free, ends_length, u, same)) in
    rw (x.lower_is, split) over
