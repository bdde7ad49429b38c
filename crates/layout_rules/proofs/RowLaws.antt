-- The rising lower edges of the frames are their rows.
use Rattle.std.proofs.Common.{◌≡◌, ℕ, zero, suc, ◌+◌, ◌<◌, Bool, true, false, cond, ◌&&◌, ◌||◌, List, [], ◌∷◌, length}
use Rattle.std.proofs.Common.{Some, ℤ, refl, sym, ap, subst, ◌∙◌, arith, inl, inr, slice_get, int_lt, not, count_by}
use Rattle.std.specs.List.{list_any}
use Rattle.std.specs.Ordering.{int_eq}
use Rattle.std.proofs.lemmas.Bool.{both_ways, not-true, and_parts, and_from, or_left, or_right, or_cases}
use Rattle.std.proofs.lemmas.Bool.Decides.{Decides-int_eq}
use Rattle.std.proofs.lemmas.List.Sums.{sum_by-cons}
use Rattle.std.proofs.lemmas.Option.{same_Some}
use Rattle.geom.specs.declared.shapes.Shape.{Shape}
use Rattle.layout_rules.specs.Layers.{is_frame}
use Rattle.layout_rules.specs.Rows.{has_edge, lower_edges, row_of, row_count, AreRows}

lt_irrefl : (x : ℤ) → int_lt x x ≡ false
lt_irrefl x = grind arith

lt_asym : (x y : ℤ) → int_lt x y ≡ true → int_lt y x ≡ false
lt_asym x y h = grind arith

eq_lt : (x y : ℤ) → int_lt x y ≡ true → int_eq x y ≡ false
eq_lt x y h = grind arith

eq_refl : (x : ℤ) → int_eq x x ≡ true
eq_refl x = grind arith

eq_flip : (x y : ℤ) → int_eq x y ≡ int_eq y x
eq_flip x y = grind arith

eq_same : (x y : ℤ) → int_eq x y ≡ true → x ≡ y
eq_same x y h = (Decides-int_eq x y).0 h

-- lists of edges without repetition, taken as sets

abbrev has : ℤ → List ℤ → Bool
has y xs = list_any (λ x. int_eq x y) xs

abbrev IsSet : List ℤ → Type 0
IsSet [] = Unit {0}
IsSet (x ∷ xs) = (has x xs ≡ false) × IsSet xs

abbrev without : ℤ → List ℤ → List ℤ
without x [] = []
without x (y ∷ ys) = elim (int_eq y x) [ true ↦ ys | false ↦ y ∷ without x ys ]

without_same : (x y : ℤ) (ys : List ℤ) → int_eq y x ≡ true → without x (y ∷ ys) ≡ ys
without_same x y ys e = rw (e, without) refl

without_other : (x y : ℤ) (ys : List ℤ) → int_eq y x ≡ false → without x (y ∷ ys) ≡ y ∷ without x ys
without_other x y ys e = rw (e, without) refl

abbrev count_one : (ℤ → Bool) → ℤ → ℕ
count_one p x = cond (p x) 1 0

count-cons : (p : ℤ → Bool) (x : ℤ) (xs : List ℤ) → count_by p (x ∷ xs) ≡ count_one p x + count_by p xs
count-cons p x xs = sum_by-cons (λ x. cond (p x) 1 0) x xs

count-without : (p : ℤ → Bool) (x : ℤ) (ys : List ℤ) → has x ys ≡ true
    → count_by p ys ≡ count_one p x + count_by p (without x ys)
count-without p x [] h = absurd (both_ways (has x []) refl h)
count-without p x (y ∷ ys) h = by_test (λ k. count-without p x ys k) (int_eq y x) refl
  where
    by_test : (has x ys ≡ true → count_by p ys ≡ count_one p x + count_by p (without x ys)) → (b : Bool)
        → int_eq y x ≡ b → count_by p (y ∷ ys) ≡ count_one p x + count_by p (without x (y ∷ ys))
    by_test less true e = subst (λ (l : List ℤ). count_by p (y ∷ ys) ≡ count_one p x + count_by p l)
        (sym (without_same x y ys e))
        (subst (λ (z : ℤ). count_by p (y ∷ ys) ≡ count_one p z + count_by p ys) (eq_same y x e) (count-cons p y ys))
    by_test less false e =
        let rest : has x ys ≡ true = rw e at h in
        let step : count_by p ys ≡ count_one p x + count_by p (without x ys) = less rest in
        let all : count_by p (y ∷ ys) ≡ count_one p y + count_by p ys = count-cons p y ys in
        let kept : count_by p (y ∷ without x ys) ≡ count_one p y + count_by p (without x ys) =
        count-cons p y (without x ys) in
        subst (λ (l : List ℤ). count_by p (y ∷ ys) ≡ count_one p x + count_by p l)
        (sym (without_other x y ys e)) (omega arith)

-- what is left has the other elements
has-without : (x z : ℤ) (ys : List ℤ) → int_eq x z ≡ false → has z (without x ys) ≡ has z ys
has-without x z [] e = refl
has-without x z (y ∷ ys) e = by_test (has-without x z ys e) (int_eq y x) refl
  where
    by_test : has z (without x ys) ≡ has z ys → (b : Bool) → int_eq y x ≡ b
        → has z (without x (y ∷ ys)) ≡ has z (y ∷ ys)
    by_test less true h = let k : int_eq y z ≡ false = subst (λ (v : ℤ). int_eq v z ≡ false)
        (sym (eq_same y x h)) e in ap (has z) (without_same x y ys h) ∙ sym (ap (λ (b : Bool). b || has z ys) k)
    by_test less false h = ap (has z) (without_other x y ys h) ∙ ap (λ (b : Bool). int_eq y z || b) less

has-gone : (x : ℤ) (ys : List ℤ) → IsSet ys → has x (without x ys) ≡ false
has-gone x [] set = refl
has-gone x (y ∷ ys) set = by_test (has-gone x ys set.1) (int_eq y x) refl
  where
    by_test : has x (without x ys) ≡ false → (b : Bool) → int_eq y x ≡ b → has x (without x (y ∷ ys)) ≡ false
    by_test less true h = ap (has x) (without_same x y ys h) ∙ subst (λ (v : ℤ). has v ys ≡ false) (eq_same y x h) set.0
    by_test less false h = ap (has x) (without_other x y ys h) ∙ (ap (λ (b : Bool). b || has x (without x ys)) h ∙ less)

IsSet-without : (x : ℤ) (ys : List ℤ) → IsSet ys → IsSet (without x ys)
IsSet-without x [] set = tt
IsSet-without x (y ∷ ys) set = by_test (IsSet-without x ys set.1) (int_eq y x) refl
  where
    by_test : IsSet (without x ys) → (b : Bool) → int_eq y x ≡ b → IsSet (without x (y ∷ ys))
    by_test less true h = subst IsSet (sym (without_same x y ys h)) set.1
    by_test less false h = subst IsSet (sym (without_other x y ys h))
        ((has-without x y ys (eq_flip x y ∙ h) ∙ set.0), less)

-- sets with the same elements have the same counts
same_count : (p : ℤ → Bool) (xs ys : List ℤ) → IsSet xs → IsSet ys → ((z : ℤ) → has z xs ≡ has z ys)
    → count_by p xs ≡ count_by p ys
same_count p [] [] set other same = refl
same_count p [] (y ∷ ys) set other same = absurd (both_ways (has y (y ∷ ys)) (sym (same y)) (rw eq_refl refl))
same_count p (x ∷ xs) ys set other same =
    let there : has x ys ≡ true = sym (same x) ∙ rw eq_refl refl in
    let step : count_by p xs ≡ count_by p (without x ys) = same_count p xs (without x ys) set.1
    (IsSet-without x ys other) (λ z. rest z (int_eq x z) refl) in
    let all : count_by p (x ∷ xs) ≡ count_one p x + count_by p xs = count-cons p x xs in
    let found : count_by p ys ≡ count_one p x + count_by p (without x ys) = count-without p x ys there in
    omega arith
  where
    rest : (z : ℤ) (b : Bool) → int_eq x z ≡ b → has z xs ≡ has z (without x ys)
    rest z true e = subst (λ (v : ℤ). has v xs ≡ has v (without x ys)) (eq_same x z e)
        (set.0 ∙ sym (has-gone x ys other))
    rest z false e = let k : has z xs ≡ has z ys = rw e at (same z) in k ∙ sym (has-without x z ys e)

-- the first of these shapes is a frame whose edge no later one has
abbrev is_new : Shape → List Shape → Bool
is_new s ss = is_frame s && not (has_edge ss s.rect.y0)

edges_new : (s : Shape) (ss : List Shape) → is_new s ss ≡ true → lower_edges (s ∷ ss) ≡ s.rect.y0 ∷ lower_edges ss
edges_new s ss e = rw (e, lower_edges) refl

edges_known : (s : Shape) (ss : List Shape) → is_new s ss ≡ false → lower_edges (s ∷ ss) ≡ lower_edges ss
edges_known s ss e = rw (e, lower_edges) refl

-- the lower edges are those of the frames
has-lower_edges : (shapes : List Shape) (y : ℤ) → has y (lower_edges shapes) ≡ has_edge shapes y
has-lower_edges [] y = refl
has-lower_edges (s ∷ ss) y = by_test (has-lower_edges ss y) (is_frame s) refl (has_edge ss s.rect.y0) refl
  where
    by_edge : (b : Bool) → has_edge ss s.rect.y0 ≡ true → int_eq s.rect.y0 y ≡ b → has_edge ss y ≡ (b || has_edge ss y)
    by_edge true known e = subst (λ (v : ℤ). has_edge ss v ≡ true) (eq_same s.rect.y0 y e) known
    by_edge false known e = refl

    by_test : has y (lower_edges ss) ≡ has_edge ss y → (b : Bool) → is_frame s ≡ b → (c : Bool)
        → has_edge ss s.rect.y0 ≡ c → has y (lower_edges (s ∷ ss)) ≡ has_edge (s ∷ ss) y
    by_test less true frame true known =
        ap (has y) (edges_known s ss (rw (frame, known) refl))
        ∙ (less ∙ (by_edge (int_eq s.rect.y0 y) known refl
        ∙ sym (ap (λ (b : Bool). (b && int_eq s.rect.y0 y) || has_edge ss y) frame)))
    by_test less true frame false new =
        ap (has y) (edges_new s ss (rw (frame, new) refl))
        ∙ (ap (λ (b : Bool). int_eq s.rect.y0 y || b) less
        ∙ sym (ap (λ (b : Bool). (b && int_eq s.rect.y0 y) || has_edge ss y) frame))
    by_test less false frame c known =
        ap (has y) (edges_known s ss (rw frame refl))
        ∙ (less ∙ sym (ap (λ (b : Bool). (b && int_eq s.rect.y0 y) || has_edge ss y) frame))

IsSet-lower_edges : (shapes : List Shape) → IsSet (lower_edges shapes)
IsSet-lower_edges [] = tt
IsSet-lower_edges (s ∷ ss) = by_test (IsSet-lower_edges ss) (is_new s ss) refl
  where
    by_test : IsSet (lower_edges ss) → (b : Bool) → is_new s ss ≡ b → IsSet (lower_edges (s ∷ ss))
    by_test less true new = subst IsSet (sym (edges_new s ss new)) (
      has-lower_edges ss s.rect.y0
          ∙ not-true (has_edge ss s.rect.y0) (and_parts (is_frame s) (not (has_edge ss s.rect.y0)) new).1,
      less,
    )
    by_test less false known = subst IsSet (sym (edges_known s ss known)) less

-- rising numbers, by their places
abbrev Rises : List ℤ → Type 0
Rises edges = (i j : ℕ) (y z : ℤ) → slice_get edges i ≡ Some y → slice_get edges j ≡ Some z → i < j → int_lt y z ≡ true

Rises-tail : (e : ℤ) (edges : List ℤ) → Rises (e ∷ edges) → Rises edges
Rises-tail e edges r i j y z p q h = r (suc i) (suc j) y z p q (omega arith)

-- a first number that is below all others is not among them, and none of them is below it
not_among : (e : ℤ) (edges : List ℤ)
    → ((j : ℕ) (z : ℤ) → slice_get edges j ≡ Some z → int_lt e z ≡ true) → has e edges ≡ false
not_among e [] h = refl
not_among e (x ∷ xs) h =
    let k : int_eq x e ≡ false = eq_flip x e ∙ eq_lt e x (h 0 x refl) in
    let less : has e xs ≡ false = not_among e xs (λ j z p. h (suc j) z p) in
    ap (λ (b : Bool). b || has e xs) k ∙ less

none_below : (e : ℤ) (edges : List ℤ) → ((j : ℕ) (z : ℤ) → slice_get edges j ≡ Some z → int_lt e z ≡ true)
    → count_by (λ x. int_lt x e) edges ≡ 0
none_below e [] h = refl
none_below e (x ∷ xs) h =
    let k : int_lt x e ≡ false = lt_asym e x (h 0 x refl) in
    let less : count_by (λ x. int_lt x e) xs ≡ 0 = none_below e xs (λ j z p. h (suc j) z p) in
    count-cons (λ x. int_lt x e) x xs ∙ rw (k, less) refl

IsSet-rising : (edges : List ℤ) → Rises edges → IsSet edges
IsSet-rising [] r = tt
IsSet-rising (e ∷ edges) r =
    (not_among e edges (λ j z p. r 0 (suc j) e z refl p (omega arith)), IsSet-rising edges (Rises-tail e edges r))

-- as many are below a number as its place says
count-rising : (edges : List ℤ) → Rises edges → (r : ℕ) (y : ℤ) → slice_get edges r ≡ Some y
    → count_by (λ x. int_lt x y) edges ≡ r
count-rising [] rises r y p = absurd cc
count-rising (e ∷ edges) rises zero y p =
    let same : e ≡ y = same_Some e y p in
    subst (λ (v : ℤ). count_by (λ x. int_lt x v) (e ∷ edges) ≡ 0) same
    (count-cons (λ x. int_lt x e) e edges
    ∙ rw (lt_irrefl e, none_below e edges (λ j z q. rises 0 (suc j) e z refl q (omega arith))) refl)
count-rising (e ∷ edges) rises (suc r) y p =
    let below : int_lt e y ≡ true = rises 0 (suc r) e y refl p (omega arith) in
    let less : count_by (λ x. int_lt x y) edges ≡ r = count-rising edges (Rises-tail e edges rises) r y p in
    count-cons (λ x. int_lt x y) e edges ∙ rw (below, less) (omega arith)

-- a number is among others exactly where it has a place
has_at : (edges : List ℤ) (r : ℕ) (y : ℤ) → slice_get edges r ≡ Some y → has y edges ≡ true
has_at [] r y p = absurd cc
has_at (e ∷ edges) zero y p = ap (λ (b : Bool). b || has y edges)
    (subst (λ (v : ℤ). int_eq v y ≡ true) (sym (same_Some e y p)) (eq_refl y))
has_at (e ∷ edges) (suc r) y p = or_right (int_eq e y) (has y edges) (has_at edges r y p)

place_of : (edges : List ℤ) (y : ℤ) → has y edges ≡ true → (r : ℕ) × (slice_get edges r ≡ Some y)
place_of [] y h = absurd (both_ways (has y []) refl h)
place_of (e ∷ edges) y h = elim (or_cases (int_eq e y) (has y edges) h) [
  | inl here ↦ (0, ap Some (eq_same e y here))
  | inr later ↦ let rest : (r : ℕ) × (slice_get edges r ≡ Some y) = place_of edges y later in (suc rest.0, rest.1)
]

has_edge_at : (shapes : List Shape) (f : ℕ) (frame : Shape) → slice_get shapes f ≡ Some frame → is_frame frame ≡ true
    → has_edge shapes frame.rect.y0 ≡ true
has_edge_at [] f frame p e = absurd cc
has_edge_at (s ∷ ss) zero frame p e =
    let same : s ≡ frame = same_Some s frame p in
    or_left (is_frame s && int_eq s.rect.y0 frame.rect.y0) (has_edge ss frame.rect.y0)
    (and_from (is_frame s) (int_eq s.rect.y0 frame.rect.y0) (ap is_frame same ∙ e)
    (ap (λ (v : Shape). int_eq v.rect.y0 frame.rect.y0) same ∙ eq_refl frame.rect.y0))
has_edge_at (s ∷ ss) (suc f) frame p e = or_right (is_frame s && int_eq s.rect.y0 frame.rect.y0)
    (has_edge ss frame.rect.y0) (has_edge_at ss f frame p e)

frame_with_edge : (shapes : List Shape) (y : ℤ) → has_edge shapes y ≡ true → (f : ℕ) × (frame : Shape)
    × (slice_get shapes f ≡ Some frame) × (is_frame frame ≡ true) × (frame.rect.y0 ≡ y)
frame_with_edge [] y h = absurd (both_ways (has_edge [] y) refl h)
frame_with_edge (s ∷ ss) y h = elim (or_cases (is_frame s && int_eq s.rect.y0 y) (has_edge ss y) h) [
  | inl here ↦ let both : (is_frame s ≡ true)
      × (int_eq s.rect.y0 y ≡ true) = and_parts (is_frame s) (int_eq s.rect.y0 y) here in
      (0, s, refl, both.0, eq_same s.rect.y0 y both.1)
  | inr later ↦ let rest : (f : ℕ) × (frame : Shape) × (slice_get ss f ≡ Some frame) × (is_frame frame ≡ true)
      × (frame.rect.y0 ≡ y) = frame_with_edge ss y later in (suc rest.0, rest.1, rest.2, rest.3, rest.4)
]

-- the edges that a certificate lists are those of the frames
has-certified : (shapes : List Shape) (edges : List ℤ) → AreRows shapes edges → (z : ℤ)
    → has z (lower_edges shapes) ≡ has z edges
has-certified shapes edges rows z = by_test (has_edge shapes z) refl (has z edges) refl
  where
    by_test : (b : Bool) → has_edge shapes z ≡ b → (c : Bool) → has z edges ≡ c
        → has z (lower_edges shapes) ≡ has z edges
    by_test true p true q = has-lower_edges shapes z ∙ (p ∙ sym q)
    by_test false p false q = has-lower_edges shapes z ∙ (p ∙ sym q)
    by_test true p false q = absurd (
        let f : (f : ℕ) × (frame : Shape) × (slice_get shapes f ≡ Some frame) × (is_frame frame ≡ true)
        × (frame.rect.y0 ≡ z) = frame_with_edge shapes z p in
        let r : (r : ℕ) × (slice_get edges r ≡ Some f.1.rect.y0) = rows.each f.0 f.1 f.2 f.3 in
        both_ways (has z edges) q (subst (λ (v : ℤ). has v edges ≡ true) f.4 (has_at edges r.0 f.1.rect.y0 r.1))
        )
    by_test false p true q = absurd (
        let r : (r : ℕ) × (slice_get edges r ≡ Some z) = place_of edges z q in
        let f : (f : ℕ) × (frame : Shape) × (slice_get shapes f ≡ Some frame) × (is_frame frame ≡ true)
        × (frame.rect.y0 ≡ z) = rows.only r.0 z r.1 in
        both_ways (has_edge shapes z) p
        (subst (λ (v : ℤ). has_edge shapes v ≡ true) f.4 (has_edge_at shapes f.0 f.1 f.2 f.3))
        )

-- the row of a frame is the place of its lower edge among the rising edges
pub row_of-certified : (shapes : List Shape) (edges : List ℤ) → AreRows shapes edges → (r : ℕ) (y : ℤ)
    → slice_get edges r ≡ Some y → row_of shapes y ≡ r
row_of-certified shapes edges rows r y p =
    same_count (λ x. int_lt x y) (lower_edges shapes) edges (IsSet-lower_edges shapes) (IsSet-rising edges rows.rising)
    (has-certified shapes edges rows) ∙ count-rising edges rows.rising r y p

count_all : (xs : List ℤ) → count_by (λ x. true) xs ≡ length xs
count_all [] = refl
count_all (x ∷ xs) = count-cons (λ x. true) x xs ∙ rw (count_all xs) (omega arith)

-- and there are as many rows as edges
pub row_count-certified : (shapes : List Shape) (edges : List ℤ) → AreRows shapes edges
    → row_count shapes ≡ length edges
row_count-certified shapes edges rows =
    sym (count_all (lower_edges shapes))
    ∙ (same_count (λ x. true) (lower_edges shapes) edges (IsSet-lower_edges shapes) (IsSet-rising edges rows.rising)
    (has-certified shapes edges rows) ∙ count_all edges)
