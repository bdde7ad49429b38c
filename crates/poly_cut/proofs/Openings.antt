-- Rectangles that begin at a level, pair of walls by pair.
use Rattle.std.proofs.Common.{◌≡◌, ◌⊎◌, ℕ, zero, suc, ◌+◌, ◌-◌, ◌/◌, ◌<◌, ◌≤◌, ℤ, ◌<ℤ◌, ◌≤ℤ◌, List, [], ◌∷◌, ◌++◌, Bool}
use Rattle.std.proofs.Common.{true, false, map, length, drop, cond, Some, None, refl, sym, ap, subst, ◌∙◌, arith, inl}
use Rattle.std.proofs.Common.{inr}
use Rattle.std.specs.Prelude.{slice_get, slice_set}
use Rattle.std.specs.Ordering.{int_cmp, is_eq}
use Rattle.std.specs.BTreeMap.{BTreeMap}
use Rattle.std.proofs.lemmas.Int.{ints, by_lt_z}
use Rattle.std.proofs.lemmas.List.{length-append}
use Rattle.std.proofs.lemmas.Option.{same_Some, slice_get_within, slice_get-get_or}
use Rattle.geom.specs.Rectangle.{Rectangle, IsProper}
use Rattle.poly_cut.specs.declared.ends.End.{End}
use Rattle.poly_cut.specs.declared.slabs.Stack.{Stack}
use Rattle.poly_cut.specs.declared.windows.Level.{Level}
use Rattle.poly_cut.specs.Cuts.{box, stands_on, between, joined, all_joined}
use Rattle.poly_cut.specs.Code.Sweeping.{Rising, ReachesUp, InSlab, last_at}
use Rattle.poly_cut.specs.Code.Sweeping as sweeping
use Rattle.poly_cut.specs.Code.Levels.{cut_off, seen, IsPair, IsCut, IsOpen, FromLeft, Clear, Past, Standing, IsHigh}
use Rattle.poly_cut.specs.Code.Levels.{Goes, Begins, Opening, Whole, Behind, OffFrom, Risen, BeginBelow}
use Rattle.poly_cut.proofs.Places.{set_cases, set_length, set_same, set_got, set_other, push_cases, push_got, push_last}
use Rattle.poly_cut.proofs.Places.{got_map, map_got, map_length, same_map, set_map, push_map}
use Rattle.poly_cut.proofs.Seen.{cut_low, cut_high, seen_left, seen_right, seen_low}
use Rattle.poly_cut.proofs.Spans.{got_less}
use Rattle.poly_cut.proofs.Endings.{by_place, one_pair, pair_left}
use Rattle.poly_cut.proofs.OffWindows.{clear_all, clear_end, clear_left, drop_left, drop_first, past_off}
use Rattle.poly_cut.proofs.Stacking.{joined_there, slab_there, joined_last, slab_last, level_so, left_so, right_so}
use Rattle.poly_cut.proofs.Stacking.{stands_is}
use Rattle.poly_cut.proofs.Intervals.{cut_exists, pair_drop, pair_there, none_left}

by_equal : {P : Type 0} (x y : ℤ) → (x ≡ y → P) → ((x ≡ y → ⊥) → P) → P
by_equal x y f g = by_lt_z x y (λ lt. g (λ e. omega (arith, ints, e, lt)))
    (λ le. by_lt_z y x (λ lt. g (λ e. omega (arith, ints, e, lt))) (λ ge. f (equal x y ge le)))
  where
    equal : (x y : ℤ) → x ≤ℤ y → y ≤ℤ x → x ≡ y
    equal x y h k = grind (arith, ints)

-- ---- a rectangle goes on or begins

-- a slab that is begun: the ends at its level, the walls above it, the level and the top
pub record Slab : Type 0 where
  pub ends : List End
  pub walls : List ℤ
  pub level : Level
  pub rising : Rising walls
  pub high : level.y <ℤ level.top

abbrev pub slab_of : (ends : List End) (walls : List ℤ) (level : Level) → Rising walls → level.y <ℤ level.top → Slab
slab_of ends walls level rising high =
    record { ends = ends; walls = walls; level = level; rising = rising; high = high }

abbrev pub Opens : Slab → ℕ → Stack → Type 0
Opens s h stack = Opening h s.ends s.walls s.level.y s.level.top stack.rects stack.last

-- the next pair of walls, with the rectangles of those before it
record NextPair : Type 0 where
  slab : Slab
  stack : Stack
  number : ℕ
  left : ℤ
  right : ℤ
  at : Opens slab number stack
  pair : IsPair slab.walls number left right

-- from h pairs to so many, with the rectangles that are joined meanwhile
pub record Advances (h n : ℕ) (ends : List End) (walls : List ℤ) (level : Level) (old now : Stack) : Type 0 where
  pub opening : Opening n ends walls level.y level.top now.rects now.last
  pub whole : (whole : ℤ → List Rectangle) → Whole h walls level.y level.top old.rects whole
      → Whole n walls level.y level.top now.rects whole

abbrev pub AdvancesIn : Slab → ℕ → ℕ → Stack → Stack → Type 0
AdvancesIn s h n old now = Advances h n s.ends s.walls s.level old now

-- ---- what is kept, and what is seen

module _ (next : NextPair) where
  open next use {slab.{ends, walls, level.{y, top}, rising as up}, stack.{rects, last}}
  open next use {number as h, left as a, right as b, at, pair}

  abbrev GoesOn : Stack → Type 0
  GoesOn new = Goes rects last (box a y b top) new.rects new.last

  abbrev BeginsAt : Stack → Type 0
  BeginsAt new = Begins rects last (box a y b top) new.rects new.last

  -- at a place there is a new rectangle of the pair, which was begun last at its left wall; all else is as it was
  record Puts (new : Stack) : Type 0 where
    place : ℕ
    whole : Rectangle
    got : slice_get new.rects place ≡ Some whole
    left : whole.x0 ≡ a
    right : whole.x1 ≡ b
    high : whole.y1 ≡ top
    low : whole.y0 ≤ℤ y
    cases : (n : ℕ) (r : Rectangle) → slice_get new.rects n ≡ Some r → (slice_get rects n ≡ Some r)
        ⊎ ((n ≡ place) × (whole ≡ r))
    kept : (n : ℕ) (r : Rectangle) → slice_get rects n ≡ Some r → (r.x0 ≡ a → ⊥) → slice_get new.rects n ≡ Some r
    here : last_at new.last a ≡ Some place
    other : (x : ℤ) → (x ≡ a → ⊥) → last_at new.last x ≡ last_at last x
    longer : length rects ≤ length new.rects
    old_there : (r : Rectangle) → slice_get rects place ≡ Some r → r.x0 ≡ a
    same : (n : ℕ) (r : Rectangle) → slice_get rects n ≡ Some r → y <ℤ r.y1 → r.x0 ≡ a
        → last_at last r.x0 ≡ Some n → place ≡ n

  wide : a <ℤ b
  wide = got_less walls (h + h) (suc (h + h)) a b up (omega arith) pair.first pair.second

  cut_here : IsCut walls h a
  cut_here = record {
    right = λ k w lt e. got_less walls k (h + h) w a up lt e pair.first;
    left = λ k w le e. by_place (h + h) k
        (λ lt. (let m : a <ℤ w = got_less walls (h + h) k a w up lt pair.first e in omega (arith, ints, m)))
        (λ q.
        (let m : a ≡ w = same_Some a w (sym pair.first ∙ ap (λ (n : ℕ). slice_get walls n) q ∙ e) in
        omega (arith, ints, m)))
        (λ gt. absurd (omega (arith, le, gt)));
  }

  goes_puts : (new : Stack) → GoesOn new → Puts new
  goes_puts new g = record {
    place = g.place;
    whole = whole;
    got = got;
    left = g.left;
    right = g.right;
    high = refl;
    low = at.low g.place g.rect g.there;
    cases = λ n r e. set_cases rects g.place whole r n
        (ap (λ (l : List Rectangle). slice_get l n) (sym g.rects_are) ∙ e);
    kept = λ n r e ne.
        ap (λ (l : List Rectangle). slice_get l n) g.rects_are
        ∙ set_other rects g.place n whole
        (λ q. ne
        (ap (λ (k : Rectangle). k.x0) (same_Some r g.rect (sym e ∙ ap (λ (k : ℕ). slice_get rects k) q ∙ g.there))
        ∙ g.left))
        ∙ e;
    here = g.last_is a ∙ g.found;
    other = λ x ne. g.last_is x;
    longer = omega (arith, ap length g.rects_are, set_length rects g.place whole);
    old_there = λ r e. ap (λ (k : Rectangle). k.x0) (same_Some r g.rect (sym e ∙ g.there)) ∙ g.left;
    same = λ n r e hi x f. same_Some g.place n (sym g.found ∙ ap (λ (v : ℤ). last_at last v) (sym x) ∙ f);
  }
    where
      whole : Rectangle
      whole = box g.rect.x0 g.rect.y0 g.rect.x1 top

      got : slice_get new.rects g.place ≡ Some whole
      got = ap (λ (l : List Rectangle). slice_get l g.place) g.rects_are ∙ set_got rects g.place whole g.rect g.there

  module _ (new : Stack) (g : BeginsAt new) where
    again : (n : ℕ) (r : Rectangle) → slice_get rects n ≡ Some r → r.x0 ≡ a → y <ℤ r.y1 → ⊥
    again n r e x hi =
        let p = at.standing.paired n r e hi in
        let i : p.0 ≡ h = one_pair walls p.0 h a up (p.1.first ∙ ap (λ (v : ℤ). Some v) x) pair.first in
        let v : r.x1 ≡ b = same_Some r.x1 b (sym p.1.second ∙ ap (λ (k : ℕ). slice_get walls (suc (k + k))) i
        ∙ pair.second) in
        let f : last_at last a ≡ Some n = ap (λ (v : ℤ). last_at last v) (sym x) ∙ at.standing.found n r e hi in
        let w : r.y1 <ℤ y = g.none n r f e x v in
        omega (arith, ints, w, hi)

  begins_puts : (new : Stack) → BeginsAt new → Puts new
  begins_puts new g = record {
    place = length rects;
    whole = box a y b top;
    got = got;
    left = refl;
    right = refl;
    high = refl;
    low = omega (arith, ints);
    cases = λ n r e. push_cases rects (box a y b top) r n
        (ap (λ (l : List Rectangle). slice_get l n) (sym g.rects_are) ∙ e);
    kept = λ n r e ne. ap (λ (l : List Rectangle). slice_get l n) g.rects_are ∙ push_got rects n r (box a y b top) e;
    here = g.last_is a ∙ ap (λ (k : Bool). cond k (Some (length rects)) (last_at last a)) (is a);
    other = λ x ne. g.last_is x ∙ ap (λ (k : Bool). cond k (Some (length rects)) (last_at last x))
        (is_not a x (λ e. ne (sym e)));
    longer = omega (arith, ap length g.rects_are, length-append rects (box a y b top ∷ []));
    old_there = λ r e. absurd
        (let k : length rects < length rects = slice_get_within rects (length rects) r e in omega (arith, k));
    same = λ n r e hi x f. absurd (again new g n r e x hi);
  }
    where
      got : slice_get new.rects (length rects) ≡ Some (box a y b top)
      got = ap (λ (l : List Rectangle). slice_get l (length rects)) g.rects_are ∙ push_last rects (box a y b top)

      is_not : (a b : ℤ) → (a ≡ b → ⊥) → is_eq (int_cmp a b) ≡ false
      is_not a b ne = grind (arith, ints)

      is : (a : ℤ) → is_eq (int_cmp a a) ≡ true
      is a = grind (arith, ints)

  -- ---- as far as the next pair

  module _ (z c : ℤ) (lt : y <ℤ z) (le : z ≤ℤ top) (cut : IsCut walls (suc h) c) where
    past : a <ℤ c
    past = cut.right (h + h) a (omega arith) pair.first

    seen_same : (n : ℕ) (r : Rectangle) → slice_get rects n ≡ Some r → (r.x0 ≡ a → y <ℤ r.y1 → ⊥)
        → seen a y z r ≡ seen c y z r
    seen_same n r e only = by_lt_z y r.y1
        (λ hi. by_lt_z r.x0 a
        (λ left. seen_left a y z r left ∙ sym (seen_left c y z r (omega (arith, ints, left, past))))
        (λ ge. by_lt_z r.x0 c
        (λ inside. absurd (between_cuts hi ge inside))
        (λ right. seen_right a y z r ge ∙ sym (seen_right c y z r right))))
        (λ low. seen_low a y z r lt low ∙ sym (seen_low c y z r lt low))
      where
        between_cuts : y <ℤ r.y1 → a ≤ℤ r.x0 → r.x0 <ℤ c → ⊥
        between_cuts hi ge inside =
            let p = at.standing.paired n r e hi in
            by_place p.0 h
            (λ less.
            (let m : r.x0 <ℤ a = got_less walls (p.0 + p.0) (h + h) r.x0 a up
            (omega (arith, less)) p.1.first pair.first in omega (arith, ints, m, ge)))
            (λ q. only (same_Some r.x0 a (sym p.1.first ∙ ap (λ (k : ℕ). slice_get walls (k + k)) q ∙ pair.first)) hi)
            (λ more.
            (let m : c ≤ℤ r.x0 = cut.left (p.0 + p.0) r.x0 (omega (arith, more)) p.1.first in
            omega (arith, ints, m, inside)))

    proper : IsProper (box a y b z)
    proper = record { wide = wide; high = lt }

    slab : InSlab (map (seen a y z) rects) last y z a
    slab = at.slab z a lt le cut_here

    module _ (new : Stack) (g : GoesOn new) where
      before : seen a y z g.rect ≡ box g.rect.x0 g.rect.y0 g.rect.x1 y
      before = seen_right a y z g.rect (let e = g.left in omega (arith, ints, e)) ∙ cut_high y g.rect g.level

      on : stands_on (seen a y z g.rect) (box a y b z) ≡ true
      on = stands_is (seen a y z g.rect) (box a y b z) g.left g.right (ap (λ (k : Rectangle). k.y1) before)

      goes_seen : slice_set (map (seen a y z) rects) g.place (box g.rect.x0 g.rect.y0 g.rect.x1 z)
          ≡ map (seen c y z) new.rects
      goes_seen =
          set_map (seen a y z) (seen c y z) rects g.place (box g.rect.x0 g.rect.y0 g.rect.x1 z)
          (box g.rect.x0 g.rect.y0 g.rect.x1 top)
          (λ m r ne e. seen_same m r e
          (λ x hi. ne
          (same_Some m g.place (sym (at.standing.found m r e hi) ∙ ap (λ (v : ℤ). last_at last v) x ∙ g.found))))
          (sym (seen_left c y z (box g.rect.x0 g.rect.y0 g.rect.x1 top)
          (let e = g.left in omega (arith, ints, e, past))
          ∙ cut_high z (box g.rect.x0 g.rect.y0 g.rect.x1 top) le))
          ∙ ap (λ (l : List Rectangle). map (seen c y z) l) (sym g.rects_are)

      goes_joined : joined (map (seen a y z) rects) (box a y b z) ≡ map (seen c y z) new.rects
      goes_joined =
          joined_there (map (seen a y z) rects) last (box a y b z) proper slab g.place (seen a y z g.rect) g.found
          (got_map (seen a y z) rects g.place g.rect g.there) on
          ∙ goes_seen

      goes_slab : InSlab (map (seen c y z) new.rects) new.last y z c
      goes_slab =
          let s = subst (λ (l : List Rectangle). InSlab l last y z c) goes_seen
          (slab_there (map (seen a y z) rects) last (box a y b z) proper slab g.place (seen a y z g.rect) g.found
          (got_map (seen a y z) rects g.place g.rect g.there) on c past) in
          record {
            stand = λ x n e. s.stand x n (sym (g.last_is x) ∙ e);
            below = λ n r e f k. g.last_is r.x0 ∙ s.below n r e f k;
            here = λ n r e f. (let q = s.here n r e f in (q.0, g.last_is r.x0 ∙ q.1));
            lower = s.lower;
          }

    module _ (new : Stack) (g : BeginsAt new) where
      none : sweeping.IsSupport (map (seen a y z) rects) last (box a y b z) None
      none n s found e = (let m = map_got (seen a y z) rects n s e in
          turn m.0 m.1.0 m.1.1 (stands_on s (box a y b z)) refl)
        where
          turn : (r : Rectangle) → slice_get rects n ≡ Some r → seen a y z r ≡ s → (k : Bool)
              → stands_on s (box a y b z) ≡ k → stands_on s (box a y b z) ≡ false
          turn r there is false q = q
          turn r there is true q =
              let x : r.x0 ≡ a = ap (λ (k : Rectangle). k.x0) is ∙ left_so s (box a y b z) q in
              let v : r.x1 ≡ b = ap (λ (k : Rectangle). k.x1) is ∙ right_so s (box a y b z) q in
              let w : r.y1 <ℤ y = g.none n r found there x v in
              let low : seen a y z r ≡ r = seen_low a y z r lt (omega (arith, ints, w)) in
              let u : r.y1 ≡ y = ap (λ (k : Rectangle). k.y1) (sym low ∙ is) ∙ level_so s (box a y b z) q in
              absurd (omega (arith, ints, w, u))

      begins_seen : map (seen a y z) rects ++ box a y b z ∷ [] ≡ map (seen c y z) new.rects
      begins_seen =
          push_map (seen a y z) (seen c y z) rects (box a y b z) (box a y b top)
          (λ n r e. seen_same n r e (λ x hi. again new g n r e x hi))
          (sym (seen_left c y z (box a y b top) past ∙ cut_high z (box a y b top) le))
          ∙ ap (λ (l : List Rectangle). map (seen c y z) l) (sym g.rects_are)

      begins_joined : joined (map (seen a y z) rects) (box a y b z) ≡ map (seen c y z) new.rects
      begins_joined = joined_last (map (seen a y z) rects) last (box a y b z) proper slab none ∙ begins_seen

      begins_slab : InSlab (map (seen c y z) new.rects) new.last y z c
      begins_slab = subst (λ (l : List Rectangle). InSlab l new.last y z c) begins_seen
          (slab_last (map (seen a y z) rects) last (box a y b z) proper slab none new.last
          (λ x. g.last_is x ∙ ap (λ (n : ℕ). cond (is_eq (int_cmp a x)) (Some n) (last_at last x))
          (sym (map_length (seen a y z) rects))) c past)

  -- ---- one pair more

  abbrev OneMore : Stack → Type 0
  OneMore new = AdvancesIn next.slab h (suc h) next.stack new

  module _ (new : Stack) (puts : Puts new) where
    last_there : (x : ℤ) (n : ℕ) → x ≡ a → last_at new.last x ≡ Some n → puts.place ≡ n
    last_there x n q e = same_Some puts.place n (sym puts.here ∙ ap (λ (v : ℤ). last_at new.last v) (sym q) ∙ e)

    stands : Standing new.rects new.last walls y
    stands = record {
      stand = λ x n e. by_equal x a
          (λ q.
          (let f = last_there x n q e in
          let g : puts.place < length new.rects = slice_get_within new.rects puts.place puts.whole puts.got in
          omega (arith, f, g)))
          (λ ne.
          (let f : n < length rects = at.standing.stand x n (sym (puts.other x ne) ∙ e) in let g = puts.longer in
          omega (arith, f, g)));
      own = λ x n r e g. by_equal x a
          (λ q. ap (λ (k : Rectangle). k.x0) (same_Some r puts.whole
          (sym g ∙ ap (λ (k : ℕ). slice_get new.rects k) (sym (last_there x n q e)) ∙ puts.got)) ∙ puts.left ∙ sym q)
          (λ ne. own_other x n r e ne (puts.cases n r g));
      found = λ n r g hi. found_one n r g hi (puts.cases n r g);
      paired = λ n r g hi. elim (puts.cases n r g) [
        | inl q ↦ at.standing.paired n r q hi
        | inr q ↦ (
          h,
          subst (λ (k : Rectangle). IsPair walls h k.x0 k.x1) q.1
              (subst (λ (v : ℤ). IsPair walls h v puts.whole.x1) (sym puts.left)
              (subst (λ (v : ℤ). IsPair walls h a v) (sym puts.right) pair)),
        )
      ];
    }
      where
        own_other : (x : ℤ) (n : ℕ) (r : Rectangle) → last_at new.last x ≡ Some n → (x ≡ a → ⊥)
            → (slice_get rects n ≡ Some r) ⊎ ((n ≡ puts.place) × (puts.whole ≡ r)) → r.x0 ≡ x
        own_other x n r e ne (inl q) = at.standing.own x n r (sym (puts.other x ne) ∙ e) q
        own_other x n r e ne (inr q) = absurd (new_there (puts.old_there))
          where
            new_there : ((s : Rectangle) → slice_get rects puts.place ≡ Some s → s.x0 ≡ a) → ⊥
            new_there old =
                let f : last_at last x ≡ Some puts.place = sym (puts.other x ne) ∙ e ∙ ap (λ (k : ℕ). Some k) q.0 in
                let lt : puts.place < length rects = at.standing.stand x puts.place f in
                let there = slice_get-get_or rects puts.place puts.whole lt in
                ne (sym (at.standing.own x puts.place _ f there) ∙ old _ there)

        found_one : (n : ℕ) (r : Rectangle) → slice_get new.rects n ≡ Some r → y <ℤ r.y1
            → (slice_get rects n ≡ Some r) ⊎ ((n ≡ puts.place) × (puts.whole ≡ r)) → last_at new.last r.x0 ≡ Some n
        found_one n r g hi (inr q) = ap (λ (k : Rectangle). last_at new.last k.x0) (sym q.1)
            ∙ ap (λ (v : ℤ). last_at new.last v) puts.left ∙ puts.here ∙ ap (λ (k : ℕ). Some k) (sym q.0)
        found_one n r g hi (inl q) = by_equal r.x0 a
            (λ x. ap (λ (v : ℤ). last_at new.last v) x ∙ puts.here
            ∙ ap (λ (k : ℕ). Some k) (puts.same n r q hi x (at.standing.found n r q hi)))
            (λ ne. puts.other r.x0 ne ∙ at.standing.found n r q hi)

    is_kept : (c d : ℤ) → (c ≡ a → ⊥) → IsOpen rects last c d top → IsOpen new.rects new.last c d top
    is_kept c d ne o = record {
      place = o.place;
      rect = o.rect;
      found = puts.other c ne ∙ o.found;
      there = puts.kept o.place o.rect o.there (λ e. ne (sym o.left ∙ e));
      left = o.left;
      right = o.right;
      high = o.high;
    }

    other_pair : (i : ℕ) (c d : ℤ) → IsPair walls i c d → (i ≡ h → ⊥) → c ≡ a → ⊥
    other_pair i c d p ne e = ne (one_pair walls i h a up (p.first ∙ ap (λ (v : ℤ). Some v) e) pair.first)

    is_open : (c d : ℤ) → c ≡ a → d ≡ b → IsOpen new.rects new.last c d top
    is_open c d e f = record {
      place = puts.place;
      rect = puts.whole;
      found = ap (λ (v : ℤ). last_at new.last v) e ∙ puts.here;
      there = puts.got;
      left = puts.left ∙ sym e;
      right = puts.right ∙ sym f;
      high = puts.high;
    }

    one_more : ((z c : ℤ) → y <ℤ z → z ≤ℤ top → IsCut walls (suc h) c
        → joined (map (seen a y z) rects) (box a y b z) ≡ map (seen c y z) new.rects)
        → ((z c : ℤ) → y <ℤ z → z ≤ℤ top → IsCut walls (suc h) c → InSlab (map (seen c y z) new.rects) new.last y z c)
        → OneMore new
    one_more join slab = record {
      opening = record {
        within =
            (let lt : suc (h + h) < length walls = slice_get_within walls (suc (h + h)) b pair.second in
            omega (arith, lt));
        slab = slab;
        standing = stands;
        high = λ n r g hi. elim (puts.cases n r g) [
          | inl q ↦ at.high n r q hi
          | inr q ↦ sym (ap (λ (k : Rectangle). k.y1) q.1) ∙ puts.high
        ];
        low = λ n r g. elim (puts.cases n r g) [
          | inl q ↦ at.low n r q
          | inr q ↦ subst (λ (k : Rectangle). k.y0 ≤ℤ y) q.1 puts.low
        ];
        begun = λ i c d p lt. by_place i h
            (λ less. is_kept c d (other_pair i c d p (λ e. omega (arith, e, less))) (at.begun i c d p less))
            (λ e. is_open c d (same_Some c a (sym p.first ∙ ap (λ (k : ℕ). slice_get walls (k + k)) e ∙ pair.first))
            (same_Some d b (sym p.second ∙ ap (λ (k : ℕ). slice_get walls (suc (k + k))) e ∙ pair.second)))
            (λ more. absurd (omega (arith, lt, more)));
        clear = λ i c d p le cl. is_kept c d (other_pair i c d p (λ e. omega (arith, e, le)))
            (at.clear i c d p (omega (arith, le)) cl);
      };
      whole = λ whole w z c lt le cut.
          ap (λ (l : List Rectangle). all_joined l (between y z (drop (suc h + suc h) walls)))
          (sym (join z c lt le cut))
          ∙ ap (λ (l : List ℤ). all_joined (map (seen a y z) rects) (between y z l)) (sym (pair_drop walls h a b pair))
          ∙ w z a lt le cut_here;
    }

  goes_on : (new : Stack) → GoesOn new → OneMore new
  goes_on new g = one_more new (goes_puts new g) (λ z c lt le cut. goes_joined z c lt le cut new g)
      (λ z c lt le cut. goes_slab z c lt le cut new g)

  begins : (new : Stack) → BeginsAt new → OneMore new
  begins new g = one_more new (begins_puts new g) (λ z c lt le cut. begins_joined z c lt le cut new g)
      (λ z c lt le cut. begins_slab z c lt le cut new g)

  -- a pair that is clear of the windows goes on as it is
  clear_on : Clear ends a b → OneMore next.stack
  clear_on c = (let o = at.clear h a b pair (omega arith) c in goes_on next.stack (record {
    place = o.place;
    rect = o.rect;
    found = o.found;
    there = o.there;
    left = o.left;
    right = o.right;
    level = (let e = o.high in let high = next.slab.high in omega (arith, ints, e, high));
    rects_are = sym (set_same rects o.place (box o.rect.x0 o.rect.y0 o.rect.x1 top)
        (o.there ∙ ap (λ (t : ℤ). Some (box o.rect.x0 o.rect.y0 o.rect.x1 t)) o.high));
    last_is = λ x. refl;
  }))

-- ---- pairs that are clear are passed over

advance_none : (s : Slab) {h : ℕ} {stack : Stack} → Opens s h stack → AdvancesIn s h h stack stack
advance_none s at = record { opening = at; whole = λ whole w. w }

advance_more : (s : Slab) {h m n : ℕ} {old mid now : Stack} → AdvancesIn s h m old mid → AdvancesIn s m n mid now
    → AdvancesIn s h n old now
advance_more s p q = record { opening = q.opening; whole = λ whole w. q.whole whole (p.whole whole w) }

abbrev next_of : (s : Slab) {h : ℕ} {stack : Stack} {a b : ℤ} → Opens s h stack → IsPair s.walls h a b → NextPair
next_of s {h} {stack} {a} {b} at pair =
    record { slab = s; stack = stack; number = h; left = a; right = b; at = at; pair = pair }

pub joins_pair : (s : Slab) {h m : ℕ} {old mid now : Stack} {a b : ℤ} → AdvancesIn s h m old mid → IsPair s.walls m a b
    → Goes mid.rects mid.last (box a s.level.y b s.level.top) now.rects now.last
    ⊎ Begins mid.rects mid.last (box a s.level.y b s.level.top) now.rects now.last
    → AdvancesIn s h (suc m) old now
joins_pair s at pair (inl g) = advance_more s at (goes_on (next_of s at.opening pair) _ g)
joins_pair s at pair (inr g) = advance_more s at (begins (next_of s at.opening pair) _ g)

pass_over : (s : Slab) (n h : ℕ) (stack : Stack) → Opens s h stack
    → ((i : ℕ) (a b : ℤ) → IsPair s.walls i a b → h ≤ i → i < h + n → Clear s.ends a b)
    → (h + n) + (h + n) ≤ length s.walls → AdvancesIn s h (h + n) stack stack
pass_over s zero h stack at clear within = let e : h + 0 ≡ h = omega arith in rw e (advance_none s at)
pass_over s (suc n) h stack at clear within =
    let e : h + suc n ≡ suc h + n = omega arith in
    let p = pair_there s.walls h (omega arith) in
    let first = clear_on (next_of s at p.1.1) (clear h p.0 p.1.0 p.1.1 (omega arith) (omega arith)) in
    rw e (advance_more s first
    (pass_over s n (suc h) stack first.opening
    (λ i a b q le lt. clear i a b q (omega (arith, le)) (omega (arith, lt))) (omega arith)))

-- ---- the first pair and the last

-- at a level all rectangles are seen as far as it
level_seen : (walls : List ℤ) (y z c : ℤ) (rects : List Rectangle) (last : BTreeMap ℤ ℕ) → y <ℤ z
    → Standing rects last walls y → IsCut walls 0 c → map (seen c y z) rects ≡ map (cut_off y) rects
level_seen walls y z c rects last lt st cut = same_map (seen c y z) (cut_off y) rects (λ n r g. by_lt_z y r.y1
    (λ hi. (let p = st.paired n r g hi in seen_right c y z r (cut.left (p.0 + p.0) r.x0 (omega arith) p.1.first)))
    (λ low. seen_low c y z r lt low ∙ sym (cut_low y r low)))

module _ (slab : Slab) (stack : Stack) (st : Standing stack.rects stack.last slab.walls slab.level.y) where
  open slab use {ends, walls, level.{y, top}}
  open stack use {rects, last}

  opened : IsHigh rects y top → BeginBelow rects y → ReachesUp (map (cut_off y) rects) last y
      → ((i : ℕ) (a b : ℤ) → IsPair walls i a b → Clear ends a b → IsOpen rects last a b top) → Opens slab 0 stack
  opened high low reach clear = record {
    within = omega arith;
    slab = λ z c lt le cut. subst (λ (l : List Rectangle). InSlab l last y z c)
        (sym (level_seen walls y z c rects last lt st cut)) (in_slab z c lt);
    standing = st;
    high = high;
    low = λ n r g. (let h = low n r g in omega (arith, ints, h));
    begun = λ i a b p lt. absurd (omega (arith, lt));
    clear = λ i a b p le c. clear i a b p c;
  }
    where
      in_slab : (z c : ℤ) → y <ℤ z → InSlab (map (cut_off y) rects) last y z c
      in_slab z c lt = record {
        stand = reach.stand;
        below = λ n r p e le. reach.found n r p e;
        here = λ n r p e. absurd (let h : r.y1 ≤ℤ y = reach.lower n r p in omega (arith, ints, h, e, lt));
        lower = λ n r p. (let h : r.y1 ≤ℤ y = reach.lower n r p in omega (arith, ints, h, lt));
      }

  opened_whole : Whole 0 walls y top rects (λ z. all_joined (map (cut_off y) rects) (between y z walls))
  opened_whole z c lt le cut =
      ap (λ (l : List Rectangle). all_joined l (between y z (drop (0 + 0) walls)))
      (level_seen walls y z c rects last lt st cut)
      ∙ ap (λ (l : List ℤ). all_joined (map (cut_off y) rects) (between y z l)) (none walls)
    where
      none : (l : List ℤ) → drop 0 l ≡ l
      none [] = refl
      none (w ∷ l) = refl

module _ (slab : Slab) (h : ℕ) (old : List Rectangle) (now : Stack) (at : Opens slab h now) where
  open slab use {walls, level.{y, top}, rising as up}
  open now use {rects, last}

  risen : length walls ≤ suc (h + h)
      → Whole h walls y top rects (λ z. all_joined (map (cut_off y) old) (between y z walls))
      → Risen old walls y top rects last
  risen le w = record {
    whole = λ z lt below.
        let c = cut_exists walls h up in
        sym (seen_all z c.0 lt c.1) ∙ ap (λ (l : List Rectangle). all_joined (map (seen c.0 y z) rects) l)
        (sym (none_left walls (h + h) y z le)) ∙ w z c.0 lt below c.1;
    reaches = λ z lt below.
        let c = cut_exists walls h up in
        subst (λ (l : List Rectangle). ReachesUp l last z) (seen_all z c.0 lt c.1)
        (reached z c.0 (at.slab z c.0 lt below c.1));
    standing = at.standing;
    high = at.high;
    begun = λ i a b p. at.begun i a b p
        (let k : suc (i + i) < length walls = slice_get_within walls (suc (i + i)) b p.second in omega (arith, k, le));
    low = at.low;
  }
    where
      seen_all : (z c : ℤ) → y <ℤ z → IsCut walls h c → map (seen c y z) rects ≡ map (cut_off z) rects
      seen_all z c lt cut = same_map (seen c y z) (cut_off z) rects (λ n r g. by_lt_z y r.y1
          (λ hi.
          let p = at.standing.paired n r g hi in
          let k : suc (p.0 + p.0) < length walls = slice_get_within walls (suc (p.0 + p.0)) r.x1 p.1.second in
          seen_left c y z r (cut.right (p.0 + p.0) r.x0 (omega (arith, k, le)) p.1.first))
          (λ low. seen_low c y z r lt low ∙ sym (cut_low z r (omega (arith, ints, low, lt)))))

      reached : (z c : ℤ) → InSlab (map (seen c y z) rects) last y z c → ReachesUp (map (seen c y z) rects) last z
      reached z c s = record {
        stand = s.stand;
        found = λ n r g e. (s.here n r g e).1;
        lower = s.lower;
      }

-- ---- window by window

-- the windows before this end have been looked at, with pairs up to the h-th
pub record AdvancesAll (h number : ℕ) (ends : List End) (walls : List ℤ) (level : Level) (old now : Stack) : Type 0
  where
    pub at : Advances 0 h ends walls level old now
    pub behind : Behind h walls (drop number ends) ends

abbrev pub AdvancesAllIn : Slab → ℕ → ℕ → Stack → Stack → Type 0
AdvancesAllIn s h number old now = AdvancesAll h number s.ends s.walls s.level old now

pub all_none : (s : Slab) (stack : Stack) → Standing stack.rects stack.last s.walls s.level.y
    → IsHigh stack.rects s.level.y s.level.top → BeginBelow stack.rects s.level.y
    → ReachesUp (map (cut_off s.level.y) stack.rects) stack.last s.level.y
    → ((i : ℕ) (a b : ℤ) → IsPair s.walls i a b → Clear s.ends a b → IsOpen stack.rects stack.last a b s.level.top)
    → AdvancesAllIn s 0 0 stack stack
all_none s stack st high low reach clear = record {
  at = advance_none s (opened s stack st high low reach clear);
  behind = λ i a b p le c. subst (λ (l : List End). Clear l a b) (none s.ends) c;
}
  where
    none : (l : List End) → drop 0 l ≡ l
    none [] = refl
    none (e ∷ l) = refl

pub all_more : (s : Slab) {h n number : ℕ} {old mid now : Stack} → AdvancesAllIn s h number old mid → Opens s n now
    → ((whole : ℤ → List Rectangle) → Whole h s.walls s.level.y s.level.top mid.rects whole
    → Whole n s.walls s.level.y s.level.top now.rects whole) → h ≤ n → OffFrom n s.walls (drop number s.ends)
    → AdvancesAllIn s n (number + 2) old now
all_more s {number = number} at opening whole le off = record {
  at = advance_more s at.at (record { opening = opening; whole = whole });
  behind = λ i a b p more c. at.behind i a b p (omega (arith, le, more))
      (clear_all s.ends number a b (off i a b p more) c);
}

pub all_begun : (s : Slab) {h number : ℕ} {old now : Stack} → Standing old.rects old.last s.walls s.level.y
    → length s.ends ≤ number → AdvancesAllIn s h number old now
    → Risen old.rects s.walls s.level.y s.level.top now.rects now.last
all_begun s {h} {number} {old} {now} st le at =
    let n = length s.walls / 2 - h in
    let within = at.at.opening.within in
    let over = pass_over s n h now at.at.opening
    (λ i a b p more less. at.behind i a b p more (clear_end s.ends number a b le)) (omega (arith, within)) in
    risen s (h + n) old.rects now over.opening (omega (arith, within))
    (over.whole _ (at.at.whole _ (opened_whole s old st)))

pub first_pairs : (s : Slab) (number : ℕ) {from first : ℕ} {end : End} {stack : Stack} → FromLeft s.ends
    → Opens s from stack → Behind from s.walls (drop number s.ends) s.ends → slice_get s.ends number ≡ Some end
    → from ≤ first → first + first ≤ length s.walls
    → ((i : ℕ) (w : ℤ) → from ≤ i → i < first → slice_get s.walls (suc (i + i)) ≡ Some w → w <ℤ end.x)
    → AdvancesIn s from first stack stack
first_pairs s number {from} {first} {end} {stack} left at behind here le within before =
    let e : first ≡ from + (first - from) = omega arith in
    rw e (pass_over s (first - from) from stack at
    (λ i a b p more less. behind i a b p more
    (clear_left (drop number s.ends) end a b (drop_left s.ends number left) (drop_first s.ends number end here)
    (before i b more (omega (arith, less, le)) p.second)))
    (omega (arith, within, le)))

pub off_past : (h : ℕ) (walls : List ℤ) (rest : List End) (a : ℤ) → Rising walls → slice_get walls (h + h) ≡ Some a
    → Past rest a → OffFrom h walls rest
off_past h walls rest a up wall past i c d p le = past_off rest c d a past (pair_left walls h i a c up wall p.first le)

pub off_none : (h : ℕ) (walls : List ℤ) (rest : List End) → length walls / 2 ≤ h → OffFrom h walls rest
off_none h walls rest le i a b p more = absurd
    (let k : suc (i + i) < length walls = slice_get_within walls (suc (i + i)) b p.second in omega (arith, k, le, more))
