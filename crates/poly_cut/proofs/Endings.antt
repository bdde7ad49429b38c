-- Rectangles that end at a level.
use Rattle.std.proofs.Common.{◌≡◌, ◌⊎◌, ℕ, zero, suc, ◌+◌, ◌<◌, ◌≤◌, ℤ, ◌<ℤ◌, ◌≤ℤ◌, List, [], ◌∷◌, map, length}
use Rattle.std.proofs.Common.{drop, Some, None, Option, refl, sym, ap, subst, ◌∙◌, arith, inl, inr}
use Rattle.std.specs.Prelude.{slice_get, slice_set}
use Rattle.std.specs.BTreeMap.{BTreeMap}
use Rattle.std.proofs.lemmas.Int.{ints, by_lt_z}
use Rattle.std.proofs.lemmas.Option.{same_Some, slice_get-get_or}
use Rattle.geom.specs.Rectangle.{Rectangle}
use Rattle.poly_cut.specs.declared.ends.End.{End}
use Rattle.poly_cut.specs.Cuts.{box}
use Rattle.poly_cut.specs.Code.Sweeping.{Rising, last_at}
use Rattle.poly_cut.specs.Code.Levels.{cut_off, Off, OffFrom, Clear, Reached, Standing, BeginBelow, EndsWindow}
use Rattle.poly_cut.specs.Code.Levels.{EndsLevel}
use Rattle.poly_cut.proofs.Places.{set_cases, set_got, set_other, set_same, set_map, got_map, map_got, map_length}
use Rattle.poly_cut.proofs.Seen.{cut_low, cut_below}
use Rattle.poly_cut.proofs.Spans.{got_less}
use Rattle.poly_cut.proofs.OffWindows.{off_left, clear_first, clear_rest, clear_all, clear_end, met}

pub by_place : {P : Type 0} (m n : ℕ) → (m < n → P) → (m ≡ n → P) → (n < m → P) → P
by_place zero zero f g h = g refl
by_place zero (suc n) f g h = f (omega arith)
by_place (suc m) zero f g h = h (omega arith)
by_place (suc m) (suc n) f g h = by_place m n (λ lt. f (omega arith)) (λ e. g (ap suc e)) (λ lt. h (omega arith))

pub one_pair : (ws : List ℤ) (i k : ℕ) (v : ℤ) → Rising ws → slice_get ws (i + i) ≡ Some v
    → slice_get ws (k + k) ≡ Some v → i ≡ k
one_pair ws i k v up p q = by_place i k
    (λ lt. absurd (let h : v <ℤ v = got_less ws (i + i) (k + k) v v up (omega arith) p q in omega (arith, ints, h)))
    (λ e. e)
    (λ gt. absurd (let h : v <ℤ v = got_less ws (k + k) (i + i) v v up (omega arith) q p in omega (arith, ints, h)))

pub pair_left : (ws : List ℤ) (i k : ℕ) (v w : ℤ) → Rising ws → slice_get ws (i + i) ≡ Some v
    → slice_get ws (k + k) ≡ Some w → i ≤ k → v ≤ℤ w
pair_left ws i k v w up p q le = by_place i k
    (λ lt. (let h : v <ℤ w = got_less ws (i + i) (k + k) v w up (omega arith) p q in omega (arith, ints, h)))
    (λ e.
    (let s : v ≡ w = same_Some v w (sym p ∙ ap (λ (n : ℕ). slice_get ws (n + n)) e ∙ q) in omega (arith, ints, s)))
    (λ gt. absurd (omega arith))

-- ---- rectangles that were cut off at most

-- the new ones are the old ones as far as the level
same_place : (y : ℤ) (old new : List Rectangle) (n : ℕ) (r : Rectangle) → map (cut_off y) new ≡ map (cut_off y) old
    → slice_get new n ≡ Some r
    → (s : Rectangle) × ((slice_get old n ≡ Some s) × (cut_off y s ≡ cut_off y r))
same_place y old new n r e at = map_got (cut_off y) old n (cut_off y r)
    (ap (λ (l : List Rectangle). slice_get l n) (sym e) ∙ got_map (cut_off y) new n r at)

module _ (old new : List Rectangle) (last : BTreeMap ℤ ℕ) (walls : List ℤ) (y : ℤ)
    (same : map (cut_off y) new ≡ map (cut_off y) old) where
  pub low_kept : BeginBelow old y → BeginBelow new y
  low_kept low n r at =
      let s = same_place y old new n r same at in
      let h : s.0.y0 <ℤ y = low n s.0 s.1.0 in
      let e : s.0.y0 ≡ r.y0 = ap (λ (k : Rectangle). k.y0) s.1.1 in
      subst (λ (v : ℤ). v <ℤ y) e h

  pub standing_kept : ((n : ℕ) (r : Rectangle) → slice_get new n ≡ Some r → y <ℤ r.y1 → slice_get old n ≡ Some r)
      → Standing old last walls y → Standing new last walls y
  standing_kept was st = record {
    stand = λ x n e.
        let h : n < length old = st.stand x n e in
        let k : length new ≡ length old = sym (map_length (cut_off y) new) ∙ ap (λ (l : List Rectangle). length l) same
        ∙ map_length (cut_off y) old in
        omega (arith, h, k);
    own = λ x n r e at.
        let s = same_place y old new n r same at in
        sym (ap (λ (k : Rectangle). k.x0) s.1.1) ∙ st.own x n s.0 e s.1.0;
    found = λ n r at up. st.found n r (was n r at up) up;
    paired = λ n r at up. st.paired n r (was n r at up) up;
  }

-- ---- a window, pair by pair

-- the pairs from the first on and before the h-th have ended
pub record Ending (first h : ℕ) (rest : List End) (walls : List ℤ) (level : ℤ) (old new : List Rectangle) : Type 0 where
  pub same : map (cut_off level) new ≡ map (cut_off level) old
  pub kept : (n : ℕ) (r : Rectangle) → slice_get old n ≡ Some r → Off rest r.x0 r.x1 → slice_get new n ≡ Some r
  pub was : (n : ℕ) (r : Rectangle) → slice_get new n ≡ Some r → level <ℤ r.y1 → slice_get old n ≡ Some r
  pub passed : (n i : ℕ) (r : Rectangle) → slice_get new n ≡ Some r → level <ℤ r.y1
      → slice_get walls (i + i) ≡ Some r.x0 → (i < first) ⊎ (h ≤ i)

pub none_ended : (first : ℕ) (rest : List End) (walls : List ℤ) (level : ℤ) (old : List Rectangle)
    → Ending first first rest walls level old old
none_ended first rest walls level old = record {
  same = refl;
  kept = λ n r at off. at;
  was = λ n r at up. at;
  passed = λ n i r at up w. by_place i first (λ lt. inl lt) (λ e. inr (omega (arith, e)))
      (λ gt. inr (omega (arith, gt)));
}

-- a window at a level: the ends from its first one on, the walls and rectangles below the level, and the number of the
-- first pair of walls that is not left of it
pub record Window : Type 0 where
  pub rest : List End
  pub walls : List ℤ
  pub level : ℤ
  pub last : BTreeMap ℤ ℕ
  pub old : List Rectangle
  pub first : ℕ
  pub end : End
  pub rising : Rising walls
  pub standing : Standing old last walls level
  pub head : slice_get rest 0 ≡ Some end
  pub before : (i : ℕ) (w : ℤ) → i < first → slice_get walls (suc (i + i)) ≡ Some w → w <ℤ end.x
  pub from : (i : ℕ) (w : ℤ) → first ≤ i → slice_get walls (suc (i + i)) ≡ Some w → end.x ≤ℤ w

abbrev pub EndingIn : Window → ℕ → List Rectangle → Type 0
EndingIn window h new = Ending window.first h window.rest window.walls window.level window.old new

module _ (window : Window) (h : ℕ) (cur new : List Rectangle) (at : EndingIn window h cur) (a : ℤ)
    (wall : slice_get window.walls (h + h) ≡ Some a) where
  open window use {rest, walls, level, last, old, first, end, rising as up, standing as st, head, from}

  -- none was begun at this wall
  none_there : last_at last a ≡ None → new ≡ cur → EndingIn window (suc h) new
  none_there none e = rw e (record {
    same = at.same;
    kept = at.kept;
    was = at.was;
    passed = λ n i r g high w. elim (at.passed n i r g high w) [
      | inl lt ↦ inl lt
      | inr le ↦ by_place h i (λ lt. inr (omega (arith, lt))) (λ e. absurd (turn n i r g high w e))
          (λ gt. absurd (omega (arith, gt, le)))
    ];
  })
    where
      turn : (n i : ℕ) (r : Rectangle) → slice_get cur n ≡ Some r → level <ℤ r.y1
          → slice_get walls (i + i) ≡ Some r.x0 → h ≡ i → ⊥
      turn n i r g high w e =
          let x : a ≡ r.x0 = same_Some a r.x0 (sym wall ∙ ap (λ (k : ℕ). slice_get walls (k + k)) e ∙ w) in
          let f : last_at last a ≡ Some n = ap (λ (v : ℤ). last_at last v) x ∙ st.found n r (at.was n r g high) high in
          let z : None ≡ Some n = sym none ∙ f in cc

  module _ (place : ℕ) (r : Rectangle) (found : last_at last a ≡ Some place) (there : slice_get cur place ≡ Some r)
      (e : new ≡ slice_set cur place (cut_off level r)) (reached : Reached rest a) (le : first ≤ h) where
    twice : cut_off level r ≡ cut_off level (cut_off level r)
    twice = sym (cut_low level (cut_off level r) (cut_below level r))

    place_got : slice_get new place ≡ Some (cut_off level r)
    place_got = ap (λ (l : List Rectangle). slice_get l place) e ∙ set_got cur place (cut_off level r) r there

    kept_one : (n : ℕ) (s : Rectangle) → slice_get old n ≡ Some s → Off rest s.x0 s.x1 → slice_get new n ≡ Some s
    kept_one n s g off = by_place n place
        (λ lt. other (λ q. omega (arith, lt, q)))
        (λ q. here q)
        (λ gt. other (λ q. omega (arith, gt, q)))
      where
        other : (n ≡ place → ⊥) → slice_get new n ≡ Some s
        other ne = ap (λ (l : List Rectangle). slice_get l n) e ∙ set_other cur place n (cut_off level r) ne
            ∙ at.kept n s g off

        here : n ≡ place → slice_get new n ≡ Some s
        here q = by_lt_z level s.y1
            (λ high. absurd (turn high))
            (λ low. ap (λ (k : ℕ). slice_get new k) q ∙ place_got ∙ ap (λ (k : Rectangle). Some (cut_off level k)) is
            ∙ ap (λ (k : Rectangle). Some k) (cut_low level s low))
          where
            is : r ≡ s
            is = same_Some r s (sym there ∙ ap (λ (k : ℕ). slice_get cur k) (sym q) ∙ at.kept n s g off)

            x : s.x0 ≡ a
            x = st.own a place s found (ap (λ (k : ℕ). slice_get old k) (sym q) ∙ g)

            turn : level <ℤ s.y1 → ⊥
            turn high =
                let p = st.paired n s g high in
                let i : p.0 ≡ h = one_pair walls p.0 h a up (p.1.first ∙ ap (λ (v : ℤ). Some v) x) wall in
                let b : end.x ≤ℤ s.x1 = from h s.x1 le
                (ap (λ (k : ℕ). slice_get walls (suc (k + k))) (sym i) ∙ p.1.second) in
                met rest end s.x0 s.x1 head (subst (λ (v : ℤ). Reached rest v) (sym x) reached) b off

    was_one : (n : ℕ) (s : Rectangle) → slice_get new n ≡ Some s → level <ℤ s.y1 → slice_get cur n ≡ Some s
    was_one n s g high = elim (set_cases cur place (cut_off level r) s n
        (ap (λ (l : List Rectangle). slice_get l n) (sym e) ∙ g)) [
          | inl q ↦ q
          | inr q ↦ absurd
              (let b : s.y1 ≤ℤ level = subst (λ (k : Rectangle). k.y1 ≤ℤ level) q.1 (cut_below level r) in
              omega (arith, ints, b, high))
        ]

    one_ended : EndingIn window (suc h) new
    one_ended = record {
      same = ap (λ (l : List Rectangle). map (cut_off level) l) e
          ∙ sym (set_map (cut_off level) (cut_off level) cur place (cut_off level r) (cut_off level r)
          (λ m y ne q. refl) twice)
          ∙ set_same (map (cut_off level) cur) place (cut_off level r) (got_map (cut_off level) cur place r there)
          ∙ at.same;
      kept = kept_one;
      was = λ n s g high. at.was n s (was_one n s g high) high;
      passed = λ n i s g high w. elim (at.passed n i s (was_one n s g high) high w) [
        | inl lt ↦ inl lt
        | inr ge ↦ by_place h i (λ lt. inr (omega (arith, lt))) (λ q. absurd (turn n i s g high w q))
            (λ gt. absurd (omega (arith, gt, ge)))
      ];
    }
      where
        turn : (n i : ℕ) (s : Rectangle) → slice_get new n ≡ Some s → level <ℤ s.y1
            → slice_get walls (i + i) ≡ Some s.x0 → h ≡ i → ⊥
        turn n i s g high w q =
            let x : a ≡ s.x0 = same_Some a s.x0 (sym wall ∙ ap (λ (k : ℕ). slice_get walls (k + k)) q ∙ w) in
            let f : last_at last a ≡ Some n = ap (λ (v : ℤ). last_at last v) x
            ∙ st.found n s (at.was n s (was_one n s g high) high) high in
            let m : place ≡ n = same_Some place n (sym found ∙ f) in
            let t : cut_off level r ≡ s = same_Some (cut_off level r) s
            (sym place_got ∙ ap (λ (k : ℕ). slice_get new k) m ∙ g) in
            let b : s.y1 ≤ℤ level = subst (λ (k : Rectangle). k.y1 ≤ℤ level) t (cut_below level r) in
            omega (arith, ints, b, high)

  pub pair_ended : Reached rest a → first ≤ h
      → ((n : ℕ) (r : Rectangle) → last_at last a ≡ Some n → slice_get cur n ≡ Some r
      → new ≡ slice_set cur n (cut_off level r))
      → (last_at last a ≡ None → new ≡ cur) → EndingIn window (suc h) new
  pair_ended reached le some none = turn (last_at last a) refl
    where
      turn : (o : Option ℕ) → last_at last a ≡ o → EndingIn window (suc h) new
      turn None e = none_there e (none e)
      turn (Some n) e =
          let within : n < length old = st.stand a n e in
          let same : length cur ≡ length old = sym (map_length (cut_off level) cur)
          ∙ ap (λ (l : List Rectangle). length l) at.same ∙ map_length (cut_off level) old in
          let here = slice_get-get_or cur n (box level level level level) (omega (arith, within, same)) in
          one_ended n _ e here (some n _ e here) reached le

-- all pairs from the h-th one on are off the window
pub window_ended : (window : Window) (h : ℕ) (new : List Rectangle) → EndingIn window h new
    → OffFrom h window.walls window.rest → EndsWindow window.rest window.level window.old new
window_ended window h new at over = record {
  same = at.same;
  kept = at.kept;
  off = λ n r g high.
      let o = at.was n r g high in
      let p = window.standing.paired n r o high in (
        o,
        elim (at.passed n p.0 r g high p.1.first) [
          | inl lt ↦ off_left window.rest window.end r.x0 r.x1 window.head (window.before p.0 r.x1 lt p.1.second)
          | inr ge ↦ over p.0 r.x0 r.x1 p.1 ge
        ],
      );
}

-- ---- all windows

pub record Ended (number : ℕ) (ends : List End) (walls : List ℤ) (level : ℤ) (last : BTreeMap ℤ ℕ)
    (old new : List Rectangle) : Type 0 where
  pub same : map (cut_off level) new ≡ map (cut_off level) old
  pub kept : (n : ℕ) (r : Rectangle) → slice_get old n ≡ Some r → Clear ends r.x0 r.x1 → slice_get new n ≡ Some r
  pub was : (n : ℕ) (r : Rectangle) → slice_get new n ≡ Some r → level <ℤ r.y1 → slice_get old n ≡ Some r
  pub clear : (n : ℕ) (r : Rectangle) → slice_get new n ≡ Some r → level <ℤ r.y1 → Clear (drop number ends) r.x0 r.x1
      → Clear ends r.x0 r.x1
  pub standing : Standing new last walls level
  pub low : BeginBelow new level
  pub rest : (a b : ℤ) → Clear ends a b → Clear (drop number ends) a b

pub no_window : (ends : List End) (walls : List ℤ) (level : ℤ) (last : BTreeMap ℤ ℕ) (old : List Rectangle)
    → Standing old last walls level → BeginBelow old level → Ended 0 ends walls level last old old
no_window ends walls level last old st low = record {
  same = refl;
  kept = λ n r g c. g;
  was = λ n r g high. g;
  clear = λ n r g high c. subst (λ (l : List End). Clear l r.x0 r.x1) (none ends) c;
  standing = st;
  low = low;
  rest = λ a b c. subst (λ (l : List End). Clear l a b) (sym (none ends)) c;
}
  where
    none : (l : List End) → drop 0 l ≡ l
    none [] = refl
    none (e ∷ l) = refl

pub one_window : (number : ℕ) (ends : List End) (walls : List ℤ) (level : ℤ) (last : BTreeMap ℤ ℕ)
    (old cur new : List Rectangle) → Ended number ends walls level last old cur
    → EndsWindow (drop number ends) level cur new → Ended (number + 2) ends walls level last old new
one_window number ends walls level last old cur new at w = record {
  same = w.same ∙ at.same;
  kept = λ n r g c. w.kept n r (at.kept n r g c) (clear_first (drop number ends) r.x0 r.x1 (at.rest r.x0 r.x1 c));
  was = λ n r g high. at.was n r (w.off n r g high).0 high;
  clear = λ n r g high c. (let o = w.off n r g high in at.clear n r o.0 high (clear_all ends number r.x0 r.x1 o.1 c));
  standing = standing_kept cur new last walls level w.same (λ n r g high. (w.off n r g high).0) at.standing;
  low = low_kept cur new last walls level w.same at.low;
  rest = λ a b c. clear_rest ends number a b (at.rest a b c);
}

pub all_windows : (number : ℕ) (ends : List End) (walls : List ℤ) (level : ℤ) (last : BTreeMap ℤ ℕ)
    (old new : List Rectangle) → length ends ≤ number → Ended number ends walls level last old new
    → EndsLevel ends level old new
all_windows number ends walls level last old new le at = record {
  same = at.same;
  kept = at.kept;
  clear = λ n r g high. (at.was n r g high, at.clear n r g high (clear_end ends number r.x0 r.x1 le));
}
