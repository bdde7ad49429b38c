-- Toggling two walls that are neighbours.
use Rattle.std.proofs.Common.{◌≡◌, ℕ, zero, suc, ◌+◌, ◌-◌, ◌<◌, ◌≤◌, ℤ, ◌<ℤ◌, List, [], ◌∷◌, ◌++◌, Some, length, set}
use Rattle.std.proofs.Common.{take, drop, get_or, refl, sym, ap, subst, ◌∙◌, arith, append-nil, append_assoc, drop-cons}
use Rattle.std.specs.Prelude.{slice_get}
use Rattle.std.proofs.lemmas.Option.{same_Some, slice_get_within, get_or_from_slice_get}
use Rattle.std.proofs.lemmas.Int.{ints}
use Rattle.std.specs.Ordering.{int_cmp}
use Rattle.std.specs.List.Sorted.{IsPartitionPoint}
use Rattle.std.specs.declared.cmp.Ordering.TheVariants.{Less, Equal, Greater}
use Rattle.std.proofs.lemmas.List.{length-append, length-drop, length-take-le, take-append-le, drop-append-le}
use Rattle.std.proofs.lemmas.List.{take-take, take_at, drop_at, drop_all}
use Rattle.std.proofs.lemmas.List.Edits.{sets-eq}
use Rattle.poly_cut.specs.Cuts.{toggled}
use Rattle.poly_cut.specs.Code.Sweeping.{Rising}
use Rattle.poly_cut.specs.Code.Levels.{IsGap}
use Rattle.poly_cut.specs.declared.ends.End.{End}
use Rattle.poly_cut.proofs.Parity.{rising_of}
use Rattle.poly_cut.proofs.OffWindows.{Toggled, toggled_one}
use Rattle.poly_cut.proofs.Spans.{above_got}
use Rattle.poly_cut.proofs.Toggling.{cmp_less, cmp_greater, cmp_self, less_cmp, greater_cmp, by_order, toggled_so}

-- ---- toggling at the first wall and behind it

behind : (x w : ℤ) (ws : List ℤ) → w <ℤ x → toggled x (w ∷ ws) ≡ w ∷ toggled x ws
unfolding by_order
behind x w ws lt = toggled_so x w ws Greater (cmp_greater x w lt)

away : (x w : ℤ) (ws : List ℤ) → w ≡ x → toggled x (w ∷ ws) ≡ ws
unfolding by_order
away x w ws e = rw e (toggled_so x x ws Equal (cmp_self x))

front : (x : ℤ) (ws : List ℤ) → ((w : ℤ) → slice_get ws 0 ≡ Some w → x <ℤ w) → toggled x ws ≡ x ∷ ws
unfolding by_order
front x [] h = refl
front x (w ∷ ws) h = toggled_so x w ws Less (cmp_less x w (h w refl))

both_behind : (x y w : ℤ) (ws : List ℤ) → w <ℤ x → w <ℤ y → toggled y (toggled x (w ∷ ws)) ≡ w
    ∷ toggled y (toggled x ws)
both_behind x y w ws lt lt' = ap (λ (l : List ℤ). toggled y l) (behind x w ws lt) ∙ behind y w (toggled x ws) lt'

-- ---- two ends, one after the other

-- both walls stand
pub two_away : (x y : ℤ) (ws : List ℤ) (k : ℕ) → Rising ws → slice_get ws k ≡ Some x → slice_get ws (suc k) ≡ Some y
    → toggled y (toggled x ws) ≡ take k ws ++ drop (suc (suc k)) ws
two_away x y [] k up e f = absurd cc
two_away x y (w ∷ []) zero up e f = absurd cc
two_away x y (w ∷ v ∷ ws) zero up e f = ap (λ (l : List ℤ). toggled y l) (away x w (v ∷ ws) (same_Some w x e))
    ∙ away y v ws (same_Some v y f)
two_away x y (w ∷ ws) (suc k) up e f =
    both_behind x y w ws (above_got w ws k x up e) (above_got w ws (suc k) y up f)
    ∙ ap (λ (l : List ℤ). w ∷ l) (two_away x y ws k (rising_of w ws up) e f)

-- the first stands, and the second belongs right behind it
pub moved_on : (x y : ℤ) (ws : List ℤ) (k : ℕ) → Rising ws → slice_get ws k ≡ Some x → x <ℤ y
    → ((w : ℤ) → slice_get ws (suc k) ≡ Some w → y <ℤ w)
    → toggled y (toggled x ws) ≡ set ws k y
moved_on x y [] k up e lt h = absurd cc
moved_on x y (w ∷ ws) zero up e lt h = ap (λ (l : List ℤ). toggled y l) (away x w ws (same_Some w x e)) ∙ front y ws h
moved_on x y (w ∷ ws) (suc k) up e lt h =
    let m : w <ℤ x = above_got w ws k x up e in
    both_behind x y w ws m (omega (arith, ints, m, lt)) ∙ ap (λ (l : List ℤ). w ∷ l)
    (moved_on x y ws k (rising_of w ws up) e lt h)

gap_rest : (w : ℤ) (ws : List ℤ) (k : ℕ) (x : ℤ) → IsGap (w ∷ ws) (suc k) x → IsGap ws k x
gap_rest w ws k x g = record {
  within = (let n = g.within in omega (arith, n));
  before = λ i v lt e. g.before (suc i) v (omega (arith, lt)) e;
  behind = λ v e. g.behind v e;
}

gap_first : (w : ℤ) (ws : List ℤ) (k : ℕ) (x : ℤ) → IsGap (w ∷ ws) (suc k) x → w <ℤ x
gap_first w ws k x g = g.before 0 w (omega arith) refl

-- the second stands, and the first belongs right before it
pub moved_back : (x y : ℤ) (ws : List ℤ) (k : ℕ) → IsGap ws k x → slice_get ws k ≡ Some y
    → toggled y (toggled x ws) ≡ set ws k x
moved_back x y [] k g e = absurd cc
moved_back x y (w ∷ ws) zero g e =
    let is : w ≡ y = same_Some w y e in
    let lt : x <ℤ y = g.behind y e in
    ap (λ (l : List ℤ). toggled y l) (front x (w ∷ ws) g.behind) ∙ behind y x (w ∷ ws) lt
    ∙ ap (λ (l : List ℤ). x ∷ l) (away y w ws is)
moved_back x y (w ∷ ws) (suc k) g e =
    let m : w <ℤ x = gap_first w ws k x g in
    let lt : x <ℤ y = g.behind y e in
    both_behind x y w ws m (omega (arith, ints, m, lt)) ∙ ap (λ (l : List ℤ). w ∷ l)
    (moved_back x y ws k (gap_rest w ws k x g) e)

-- none stands, and both belong at one place
pub two_in : (x y : ℤ) (ws : List ℤ) (k : ℕ) → IsGap ws k x → x <ℤ y → ((w : ℤ) → slice_get ws k ≡ Some w → y <ℤ w)
    → toggled y (toggled x ws) ≡ take k ws ++ x ∷ y ∷ drop k ws
two_in x y ws zero g lt h = ap (λ (l : List ℤ). toggled y l) (front x ws g.behind) ∙ behind y x ws lt
    ∙ ap (λ (l : List ℤ). x ∷ l) (front y ws h)
two_in x y [] (suc k) g lt h = absurd (let n = g.within in omega (arith, n))
two_in x y (w ∷ ws) (suc k) g lt h =
    let m : w <ℤ x = gap_first w ws k x g in
    both_behind x y w ws m (omega (arith, ints, m, lt)) ∙ ap (λ (l : List ℤ). w ∷ l)
    (two_in x y ws k (gap_rest w ws k x g) lt h)

-- ---- the place that a binary search gives

pub gap_of : (x : ℤ) (ws : List ℤ) (k : ℕ) → k ≤ length ws
    → IsPartitionPoint (λ y. int_cmp y x ≡ Less) (λ y. int_cmp y x ≡ Greater) ws k → IsGap ws k x
gap_of x ws k le parts = record {
  within = le;
  before = λ i w lt e.
      (let n : i < length ws = slice_get_within ws i w e in
      subst (λ (v : ℤ). v <ℤ x) (get_or_from_slice_get ws i w x e)
      (less_cmp (get_or ws i x) x (parts.0 i x (omega (arith, lt)) (omega (arith, n)))));
  behind = λ w e.
      (let n : k < length ws = slice_get_within ws k w e in
      subst (λ (v : ℤ). x <ℤ v) (get_or_from_slice_get ws k w x e)
      (greater_cmp (get_or ws k x) x (parts.1 k x (omega arith) (omega (arith, n)))));
}

-- ---- as the code has the numbers and lists

pub taken_so : (ws given new : List ℤ) (k : ℕ) (x y : ℤ) → given ≡ ws → Rising ws → slice_get ws k ≡ Some x
    → slice_get given (k + 1) ≡ Some y
    → new ≡ take k ws ++ drop (k + 2) ws → new ≡ toggled y (toggled x ws)
taken_so ws given new k x y same up e f is =
    let next : k + 1 ≡ suc k = omega arith in
    let more : k + 2 ≡ suc (suc k) = omega arith in
    is ∙ ap (λ (n : ℕ). take k ws ++ drop n ws) more
    ∙ sym (two_away x y ws k up e (sym (λ i. slice_get (same i) (next i)) ∙ f))

pub moved_on_so : (ws given : List ℤ) (k : ℕ) (x y z : ℤ) → given ≡ ws → Rising ws → slice_get ws k ≡ Some x → x <ℤ y
    → ((w : ℤ) → slice_get given (k + 1) ≡ Some w → y <ℤ w) → z ≡ y → set ws k z ≡ toggled y (toggled x ws)
moved_on_so ws given k x y z same up e lt h is =
    let next : k + 1 ≡ suc k = omega arith in
    ap (λ (v : ℤ). set ws k v) is
    ∙ sym (moved_on x y ws k up e lt (λ w f. h w ((λ i. slice_get (same i) (next i)) ∙ f)))

pub moved_back_so : (ws given : List ℤ) (k : ℕ) (x y z : ℤ) → given ≡ ws → IsGap ws k x
    → slice_get given k ≡ Some y → z ≡ x
    → set ws k z ≡ toggled y (toggled x ws)
moved_back_so ws given k x y z same g e is = ap (λ (v : ℤ). set ws k v) is
    ∙ sym (moved_back x y ws k g (ap (λ (l : List ℤ). slice_get l k) (sym same) ∙ e))

pub put_so : (ws given : List ℤ) (k : ℕ) (x y : ℤ) → given ≡ ws → IsGap ws k x → x <ℤ y
    → ((w : ℤ) → slice_get given k ≡ Some w → y <ℤ w)
    → take k ws ++ x ∷ y ∷ drop k ws ≡ toggled y (toggled x ws)
put_so ws given k x y same g lt h =
    sym (two_in x y ws k g lt (λ w e. h w (ap (λ (l : List ℤ). slice_get l k) same ∙ e)))

pub toggled_two : (ws : List ℤ) (rest : List End) (old : List ℤ) (ends : List End) (e f : End) (new : List ℤ)
    → Toggled ws (e ∷ f ∷ rest) old ends
    → new ≡ toggled f.x (toggled e.x ws) → Toggled new rest old ends
toggled_two ws rest old ends e f new t is = toggled_one (toggled e.x ws) rest old ends f new
    (toggled_one ws (f ∷ rest) old ends e (toggled e.x ws) t refl) is

pub two_more : (es : List End) (n : ℕ) (d : End) → n + 1 < length es
    → drop n es ≡ get_or es n d ∷ get_or es (n + 1) d ∷ drop (n + 2) es
two_more es n d lt =
    let next : n + 1 ≡ suc n = omega arith in
    let more : n + 2 ≡ suc (suc n) = omega arith in
    drop-cons es n d (omega arith) ∙ (λ i. get_or es n d ∷ drop-cons es (suc n) d (omega arith) i)
    ∙ (λ i. get_or es n d ∷ get_or es (sym next i) d ∷ drop (sym more i) es)

-- ---- moving once

-- two walls are put in: those behind are copied behind the two, which then take their place
pub put : (ws all moved : List ℤ) (k n : ℕ) (x y : ℤ) → k ≤ length ws → n ≡ length ws - k → all ≡ ws ++ x ∷ y ∷ []
    → moved ≡ take (k + 2) all ++ take n (drop k all) ++ drop (k + 2 + n) all
    → set (set moved k x) (k + 1) y ≡ take k ws ++ x ∷ y ∷ drop k ws
put ws all moved k n x y le is e m =
    let next : k + 1 ≡ suc k = omega arith in
    let two : k + length (x ∷ y ∷ []) ≡ k + 2 = refl in
    let len : length all ≡ length ws + 2 = ap length e ∙ length-append ws (x ∷ y ∷ []) in
    let head : List ℤ = take (k + 2) all in
    let middle : List ℤ = take n (drop k all) in
    let long : length head ≡ k + 2 = length-take-le (k + 2) all (omega (arith, len, le)) in
    let back : drop k all ≡ drop k ws ++ x ∷ y ∷ [] = ap (λ (l : List ℤ). drop k l) e
    ∙ drop-append-le k ws (x ∷ y ∷ []) le in
    let short : length (drop k ws) ≡ n = length-drop k ws ∙ sym is in
    let inner : middle ≡ drop k ws = ap (λ (l : List ℤ). take n l) back ∙ take_at (drop k ws) (x ∷ y ∷ []) n short in
    let none : drop (k + 2 + n) all ≡ [] = drop_all (k + 2 + n) all (omega (arith, len, is, le)) in
    let so : moved ≡ head ++ drop k ws = m ∙ (λ i. head ++ inner i ++ none i) ∙ append-nil (head ++ drop k ws) in
    let low : take k moved ≡ take k ws =
    ap (λ (l : List ℤ). take k l) so ∙ take-append-le k head (drop k ws) (omega (arith, long))
    ∙ take-take k (k + 2) all (omega arith)
    ∙ ap (λ (l : List ℤ). take k l) e ∙ take-append-le k ws (x ∷ y ∷ []) le in
    let high : drop (k + 2) moved ≡ drop k ws = ap (λ (l : List ℤ). drop (k + 2) l) so
    ∙ drop_at head (drop k ws) (k + 2) long in
    let room : k + 2 ≤ length moved =
    (let a = ap length so ∙ length-append head (drop k ws) in omega (arith, a, long)) in
    ap (λ (j : ℕ). set (set moved k x) j y) next ∙ sets-eq (x ∷ y ∷ []) moved k room
    ∙ append_assoc (take k moved) (x ∷ y ∷ []) (drop (k + 2) moved)
    ∙ (λ i. low i ++ (x ∷ y ∷ high i))
