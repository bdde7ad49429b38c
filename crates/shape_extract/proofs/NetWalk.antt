-- What the walk over touching shapes keeps.
use Rattle.std.proofs.Common.{◌≡◌, ◌≢◌, ℕ, suc, ◌+◌, ◌<◌, ◌≤◌, Bool, true, false, List, [], ◌∷◌, length, set, ◌++◌}
use Rattle.std.proofs.Common.{refl, sym, ap, subst, ◌∙◌, arith, inl, inr, below_more}
use Rattle.std.specs.Prelude.{nat_lt, slice_index, slice_set, sum}
use Rattle.std.proofs.lemmas.List.{get_or-set_other, get_or-set_same, length-set}
use Rattle.std.proofs.Math.ListN.{get_or-append, length-append}
use Rattle.std.proofs.Math.Seq.{get_or-append_seam}
use Rattle.std.proofs.lemmas.List.Sums.{sum_by-set}
use Rattle.std.proofs.lemmas.Bool.{cases_eq, cases_lt}
use Rattle.std.proofs.lemmas.Bool.Decides.{nat_tests}
use Rattle.std.proofs.lemmas.Option.{slice_get_within}
use Rattle.geom.specs.declared.shapes.Shape.{Shape}
use Rattle.layout_rules.specs.Touch.{Touching, Joined}
use Rattle.layout_rules.specs.Nets.{AreNets}
use Rattle.layout_rules.proofs.NetLaws.{Touching-back, Touching-within, Joined-trans, Joined-touching}
use Rattle.layout_rules.proofs.NetLaws.{AreNets-certified}
use Rattle.shape_extract.specs.Searches.{SaysWhether}
use Rattle.shape_extract.specs.Code.Walk.{AreTouching, IsWalk, IsSpreadTo, IsDone, AreMarked, IsLowest, HasTouching}
use Rattle.shape_extract.specs.Code.Walk.{is_touched, IsTold, AreToldTo, AreTold, IsReached, IsUnbegun, IsDoneTo}
use Rattle.shape_extract.specs.Code.Walk.{IsGrown}
use Rattle.shape_extract.specs.declared.connectivity.net_walk.Walk.{Walk}

pub sum_lowered : (ls : List ℕ) (i v : ℕ) → i < length ls → v < slice_index ls i → sum (set ls i v) < sum ls
sum_lowered ls i v lt less = omega (arith, sum_by-set (λ x. x) ls i v 0 lt)

pub long_more : (order : List ℕ) (j : ℕ) → length (order ++ (j ∷ [])) ≡ suc (length order)
long_more order j = omega (arith, length-append order (j ∷ []))

pub old_place : (order : List ℕ) (j p : ℕ) → p < length order → slice_index (order ++ (j ∷ [])) p ≡ slice_index order p
old_place order j p lt = get_or-append order (j ∷ []) 0 p lt

pub new_place : (order : List ℕ) (j : ℕ) → slice_index (order ++ (j ∷ [])) (length order) ≡ j
new_place order j = get_or-append_seam order j [] 0

pub at_set : (ls : List ℕ) (j m k : ℕ) → k ≡ j → j < length ls → slice_index (set ls j m) k ≡ m
at_set ls j m k e lt = ap (λ (x : ℕ). slice_index (set ls j m) x) e ∙ get_or-set_same ls j m 0 lt

pub off_set : (ls : List ℕ) (j m k : ℕ) → k ≢ j → slice_index (set ls j m) k ≡ slice_index ls k
off_set ls j m k ne = get_or-set_other ls j k m 0 ne

-- one more shape is labelled
pub walk_more : (shapes : List Shape) (labels order : List ℕ) (j m : ℕ) → IsWalk shapes labels order → j < length shapes
    → m < length shapes → m ≤ j → length shapes ≤ slice_index labels j → Joined shapes j m
    → IsWalk shapes (set labels j m) (order ++ (j ∷ []))
walk_more shapes labels order j m w lj marked low free r =
    let lj2 : j < length labels = omega (arith, w.long) in
    record {
      long = length-set labels j m ∙ w.long;
      joined = λ k lk mk. elim (cases_eq k j) [
        | inl e ↦
            rw (at_set labels j m k e lj2) (rw e r)
        | inr ne ↦ rw (off_set labels j m k ne) (w.joined k lk (omega (arith, off_set labels j m k ne)))
      ];
      lower = λ k lk mk. elim (cases_eq k j) [
        | inl e ↦ omega (arith, at_set labels j m k e lj2)
        | inr ne ↦ omega (arith, off_set labels j m k ne, w.lower k lk (omega (arith, off_set labels j m k ne)))
      ];
      ordered = λ k lk mk. elim (cases_eq k j) [
        | inl e ↦ (length order, (omega (arith, long_more order j), new_place order j ∙ sym e))
        | inr ne ↦
            let p = w.ordered k lk (omega (arith, off_set labels j m k ne)) in
            (p.0, (omega (arith, long_more order j, p.1.0), old_place order j p.0 p.1.0 ∙ p.1.1))
      ];
      within = λ p lp. elim (cases_lt p (length order)) [
        | inl lt ↦ omega (arith, old_place order j p lt, w.within p lt)
        | inr ge ↦ let e : p ≡ length order = omega (arith, long_more order j) in let f : slice_index
            (order ++ (j ∷ [])) p ≡ j = ap (λ (x : ℕ). slice_index (order ++ (j ∷ [])) x) e
            ∙ new_place order j in omega arith
      ];
      labelled = λ p lp. elim (cases_lt p (length order)) [
        | inl lt ↦
            let old = old_place order j p lt in
            let was = w.labelled p lt in
            let ne : slice_index order p ≢ j =
            λ e. absurd (let f : slice_index labels (slice_index order p) ≡ slice_index labels j =
            ap (λ (x : ℕ). slice_index labels x) e in omega arith) in
            rw old (omega (arith, off_set labels j m (slice_index order p) ne, was))
        | inr ge ↦
            let e : p ≡ length order = omega (arith, long_more order j) in
            let f : slice_index (order ++ (j ∷ [])) p ≡ j = ap (λ (x : ℕ). slice_index (order ++ (j ∷ [])) x) e
            ∙ new_place order j in
            omega (arith, at_set labels j m (slice_index (order ++ (j ∷ [])) p) f lj2)
      ];
    }

pub spread_more : (shapes : List Shape) (numbers labels order new more : List ℕ) (from i : ℕ)
    → IsSpreadTo i shapes numbers labels order new more from
    → IsLowest shapes labels (slice_index labels from) → from < length shapes → slice_index labels from < length shapes
    → length shapes ≤ slice_index new (slice_index numbers i) → Touching shapes from (slice_index numbers i)
    → IsSpreadTo (i + 1) shapes numbers labels order (set new (slice_index numbers i) (slice_index labels from))
    (more ++ (slice_index numbers i ∷ [])) from
spread_more shapes numbers labels order new more from i s below lf marked free t =
    let j : ℕ = slice_index numbers i in
    let m : ℕ = slice_index labels from in
    let lj : j < length shapes = (Touching-within t).1 in
    let low : m ≤ j = elim (cases_lt j m) [
      | inl lt ↦ absurd
          (omega (arith, below j lt, s.kept j (below j lt)))
      | inr ge ↦ ge
    ] in
    let is_new : slice_index new from ≡ m = s.kept from marked in
    let lj2 : j < length new = omega (arith, s.walk.long) in
    let joined_so : Joined shapes j m = rw is_new at
    (Joined-trans shapes j from (slice_index new from) (Joined-touching shapes j from (Touching-back t))
    (s.walk.joined from lf (omega arith))) in
    record {
      walk = walk_more shapes new more j m s.walk lj marked low free joined_so;
      kept = λ k lk. off_set new j m k
          (λ e. absurd (let f : slice_index new k ≡ slice_index new j = ap (λ (x : ℕ). slice_index new x) e in omega
          (arith, s.kept k lk))) ∙ s.kept k lk;
      reached = λ p lp. elim (cases_eq (slice_index numbers p) j) [
        | inl e ↦ omega (arith, at_set new j m (slice_index numbers p) e lj2)
        | inr ne ↦ elim (cases_eq p i) [
          | inl same ↦ absurd (ne (ap (λ (x : ℕ). slice_index numbers x) same))
          | inr other ↦ omega (arith, off_set new j m (slice_index numbers p) ne, s.reached p (omega arith))
        ]
      ];
      longer = omega (arith, long_more more j, s.longer);
      prefix = λ p lp. old_place more j p (omega (arith, s.longer)) ∙ s.prefix p lp;
      marked = λ p ge lp. elim (cases_lt p (length more)) [
        | inl lt ↦
            let ne : slice_index more p ≢ j =
            λ e. absurd (let f : slice_index new (slice_index more p) ≡ slice_index new j =
            ap (λ (x : ℕ). slice_index new x) e in omega (arith, s.walk.labelled p lt)) in
            ap (λ (x : ℕ). slice_index (set new j m) x) (old_place more j p lt)
            ∙ off_set new j m (slice_index more p) ne ∙ s.marked p ge lt
        | inr h ↦
            let e : p ≡ length more = omega (arith, long_more more j) in
            let f : slice_index (more ++ (j ∷ [])) p ≡ j = ap (λ (x : ℕ). slice_index (more ++ (j ∷ [])) x) e
            ∙ new_place more j in
            at_set new j m (slice_index (more ++ (j ∷ [])) p) f lj2
      ];
      less = omega (arith, long_more more j, sum_lowered new j m lj2 (omega arith), s.less);
    }

pub spread_same : (shapes : List Shape) (numbers labels order new more : List ℕ) (from i : ℕ)
    → IsSpreadTo i shapes numbers labels order new more from
    → slice_index new (slice_index numbers i) < length shapes
    → IsSpreadTo (i + 1) shapes numbers labels order new more from
spread_same shapes numbers labels order new more from i s here = record {
  walk = s.walk;
  kept = s.kept;
  reached = λ p lp. elim (cases_eq p i) [
    | inl e ↦ rw e here
    | inr ne ↦ s.reached p (omega arith)
  ];
  longer = s.longer;
  prefix = s.prefix;
  marked = s.marked;
  less = s.less;
}

pub reached_now : (shapes : List Shape) (labels order new more numbers : List ℕ) (from : ℕ)
    → AreTouching shapes from numbers → IsSpreadTo (length numbers) shapes numbers labels order new more from
    → IsReached shapes labels order new more from
reached_now shapes labels order new more numbers from are s = record {
  walk = s.walk;
  kept = s.kept;
  all_reached = λ j t. (let n =
      are.complete j t in rw n.1.1 at (s.reached n.0 n.1.0));
  longer = s.longer;
  prefix = s.prefix;
  marked = s.marked;
  less = s.less;
}

-- ---- what is told of shapes: whether some shape touches them

-- where touching shapes are listed, some touch
some_listed : (shapes : List Shape) (from : ℕ) (numbers : List ℕ) → AreTouching shapes from numbers → (b : Bool)
    → nat_lt 0 (length numbers) ≡ b → SaysWhether b (HasTouching shapes from)
some_listed shapes from numbers are true e =
    (let some : 0 < length numbers = grind (arith, nat_tests) in (slice_index numbers 0, are.each 0 some))
some_listed shapes from numbers are false e =
    λ h. (let none : length numbers ≤ 0 = grind (arith, nat_tests) in let k =
    are.complete h.0 h.1 in absurd (omega (arith, k.1.0)))

pub told_now : (shapes : List Shape) (from : ℕ) (numbers : List ℕ) (touched new : List Bool)
    → AreTouching shapes from numbers → from < length touched → new ≡ slice_set touched from (nat_lt 0 (length numbers))
    → IsTold shapes from touched new
told_now shapes from numbers touched new are lt is = subst (IsTold shapes from touched) (sym is) (record {
  long = length-set touched from (nat_lt 0 (length numbers));
  here = rw (get_or-set_same touched from (nat_lt 0 (length numbers)) false lt)
      (some_listed shapes from numbers are (nat_lt 0 (length numbers)) refl);
  kept = λ d ne. get_or-set_other touched from d (nat_lt 0 (length numbers)) false ne;
})

told_of : (shapes : List Shape) (touched : List Bool) (d e : ℕ) → d ≡ e
    → SaysWhether (is_touched touched d) (HasTouching shapes d)
    → SaysWhether (is_touched touched e) (HasTouching shapes e)
told_of shapes touched d e same h = rw same at h

-- the order has grown
pub told_longer : (n : ℕ) (shapes : List Shape) (order more : List ℕ) (touched : List Bool)
    → AreToldTo n shapes order touched → ((p : ℕ) → p < n → slice_index more p ≡ slice_index order p)
    → AreToldTo n shapes more touched
told_longer n shapes order more touched are prefix =
    record {
      long = are.long;
      each = λ p lt. told_of shapes touched (slice_index order p) (slice_index more p)
          (sym (prefix p lt)) (are.each p lt);
    }

-- the next of the order is told of
pub told_more : (n : ℕ) (shapes : List Shape) (order more : List ℕ) (touched new : List Bool)
    → AreToldTo n shapes order touched → n < length order
    → ((p : ℕ) → p < length order → slice_index more p ≡ slice_index order p)
    → IsTold shapes (slice_index order n) touched new → AreToldTo (n + 1) shapes more new
told_more n shapes order more touched new are lt prefix told = record {
  long = told.long ∙ are.long;
  each = λ p lp. told_of shapes new (slice_index order p) (slice_index more p) (sym (prefix p (omega arith)))
      (elim (cases_eq (slice_index order p) (slice_index order n)) [
        | inl same ↦ told_of shapes new (slice_index order n) (slice_index order p) (sym same) told.here
        | inr ne ↦
            let before : p < n = elim (cases_eq p n) [
              | inl e ↦ absurd
                  (ne (ap (slice_index order) e))
              | inr other ↦ omega arith
            ] in
            rw (told.kept (slice_index order p) ne) (are.each p before)
      ]);
}

-- ---- the order

-- the next of the order is done
pub done_more : (shapes : List Shape) (labels order new more : List ℕ) (done m : ℕ) → IsWalk shapes labels order
    → IsDone shapes labels order done → AreMarked labels order done m → done < length order
    → IsReached shapes labels order new more (slice_index order done) → IsDone shapes new more (done + 1)
done_more shapes labels order new more done m w d marks ld s = λ p j lp touching.
    let lp2 : p < length order = omega arith in
    let same_place : slice_index more p ≡ slice_index order p = s.prefix p lp2 in
    let t : Touching shapes (slice_index order p) j = rw same_place at touching in
    let lj : j < length shapes = slice_get_within shapes j t.second t.second_is in
    let here : slice_index new (slice_index more p) ≡ slice_index labels (slice_index order p) =
    ap (λ (x : ℕ). slice_index new x) same_place ∙ s.kept (slice_index order p) (w.labelled p lp2) in
    elim (cases_lt p done) [
      | inl lt ↦
          let e : slice_index labels j ≡ slice_index labels (slice_index order p) = d p j lt t in
          s.kept j (omega (arith, w.labelled p lp2)) ∙ e ∙ sym here
      | inr ge ↦
          let e : p ≡ done = omega arith in
          let u : Touching shapes (slice_index order done) j =
          rw e at t in
          let mp : slice_index labels (slice_index order p) ≡ m = marks p ge lp2 in
          let from_is : slice_index labels (slice_index order done) ≡ m = marks done (omega arith) ld in
          let goal_is : slice_index new j ≡ m = elim (cases_lt (slice_index labels j) (length shapes)) [
            | inl known ↦
                let q = w.ordered j lj known in
                elim (cases_lt q.0 done) [
                  | inl before ↦
                      let back : Touching shapes (slice_index order q.0) (slice_index order done) =
                      rw q.1.1 (Touching-back u) in
                      let f = d q.0 (slice_index order done) before back in
                      let g : slice_index labels (slice_index order q.0) ≡ slice_index labels j =
                      ap (λ (x : ℕ). slice_index labels x) q.1.1 in
                      s.kept j known ∙ sym g ∙ sym f ∙ from_is
                  | inr after ↦
                      let g : slice_index labels (slice_index order q.0) ≡ slice_index labels j =
                      ap (λ (x : ℕ). slice_index labels x) q.1.1 in
                      s.kept j known ∙ sym g ∙ marks q.0 after q.1.0
                ]
            | inr free ↦
                let here : slice_index new j < length shapes = s.all_reached j u in
                let q = s.walk.ordered j lj here in
                let g : slice_index new (slice_index more q.0) ≡ slice_index new j =
                ap (λ (x : ℕ). slice_index new x) q.1.1 in
                elim (cases_lt q.0 (length order)) [
                  | inl before ↦ absurd (let f : slice_index labels (slice_index order q.0) ≡ slice_index labels j =
                      ap (λ (x : ℕ). slice_index labels x) (sym (s.prefix q.0 before) ∙ q.1.1) in omega
                      (arith, w.labelled q.0 before))
                  | inr after ↦ sym g ∙ s.marked q.0 after q.1.0 ∙ from_is
                ]
          ] in
          goal_is ∙ sym mp ∙ sym here
    ]

pub marks_more : (shapes : List Shape) (labels order new more : List ℕ) (done m : ℕ) → IsWalk shapes labels order
    → AreMarked labels order done m → done < length order
    → IsReached shapes labels order new more (slice_index order done) → AreMarked new more (done + 1) m
marks_more shapes labels order new more done m w marks ld s = λ p ge lp. elim (cases_lt p (length order)) [
  | inl before ↦ ap (λ (x : ℕ). slice_index new x) (s.prefix p before)
      ∙ s.kept (slice_index order p) (w.labelled p before) ∙ marks p (omega arith) before
  | inr after ↦ s.marked p after lp ∙ marks done (omega arith) ld
]

-- the walk after it has spread from the next of its order
pub done_next : (shapes : List Shape) (w new : Walk) (done m from : ℕ) → IsDoneTo done m shapes w
    → done < length w.order.items → from ≡ slice_index w.order.items done
    → IsReached shapes w.labels.items w.order.items new.labels.items new.order.items from
    → IsTold shapes from w.touched.items new.touched.items → IsDoneTo (done + 1) m shapes new
done_next shapes w new done m from d lt is reached told =
    let s : IsReached shapes w.labels.items w.order.items new.labels.items new.order.items
    (slice_index w.order.items done) = rw is at reached in
    record {
      walk = s.walk;
      all_done = done_more _ _ _ _ _ _ _ d.walk d.all_done d.marks lt s;
      marks = marks_more _ _ _ _ _ _ _ d.walk d.marks lt s;
      within = omega (arith, s.longer);
      told = told_more done shapes w.order.items new.order.items w.touched.items new.touched.items d.told lt s.prefix
          (rw is at told);
    }

-- what is labelled is so after it
pub still_next : (shapes : List Shape) (w new : Walk) (from : ℕ)
    → IsReached shapes w.labels.items w.order.items new.labels.items new.order.items from → (k : ℕ)
    → slice_index w.labels.items k < length shapes → slice_index new.labels.items k < length shapes
still_next shapes w new from s k lk = omega (arith, s.kept k lk)

-- the walk after it has spread from all
pub done_all : (shapes : List Shape) (before w : Walk) (done m : ℕ) → length w.order.items ≤ done
    → IsDoneTo done m shapes w
    → ((k : ℕ) → slice_index before.labels.items k < length shapes → slice_index w.labels.items k < length shapes)
    → IsGrown shapes before w
done_all shapes before w done m all d still = record {
  grown = d.walk;
  all_done = λ p j lp t. d.all_done p j (omega arith) t;
  told = record { long = d.told.long; each = λ p lp. d.told.each p (omega arith) };
  still = still;
}

-- the walk is done and has told of all that it reached, and it has reached the first n shapes
pub record WalkedTo (n : ℕ) (shapes : List Shape) (w : Walk) : Type 0 where
  pub walk : IsWalk shapes w.labels.items w.order.items
  pub all_done : IsDone shapes w.labels.items w.order.items (length w.order.items)
  pub told : AreToldTo (length w.order.items) shapes w.order.items w.touched.items
  pub reached : (k : ℕ) → k < n → slice_index w.labels.items k < length shapes

-- a walk that has reached each shape gives the nets
pub walked_nets : (shapes : List Shape) (w : Walk) (n : ℕ) → length shapes ≤ n → WalkedTo n shapes w
    → AreNets shapes w.labels.items
walked_nets shapes w n all d = AreNets-certified shapes w.labels.items (record {
  long = d.walk.long;
  joined = λ i li. d.walk.joined i li (d.reached i (omega arith));
  not_above = λ i li. d.walk.lower i li (d.reached i (omega arith));
  agree = λ i j t.
      let li : i < length shapes = (Touching-within t).0 in
      let q = d.walk.ordered i li (d.reached i (omega arith)) in
      let f = d.all_done q.0 j q.1.0 (rw q.1.1 t) in
      let g : slice_index w.labels.items (slice_index w.order.items q.0) ≡ slice_index w.labels.items i =
      ap (λ (x : ℕ). slice_index w.labels.items x) q.1.1 in
      sym g ∙ sym f;
})

-- and has told of each
pub walked_told : (shapes : List Shape) (w : Walk) (n : ℕ) → length shapes ≤ n → WalkedTo n shapes w
    → AreTold shapes w.touched.items
walked_told shapes w n all d = record {
  long = d.told.long;
  each = λ i lt. (let p = d.walk.ordered i lt (d.reached i (omega arith)) in told_of shapes w.touched.items
      (slice_index w.order.items p.0) i p.1.1 (d.told.each p.0 p.1.0));
}

-- a shape that is not reached begins a net
pub root_done : (shapes : List Shape) (labels order : List ℕ) (i : ℕ) → IsWalk shapes labels order
    → IsDone shapes labels order (length order) → i < length shapes → length shapes ≤ slice_index labels i
    → IsDone shapes (set labels i i) (order ++ (i ∷ [])) (length order)
root_done shapes labels order i w d li free = λ p j lp touching.
    let t : Touching shapes (slice_index order p) j = rw (old_place order i p lp) at touching in
    let e : slice_index labels j ≡ slice_index labels (slice_index order p) = d p j lp t in
    let known = w.labelled p lp in
    let ne : j ≢ i = λ f. absurd
    (let g : slice_index labels j ≡ slice_index labels i = ap (λ (x : ℕ). slice_index labels x) f in omega arith) in
    let ne2 : slice_index order p ≢ i =
    λ f. absurd (let g : slice_index labels (slice_index order p) ≡ slice_index labels i =
    ap (λ (x : ℕ). slice_index labels x) f in omega arith) in
    off_set labels i i j ne ∙ e ∙ sym (off_set labels i i (slice_index order p) ne2)
    ∙ sym (ap (λ (x : ℕ). slice_index (set labels i i) x) (old_place order i p lp))

pub root_walk : (shapes : List Shape) (labels order : List ℕ) (i : ℕ) → IsWalk shapes labels order → i < length shapes
    → length shapes ≤ slice_index labels i → IsWalk shapes (set labels i i) (order ++ (i ∷ []))
root_walk shapes labels order i w li free = walk_more shapes labels order i i w li li (omega arith) free ([], refl)

-- the walk with a new net, which begins at shape i
pub root_begun : (shapes : List Shape) (w new : Walk) (i : ℕ) → WalkedTo i shapes w → i < length shapes
    → length shapes ≤ slice_index w.labels.items i → new.labels.items ≡ set w.labels.items i i
    → new.order.items ≡ w.order.items ++ (i ∷ []) → new.touched.items ≡ w.touched.items
    → IsDoneTo (length w.order.items) i shapes new
root_begun shapes w new i d li free labels_are order_is touched_is = record {
  walk = rw (labels_are, order_is) (root_walk shapes w.labels.items w.order.items i d.walk li free);
  all_done = rw (labels_are, order_is) (root_done shapes w.labels.items w.order.items i d.walk d.all_done li free);
  marks = rw (labels_are, order_is) (λ p ge lp.
      (let e : p ≡ length w.order.items = omega (arith, long_more w.order.items i) in
      at_set w.labels.items i i _ (ap (slice_index (w.order.items ++ (i ∷ []))) e ∙ new_place w.order.items i)
      (omega (arith, d.walk.long))));
  within = rw order_is (omega (arith, long_more w.order.items i));
  told = rw (order_is, touched_is) (told_longer (length w.order.items) shapes w.order.items
      (w.order.items ++ (i ∷ [])) w.touched.items d.told (λ p lt. old_place w.order.items i p lt));
}

pub root_kept : (n : ℕ) (labels : List ℕ) (i k : ℕ) → i < n → i < length labels → slice_index labels k < n
    → slice_index (set labels i i) k < n
root_kept n labels i k ln li lk =
    elim (cases_eq k i) [
      | inl e ↦ omega (arith, at_set labels i i k e li)
      | inr ne ↦ omega
          (arith, off_set labels i i k ne)
    ]

-- the net that begins at shape i is walked, or shape i was reached before
pub walked_on : (shapes : List Shape) (w begun new : Walk) (i : ℕ) → WalkedTo i shapes w → i < length shapes
    → begun.labels.items ≡ set w.labels.items i i → IsGrown shapes begun new → WalkedTo (i + 1) shapes new
walked_on shapes w begun new i d li is g =
    let ll : i < length w.labels.items = omega (arith, d.walk.long) in
    record {
      walk = g.grown;
      all_done = g.all_done;
      told = g.told;
      reached = below_more (λ (k : ℕ). slice_index new.labels.items k < length shapes) i
          (λ k lk. g.still k (rw is (root_kept (length shapes) w.labels.items i k li ll (d.reached k lk))))
          (g.still i (rw is (omega (arith, at_set w.labels.items i i i refl ll))));
    }

pub walked_past : (shapes : List Shape) (w : Walk) (i : ℕ) → WalkedTo i shapes w
    → slice_index w.labels.items i < length shapes → WalkedTo (i + 1) shapes w
walked_past shapes w i d here = record {
  walk = d.walk;
  all_done = d.all_done;
  told = d.told;
  reached = below_more (λ (k : ℕ). slice_index w.labels.items k < length shapes) i d.reached here;
}

-- no shape is labelled
pub walked_none : (shapes : List Shape) (w : Walk) → IsUnbegun (length shapes) w → WalkedTo 0 shapes w
walked_none shapes w u =
    let none : length w.order.items ≡ 0 = ap length u.order in
    record {
      walk = record {
        long = u.long;
        joined = λ k lk mk. absurd (omega (arith, u.none k lk));
        lower = λ k lk mk. absurd (omega (arith, u.none k lk));
        ordered = λ k lk mk. absurd (omega (arith, u.none k lk));
        within = λ p lp. absurd (omega arith);
        labelled = λ p lp. absurd (omega arith);
      };
      all_done = λ p j lp t. absurd (omega arith);
      told = record { long = u.touched; each = λ p lt. absurd (omega arith) };
      reached = λ k lt. absurd (omega arith);
    }
