-- From a level up into the slab on it.
use Rattle.std.proofs.Common.{◌≡◌, ℕ, ℤ, ◌<ℤ◌, ◌≤ℤ◌, List, map, sym, ap, subst, ◌∙◌, arith}
use Rattle.std.specs.BTreeMap.{BTreeMap}
use Rattle.std.proofs.lemmas.Int.{ints}
use Rattle.geom.specs.Rectangle.{Rectangle}
use Rattle.poly_cut.specs.declared.ends.End.{End}
use Rattle.poly_cut.specs.Cuts.{between, all_joined}
use Rattle.poly_cut.specs.Code.Sweeping.{Rising, ReachesUp}
use Rattle.poly_cut.specs.Code.Levels.{cut_off, IsPair, IsOpen, FromLeft, Clear, Standing, IsHigh, BeginBelow}
use Rattle.poly_cut.specs.Code.Levels.{EndsLevel, Risen, AtLevel, all_toggled}
use Rattle.poly_cut.proofs.Endings.{low_kept, standing_kept}
use Rattle.poly_cut.proofs.OffWindows.{pair_stays, pair_was}

module _ (ends : List End) (walls : List ℤ) (rects mid : List Rectangle) (last : BTreeMap ℤ ℕ) (y top : ℤ)
    (left : FromLeft ends) (at : AtLevel rects last walls y top) (e : EndsLevel ends y rects mid) where
  pub ended_low : BeginBelow mid y
  ended_low = low_kept rects mid last walls y e.same at.low

  pub ended_reaches : ReachesUp (map (cut_off y) mid) last y
  ended_reaches = subst (λ (l : List Rectangle). ReachesUp l last y) (sym e.same) at.reaches

  pub ended_high : IsHigh mid y top
  ended_high n r g hi = at.high n r (e.clear n r g hi).0 hi

  pub ended_standing : Standing mid last (all_toggled ends walls) y
  ended_standing = (let s = standing_kept rects mid last walls y e.same
      (λ n r g hi. (e.clear n r g hi).0) at.standing in record {
        stand = s.stand;
        own = s.own;
        found = s.found;
        paired = λ n r g hi.
            let c = e.clear n r g hi in
            let p = at.standing.paired n r c.0 hi in
            pair_stays ends walls p.0 r.x0 r.x1 at.rising left c.1 p.1;
      })

  pub ended_clear : (i : ℕ) (a b : ℤ) → IsPair (all_toggled ends walls) i a b → Clear ends a b → IsOpen mid last a b top
  ended_clear i a b p c =
      let k = pair_was ends walls i a b at.rising left c p in
      let o = at.begun k.0 a b k.1 in
      record {
        place = o.place;
        rect = o.rect;
        found = o.found;
        there = e.kept o.place o.rect o.there
            (subst (λ (x : ℤ). Clear ends x o.rect.x1) (sym o.left)
            (subst (λ (x : ℤ). Clear ends a x) (sym o.right) c));
        left = o.left;
        right = o.right;
        high = o.high;
      }

pub risen_at : (old : List Rectangle) (walls : List ℤ) (y top : ℤ) (rects : List Rectangle) (last : BTreeMap ℤ ℕ)
    → Rising walls → Risen old walls y top rects last → (z : ℤ) → y <ℤ z → z ≤ℤ top → AtLevel rects last walls z top
risen_at old walls y top rects last up r z lt le = record {
  rising = up;
  reaches = r.reaches z lt le;
  standing = record {
    stand = r.standing.stand;
    own = r.standing.own;
    found = λ n s g hi. r.standing.found n s g (omega (arith, ints, lt, hi));
    paired = λ n s g hi. r.standing.paired n s g (omega (arith, ints, lt, hi));
  };
  high = λ n s g hi. r.high n s g (omega (arith, ints, lt, hi));
  low = λ n s g. (let h = r.low n s g in omega (arith, ints, lt, h));
  begun = r.begun;
}

pub risen_joined : (ends : List End) (walls : List ℤ) (rects mid new : List Rectangle) (last : BTreeMap ℤ ℕ) (y top : ℤ)
    → EndsLevel ends y rects mid → Risen mid walls y top new last → (z : ℤ) → y <ℤ z → z ≤ℤ top
    → map (cut_off z) new ≡ all_joined (map (cut_off y) rects) (between y z walls)
risen_joined ends walls rects mid new last y top e r z lt le = r.whole z lt le
    ∙ ap (λ (l : List Rectangle). all_joined l (between y z walls)) e.same
