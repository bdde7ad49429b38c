-- The coordinates of a flat form are bounded.
use Rattle.std.proofs.Common.{◌≡◌, ℕ, zero, suc, ◌+◌, ◌*◌, ◌^◌, ◌<◌, ◌≤◌, ℤ, pos, ◌+ℤ◌, ◌-ℤ◌, ◌*ℤ◌, neg_ℤ, ◌≤ℤ◌}
use Rattle.std.proofs.Common.{FitsSigned, List, [], ◌∷◌, ◌++◌, map, Bool, true, false, refl, ap, ◌∙◌, arith}
use Rattle.std.specs.Prelude.{int_le, int_lt, ◌&&◌}
use Rattle.std.specs.Int.{w32}
use Rattle.std.specs.List.{flat_map, AllByRecursion}
use Rattle.std.proofs.lemmas.Int.{ints, by_lt_z}
use Rattle.geom.specs.Rectangle.{Rectangle, moved}
use Rattle.geom.specs.declared.shapes.Shape.{Shape}
use Rattle.geom.specs.declared.shapes.Label.{Label}
use Rattle.poly_cut.specs.declared.layout.Point.{Point}
use Rattle.poly_cut.specs.declared.layout.Turn.{Turn}
use Rattle.poly_cut.specs.declared.layout.Grid.{Grid}
use Rattle.poly_cut.specs.declared.layout.Item.{Item}
use Rattle.poly_cut.specs.declared.layout.Item.TheVariants.{Draw, Place, Text}
use Rattle.poly_cut.specs.declared.layout.WideStructure.{WideStructure}
use Rattle.poly_cut.specs.Turns.{point, repeated, asked, mirrored, quarter, turned, added, row_points, grid_rows}
use Rattle.poly_cut.specs.Turns.{grid_points, placed_shape, placed_label, mirrored_point, quarter_point, turned_point}
use Rattle.std.specs.Prelude.{All}
use Rattle.std.proofs.lemmas.List.Elements.{All-head, All-tail, All-from_recursion}
use Rattle.std.specs.declared.cmp.Ordering.{Ordering}
use Rattle.std.specs.declared.cmp.Ordering.TheVariants.{Less, Equal, Greater}
use Rattle.std.specs.Ordering.{int_cmp}
use Rattle.poly_cut.specs.declared.layout.Figure.{Figure}
use Rattle.poly_cut.specs.declared.layout.Figure.TheVariants.{Ring, Path}
use Rattle.poly_cut.specs.declared.layout.WideLayout.{WideLayout}
use Rattle.poly_cut.specs.Rings.{Edge, edges_from, covers}
use Rattle.poly_cut.specs.Cuts.{box, toggled, walls, placed, levels, between, slabs_from, slabs, stands_on, joined}
use Rattle.poly_cut.specs.Cuts.{all_joined, ring_cut}
use Rattle.poly_cut.specs.Paths.{stroke, segment, past, segments, end_of}
use Rattle.poly_cut.specs.Code.Strokes.{IsHalfWidth}
use Rattle.poly_cut.proofs.Segments.{end_short, half_short}
use Rattle.poly_cut.specs.Figures.{cut_of, IsNarrow, IsDrawn}
use Rattle.poly_cut.specs.FlatForm.{items_at, shape, item_shapes, item_labels, shapes_of, labels_of, wide_flat}
use Rattle.poly_cut.specs.Conditions.{IsGrid, IsPlaced, IsItem, AreItems, IsFlattenable}
use Rattle.poly_cut.specs.Code.Strides.{steps, IsRow}
use Rattle.poly_cut.specs.Bounds.{IsAtMost, IsNear, IsWithin, IsShapeWithin, IsLabelWithin, reach}

-- ---- steps

steps_up : (n : ℕ) (s x : ℤ) → pos 0 ≤ℤ s → x ≤ℤ steps n s x
unfolding steps
steps_up zero s x h = omega (arith, ints)
steps_up (suc n) s x h = let k : (x +ℤ s) ≤ℤ (steps n s (x +ℤ s)) = steps_up n s (x +ℤ s) h in omega (arith, ints, h, k)

steps_down : (n : ℕ) (s x : ℤ) → s ≤ℤ pos 0 → steps n s x ≤ℤ x
unfolding steps
steps_down zero s x h = omega (arith, ints)
steps_down (suc n) s x h = let k : (steps n s (x +ℤ s)) ≤ℤ (x +ℤ s) = steps_down n s (x +ℤ s) h in
    omega (arith, ints, h, k)

-- the first step stays between the start and the end
pub first_step : (b n : ℕ) (s x : ℤ) → IsAtMost b x → IsAtMost b (steps (suc n) s x) → IsAtMost b (x +ℤ s)
unfolding steps
first_step b n s x h k = by_lt_z s (pos 0)
    (λ low. let d : (steps n s (x +ℤ s)) ≤ℤ (x +ℤ s) = steps_down n s (x +ℤ s) (omega (arith, ints, low)) in
    (omega (arith, ints, h.0, k.0, d), omega (arith, ints, h.1, low)))
    (λ high. let u : (x +ℤ s) ≤ℤ (steps n s (x +ℤ s)) = steps_up n s (x +ℤ s) high in
    (omega (arith, ints, h.0, high), omega (arith, ints, k.1, u)))

-- steps from elsewhere
steps_shift : (n : ℕ) (s x d : ℤ) → steps n s (x +ℤ d) ≡ steps n s x +ℤ d
unfolding steps
steps_shift zero s x d = refl
steps_shift (suc n) s x d = let e : x +ℤ d +ℤ s ≡ x +ℤ s +ℤ d = omega (arith, ints) in
    ap (λ (v : ℤ). steps n s v) e ∙ steps_shift n s (x +ℤ s) d

-- ---- points of grids

pub row_near : (b n : ℕ) (step p : Point) → IsNear b p → IsAtMost b (steps n step.x p.x)
    → IsAtMost b (steps n step.y p.y) → AllByRecursion (IsNear b) (row_points n step p)
unfolding steps
row_near b zero step p near ex ey = tt
row_near b (suc n) step p near ex ey = (
  near,
  row_near b n step (added p step)
      (first_step b n step.x p.x near.0 ex, first_step b n step.y p.y near.1 ey) ex ey,
)

all_append : {A : Type 0} (P : A → Type 0) (xs ys : List A) → AllByRecursion P xs → AllByRecursion P ys
    → AllByRecursion P (xs ++ ys)
all_append P [] ys a b = b
all_append P (x ∷ xs) ys a b = (a.0, all_append P xs ys a.1 b)

-- the row that begins at y ends not much farther than the first row, which begins at x
pub row_end : (n : ℕ) (s x y : ℤ) → IsAtMost (2 ^ 31) x → IsAtMost (2 ^ 31) y → IsAtMost (2 ^ 31) (steps n s x)
    → IsAtMost (3 * 2 ^ 31) (steps n s y)
row_end n s x y hx hy hs =
    let d : y ≡ x +ℤ (y -ℤ x) = omega (arith, ints) in
    let e : steps n s y ≡ steps n s x +ℤ (y -ℤ x) = ap (λ (v : ℤ). steps n s v) d ∙ steps_shift n s x (y -ℤ x) in
    rw e (
      omega (arith, ints, hx.0, hx.1, hy.0, hy.1, hs.0, hs.1),
      omega
          (arith, ints, hx.0, hx.1, hy.0, hy.1, hs.0, hs.1),
    )

-- rows that begin at p: their starts stay as near as the first and the last, and their points not much farther
pub rows_near : (n : ℕ) (g : Grid) (at p : Point) → IsNear (2 ^ 31) at → IsNear (2 ^ 31) p
    → IsAtMost (2 ^ 31) (steps g.columns g.column_step.x at.x)
    → IsAtMost (2 ^ 31) (steps g.columns g.column_step.y at.y)
    → IsAtMost (2 ^ 31) (steps n g.row_step.x p.x) → IsAtMost (2 ^ 31) (steps n g.row_step.y p.y)
    → AllByRecursion (IsNear (3 * 2 ^ 31)) (grid_rows n g p)
unfolding steps
rows_near zero g at p a h cx cy ex ey = tt
rows_near (suc n) g at p a h cx cy ex ey =
    let q : IsNear (2 ^ 31) (added p g.row_step) =
    (first_step (2 ^ 31) n g.row_step.x p.x h.0 ex, first_step (2 ^ 31) n g.row_step.y p.y h.1 ey) in
    all_append (IsNear (3 * 2 ^ 31)) (row_points g.columns g.column_step p) (grid_rows n g (added p g.row_step))
    (row_near (3 * 2 ^ 31) g.columns g.column_step p
    ((omega (arith, ints, h.0.0), omega (arith, ints, h.0.1)), (omega (arith, ints, h.1.0), omega (arith, ints, h.1.1)))
    (row_end g.columns g.column_step.x at.x p.x a.0 h.0 cx) (row_end g.columns g.column_step.y at.y p.y a.1 h.1 cy))
    (rows_near n g at (added p g.row_step) a q cx cy ex ey)

product : (n : ℕ) (s : ℤ) → pos (suc n) *ℤ s ≡ s +ℤ pos n *ℤ s
product n s = grind (arith, ints)

pub steps_are : (n : ℕ) (s x : ℤ) → steps n s x ≡ x +ℤ pos n *ℤ s
unfolding steps
steps_are zero s x = (let e : pos 0 *ℤ s ≡ pos 0 = grind (arith, ints) in omega (arith, ints, e))
steps_are (suc n) s x = let e = product n s in steps_are n s (x +ℤ s) ∙ omega (arith, ints, e)

pub narrow_near : (z : ℤ) → FitsSigned w32 z → IsAtMost (2 ^ 31) z
narrow_near z f = (omega (arith, ints), omega (arith, ints))

-- ends of the rows and of the columns, in steps
pub record Ends (at : Point) (g : Grid) : Type 0 where
  pub near : IsNear (2 ^ 31) at
  pub column_x : IsAtMost (2 ^ 31) (steps g.columns g.column_step.x at.x)
  pub column_y : IsAtMost (2 ^ 31) (steps g.columns g.column_step.y at.y)
  pub row_x : IsAtMost (2 ^ 31) (steps g.rows g.row_step.x at.x)
  pub row_y : IsAtMost (2 ^ 31) (steps g.rows g.row_step.y at.y)

pub ends_of_grid : (at : Point) (g : Grid) → IsGrid at g → Ends at g
ends_of_grid at g p = record {
  near = (narrow_near at.x p.narrow.0, narrow_near at.y p.narrow.1);
  column_x = rw (steps_are g.columns g.column_step.x at.x) (narrow_near _ p.column_end.0);
  column_y = rw (steps_are g.columns g.column_step.y at.y) (narrow_near _ p.column_end.1);
  row_x = rw (steps_are g.rows g.row_step.x at.x) (narrow_near _ p.row_end.0);
  row_y = rw (steps_are g.rows g.row_step.y at.y) (narrow_near _ p.row_end.1);
}

pub near_grid : (at : Point) (g : Grid) → IsGrid at g → AllByRecursion (IsNear (3 * 2 ^ 31)) (grid_points at g)
near_grid at g p = let e = ends_of_grid at g p in
    rows_near g.rows g at at e.near e.near e.column_x e.column_y e.row_x e.row_y

pub grid_near : (count n : ℕ) (at : Point) (t : Turn) (g : Grid) → IsPlaced count n at t g
    → AllByRecursion (IsNear (3 * 2 ^ 31)) (grid_points at g)
grid_near count n at t g p = near_grid at g p.lattice

-- ---- turned and moved

pub flip : (b : ℕ) (z : ℤ) → IsAtMost b z → IsAtMost b (neg_ℤ z)
flip b z h = (omega (arith, ints, h.1), omega (arith, ints, h.0))

pub turned_within : (b : ℕ) (t : Turn) (r : Rectangle) → IsWithin b r → IsWithin b (turned t r)
turned_within b t r w = quarters t.quarter (asked t.mirror mirrored r) (first t.mirror)
  where
    first : (m : Bool) → IsWithin b (asked m mirrored r)
    first true = record { left = w.left; bottom = flip b r.y1 w.above; right = w.right; above = flip b r.y0 w.bottom }
    first false = w

    quarters : (n : ℕ) (s : Rectangle) → IsWithin b s → IsWithin b (repeated n quarter s)
    quarters zero s h = h
    quarters (suc n) s h = let q = quarters n s h in let u = repeated n quarter s in
        record { left = flip b u.y1 q.above; bottom = q.left; right = flip b u.y0 q.bottom; above = q.right }

pub far_sum : (b c : ℕ) (x y : ℤ) → IsAtMost b x → IsAtMost c y → IsAtMost (b + c) (x +ℤ y)
far_sum b c x y h k = (omega (arith, ints, h.0, k.0), omega (arith, ints, h.1, k.1))

moved_within : (b c : ℕ) (p : Point) (r : Rectangle) → IsWithin b r → IsNear c p → IsWithin (b + c) (moved p.x p.y r)
moved_within b c p r w n = record {
  left = far_sum b c r.x0 p.x w.left n.0;
  bottom = far_sum b c r.y0 p.y w.bottom n.1;
  right = far_sum b c r.x1 p.x w.right n.0;
  above = far_sum b c r.y1 p.y w.above n.1;
}

widen : (b c : ℕ) (z : ℤ) → b ≤ c → IsAtMost b z → IsAtMost c z
widen b c z le h = (omega (arith, ints, le, h.0), omega (arith, ints, le, h.1))

wider : (b c : ℕ) (r : Rectangle) → b ≤ c → IsWithin b r → IsWithin c r
wider b c r le w = record {
  left = widen b c r.x0 le w.left;
  bottom = widen b c r.y0 le w.bottom;
  right = widen b c r.x1 le w.right;
  above = widen b c r.y1 le w.above;
}

-- ---- cut

module _ (b : ℕ) where
  abbrev AreNear : List ℤ → Type 0
  AreNear vs = AllByRecursion (IsAtMost b) vs

  abbrev AreEdgesNear : List Edge → Type 0
  AreEdgesNear es = AllByRecursion (λ e. IsAtMost b e.x) es

  toggled_near : (x : ℤ) (ws : List ℤ) → IsAtMost b x → AreNear ws → AreNear (toggled x ws)
  toggled_near x [] h a = (h, tt)
  toggled_near x (w ∷ ws) h a = turn (int_cmp x w) (toggled_near x ws h a.1)
    where
      turn : (o : Ordering) → AreNear (toggled x ws)
          → AreNear
          (elim o as (λ (k : Ordering). List ℤ) [ Less ↦ x ∷ w ∷ ws | Equal ↦ ws | Greater ↦ w ∷ toggled x ws ])
      turn Less ih = (h, a)
      turn Equal ih = a.1
      turn Greater ih = (a.0, ih)

  placed_near : (y : ℤ) (ls : List ℤ) → IsAtMost b y → AreNear ls → AreNear (placed y ls)
  placed_near y [] h a = (h, tt)
  placed_near y (l ∷ ls) h a = turn (int_cmp y l) (placed_near y ls h a.1)
    where
      turn : (o : Ordering) → AreNear (placed y ls)
          → AreNear
          (elim o as (λ (k : Ordering). List ℤ) [ Less ↦ y ∷ l ∷ ls | Equal ↦ l ∷ ls | Greater ↦ l ∷ placed y ls ])
      turn Less ih = (h, a)
      turn Equal ih = a
      turn Greater ih = (a.0, ih)

  walls_near : (es : List Edge) (j : ℤ) → AreEdgesNear es → AreNear (walls es j)
  walls_near [] j a = tt
  walls_near (e ∷ es) j a = turn (covers e j) (walls_near es j a.1)
    where
      turn : (t : Bool) → AreNear (walls es j)
          → AreNear (elim t as (λ (k : Bool). List ℤ) [ true ↦ toggled e.x (walls es j) | false ↦ walls es j ])
      turn true ih = toggled_near e.x (walls es j) a.0 ih
      turn false ih = ih

  edges_near : (p : Point) (ps : List Point) → IsNear b p → AllByRecursion (IsNear b) ps
      → AreEdgesNear (edges_from p ps)
  edges_near p [] h a = tt
  edges_near p (q ∷ qs) h a = (h.0, edges_near q qs a.0 a.1)

  levels_near : (ps : List Point) → AllByRecursion (IsNear b) ps → AreNear (levels ps)
  levels_near [] a = tt
  levels_near (p ∷ ps) a = placed_near p.y (levels ps) a.0.1 (levels_near ps a.1)

  between_within : (y z : ℤ) (ws : List ℤ) → IsAtMost b y → IsAtMost b z → AreNear ws
      → AllByRecursion (IsWithin b) (between y z ws)
  between_within y z [] hy hz a = tt
  between_within y z (v ∷ []) hy hz a = tt
  between_within y z (v ∷ w ∷ ws) hy hz a =
      (record { left = a.0; bottom = hy; right = a.1.0; above = hz }, between_within y z ws hy hz a.1.1)

  slabs_within : (es : List Edge) (y : ℤ) (zs : List ℤ) → AreEdgesNear es → IsAtMost b y → AreNear zs
      → AllByRecursion (IsWithin b) (slabs_from es y zs)
  slabs_within es y [] e hy a = tt
  slabs_within es y (z ∷ zs) e hy a = all_append (IsWithin b) (between y z (walls es y)) (slabs_from es z zs)
      (between_within y z (walls es y) hy a.0 (walls_near es y e)) (slabs_within es z zs e a.0 a.1)

  joined_within : (rs : List Rectangle) (t : Rectangle) → AllByRecursion (IsWithin b) rs → IsWithin b t
      → AllByRecursion (IsWithin b) (joined rs t)
  joined_within [] t a w = (w, tt)
  joined_within (r ∷ rs) t a w = turn (stands_on r t) (joined_within rs t a.1 w)
    where
      turn : (k : Bool) → AllByRecursion (IsWithin b) (joined rs t)
          → AllByRecursion (IsWithin b)
          (elim k as (λ (x : Bool). List Rectangle) [ true ↦ box r.x0 r.y0 r.x1 t.y1 ∷ rs | false ↦ r ∷ joined rs t ])
      turn true ih = (record { left = a.0.left; bottom = a.0.bottom; right = a.0.right; above = w.above }, a.1)
      turn false ih = (a.0, ih)

  all_joined_within : (rs ts : List Rectangle) → AllByRecursion (IsWithin b) rs → AllByRecursion (IsWithin b) ts
      → AllByRecursion (IsWithin b) (all_joined rs ts)
  all_joined_within rs [] a c = a
  all_joined_within rs (t ∷ ts) a c = all_joined_within (joined rs t) ts (joined_within rs t a c.0) c.1

  ring_within : (ps : List Point) → AllByRecursion (IsNear b) ps → AllByRecursion (IsWithin b) (ring_cut ps)
  unfolding ring_cut
  ring_within [] a = tt
  ring_within (p ∷ ps) a = turn (levels (p ∷ ps)) (levels_near (p ∷ ps) a)
    where
      turn : (ls : List ℤ) → AreNear ls → AllByRecursion (IsWithin b) (all_joined [] (slabs (edges_from p ps) ls))
      turn [] n = tt
      turn (y ∷ ys) n = all_joined_within [] (slabs_from (edges_from p ps) y ys) tt
          (slabs_within (edges_from p ps) y ys (edges_near p ps a.0 a.1) n.0 n.1)

-- ---- paths

short_near : (z : ℤ) → IsHalfWidth z → IsAtMost (2 ^ 30) z
short_near z h = (omega (arith, ints, h.0), omega (arith, ints, h.1))

stretched : (x n : ℤ) → IsAtMost (2 ^ 31) x → IsHalfWidth n → IsAtMost (2 ^ 33) (x +ℤ n) × IsAtMost (2 ^ 33) (x -ℤ n)
stretched x n h s = (
  (omega (arith, ints, h.0, s.0), omega (arith, ints, h.1, s.1)),
  (omega (arith, ints, h.0, s.1), omega (arith, ints, h.1, s.0)),
)

stroke_within : (half under over : ℤ) (low high : Point) → IsHalfWidth half → IsHalfWidth under → IsHalfWidth over
    → IsNear (2 ^ 31) low → IsNear (2 ^ 31) high → IsWithin (2 ^ 33) (stroke half low under high over)
stroke_within half under over low high h u o l k = turn (int_lt low.y high.y)
  where
    turn : (t : Bool) → IsWithin (2 ^ 33) (elim t as (λ (x : Bool). Rectangle) [
      | true ↦ box (low.x -ℤ half) (low.y -ℤ under) (high.x +ℤ half) (high.y +ℤ over)
      | false ↦ box (low.x -ℤ under) (low.y -ℤ half) (high.x +ℤ over) (high.y +ℤ half)
    ])
    turn true = record {
      left = (stretched low.x half l.0 h).1;
      bottom = (stretched low.y under l.1 u).1;
      right = (stretched high.x half k.0 h).0;
      above = (stretched high.y over k.1 o).0;
    }
    turn false = record {
      left = (stretched low.x under l.0 u).1;
      bottom = (stretched low.y half l.1 h).1;
      right = (stretched high.x over k.0 o).0;
      above = (stretched high.y half k.1 h).0;
    }

segment_within : (half before behind : ℤ) (p q : Point) → IsHalfWidth half → IsHalfWidth before → IsHalfWidth behind
    → IsNear (2 ^ 31) p → IsNear (2 ^ 31) q → IsWithin (2 ^ 33) (segment half before behind p q)
segment_within half before behind p q h u o l k = turn (int_le p.x q.x && int_le p.y q.y)
  where
    turn : (t : Bool) → IsWithin (2 ^ 33)
        (elim t as (λ (x : Bool). Rectangle) [
          | true ↦ stroke half p before q behind
          | false ↦ stroke half q behind p before
        ])
    turn true = stroke_within half before behind p q h u o l k
    turn false = stroke_within half behind before q p h o u k l

segments_within : (half end before : ℤ) (p : Point) (qs : List Point) → IsHalfWidth half → IsHalfWidth end
    → IsHalfWidth before → IsNear (2 ^ 31) p → AllByRecursion (IsNear (2 ^ 31)) qs
    → AllByRecursion (IsWithin (2 ^ 33)) (segments half end before p qs)
segments_within half end before p [] h e u n a = tt
segments_within half end before p (q ∷ qs) h e u n a = (
  segment_within half before (past half end qs) p q h u (behind qs) n a.0,
  segments_within half end half q qs h
      e h a.0 a.1,
)
  where
    behind : (rs : List Point) → IsHalfWidth (past half end rs)
    behind [] = e
    behind (r ∷ rs) = h

-- ---- figures and structures

all_near : (ps : List Point) → All IsNarrow ps → AllByRecursion (IsNear (2 ^ 31)) ps
all_near [] a = tt
all_near (p ∷ ps) a = (
  let n = All-head IsNarrow p ps a in
      (narrow_near p.x n.0, narrow_near p.y n.1),
  all_near ps (All-tail IsNarrow p ps a),
)

all_wider : (b c : ℕ) (rs : List Rectangle) → b ≤ c → AllByRecursion (IsWithin b) rs → AllByRecursion (IsWithin c) rs
all_wider b c [] le a = tt
all_wider b c (r ∷ rs) le a = (wider b c r le a.0, all_wider b c rs le a.1)

pub figure_within : (f : Figure) → IsDrawn f → AllByRecursion (IsWithin (2 ^ 33)) (cut_of f)
figure_within (Ring ps) d = all_wider (2 ^ 31) (2 ^ 33) (ring_cut ps) (omega arith)
    (ring_within (2 ^ 31) ps (all_near ps d.narrow))
figure_within (Path extended half []) d = tt
figure_within (Path extended half (p ∷ ps)) d =
    let n = all_near (p ∷ ps) d.narrow in
    let h = half_short half d.figure.1 in
    let e = end_short extended half d.figure.1 in
    segments_within (pos half) (end_of extended half) (end_of extended half) p ps h e e n.0 n.1

drawn_within : (b l d : ℕ) (rs : List Rectangle) → AllByRecursion (IsWithin b) rs
    → AllByRecursion (IsShapeWithin b) (map (shape l d) rs)
drawn_within b l d [] a = tt
drawn_within b l d (r ∷ rs) a = (a.0, drawn_within b l d rs a.1)

pub placed_within : (b c : ℕ) (t : Turn) (p : Point) (ss : List Shape) → IsNear c p
    → AllByRecursion (IsShapeWithin b) ss → AllByRecursion (IsShapeWithin (b + c)) (map (placed_shape t p) ss)
placed_within b c t p [] n a = tt
placed_within b c t p (s ∷ ss) n a =
    (moved_within b c p (turned t s.rect) (turned_within b t s.rect a.0) n, placed_within b c t p ss n a.1)

grid_within : (b c : ℕ) (t : Turn) (ps : List Point) (ss : List Shape) → AllByRecursion (IsNear c) ps
    → AllByRecursion (IsShapeWithin b) ss → AllByRecursion (IsShapeWithin (b + c))
    (flat_map (λ p. map (placed_shape t p) ss) ps)
grid_within b c t [] ss n a = tt
grid_within b c t (p ∷ ps) ss n a = all_append (IsShapeWithin (b + c)) (map (placed_shape t p) ss)
    (flat_map (λ p. map (placed_shape t p) ss) ps) (placed_within b c t p ss n.0 a) (grid_within b c t ps ss n.1 a)

pub shapes_wider : (b c : ℕ) (ss : List Shape) → b ≤ c → AllByRecursion (IsShapeWithin b) ss
    → AllByRecursion (IsShapeWithin c) ss
shapes_wider b c [] le a = tt
shapes_wider b c (s ∷ ss) le a = (wider b c s.rect le a.0, shapes_wider b c ss le a.1)

items_within : (count depth : ℕ) (of : ℕ → List Shape) → ((n : ℕ) → AllByRecursion (IsShapeWithin (reach depth)) (of n))
    → (es : List Item) → AllByRecursion (IsItem count) es
    → AllByRecursion (IsShapeWithin (reach (suc depth))) (flat_map (item_shapes of) es)
items_within count depth of h [] a = tt
items_within count depth of h (Draw l d f ∷ es) a =
    all_append (IsShapeWithin (reach (suc depth))) (map (shape l d) (cut_of f)) (flat_map (item_shapes of) es)
    (shapes_wider (2 ^ 33) (reach (suc depth)) (map (shape l d) (cut_of f)) (omega arith)
    (drawn_within (2 ^ 33) l d (cut_of f) (figure_within f a.0))) (items_within count depth of h es a.1)
items_within count depth of h (Place n at t g ∷ es) a =
    all_append (IsShapeWithin (reach (suc depth))) (flat_map (λ p. map (placed_shape t p) (of n)) (grid_points at g))
    (flat_map (item_shapes of) es)
    (shapes_wider (reach depth + 3 * 2 ^ 31) (reach (suc depth)) _ (omega arith)
    (grid_within (reach depth) (3 * 2 ^ 31) t (grid_points at g) (of n) (grid_near count n at t g a.0) (h n)))
    (items_within count depth of h es a.1)
items_within count depth of h (Text l ∷ es) a = items_within count depth of h es a.1

pub items_there : (count : ℕ) (ss : List WideStructure) (n : ℕ) → AreItems count ss
    → AllByRecursion (IsItem count) (items_at ss n)
items_there count [] n a = tt
items_there count (s ∷ ss) zero a = a.0
items_there count (s ∷ ss) (suc n) a = items_there count ss n a.1

pub structure_within : (count depth : ℕ) (ss : List WideStructure) (n : ℕ) → AreItems count ss
    → AllByRecursion (IsShapeWithin (reach depth)) (shapes_of depth ss n)
structure_within count zero ss n a = tt
structure_within count (suc depth) ss n a = items_within count depth (shapes_of depth ss)
    (λ m. structure_within count depth ss m a) (items_at ss n) (items_there count ss n a)

pub flat_within : (w : WideLayout) → IsFlattenable w → AllByRecursion (IsShapeWithin (2 ^ 42)) (wide_flat w).shapes
unfolding wide_flat
flat_within w f = shapes_wider (reach 65) (2 ^ 42) (shapes_of 65 w.structures w.top) (omega arith)
    (structure_within _ 65 w.structures w.top f.each)

-- ---- rows and grids, as the code makes them

-- a step from one near number to another
step_near : (b : ℕ) (s x : ℤ) → IsAtMost b x → IsAtMost b (x +ℤ s) → b + b ≤ 2 ^ 40 → IsAtMost (2 ^ 40) s
step_near b s x h k le = (omega (arith, ints, h.0, h.1, k.0, k.1, le), omega (arith, ints, h.0, h.1, k.0, k.1, le))

steps_near : (n : ℕ) (s x : ℤ) → 0 < n → IsAtMost (2 ^ 31) x → IsAtMost (2 ^ 31) (steps n s x) → IsAtMost (2 ^ 40) s
steps_near zero s x lt h k = absurd (omega arith)
steps_near (suc n) s x lt h k = step_near (2 ^ 31) s x h (first_step (2 ^ 31) n s x h k) (omega arith)

pub next_row : (n : ℕ) (step p q : Point) → IsRow (suc n) step p → q ≡ added p step → IsRow n step q
unfolding steps
next_row n step p q r e = rw e
    (record {
      step_near = r.step_near;
      near = (
        first_step (3 * 2 ^ 31) n step.x p.x r.near.0 r.end_x,
        first_step
            (3 * 2 ^ 31) n step.y p.y r.near.1 r.end_y,
      );
      end_x = r.end_x;
      end_y = r.end_y;
    })

-- where the rows that are left begin
pub record AreRows (n : ℕ) (g : Grid) (at p : Point) : Type 0 where
  pub start : IsNear (2 ^ 31) at
  pub near : IsNear (2 ^ 31) p
  pub columns : 0 < g.columns
  pub rows : 0 < g.rows
  pub column_x : IsAtMost (2 ^ 31) (steps g.columns g.column_step.x at.x)
  pub column_y : IsAtMost (2 ^ 31) (steps g.columns g.column_step.y at.y)
  pub row_step : IsNear (2 ^ 40) g.row_step
  pub row_x : IsAtMost (2 ^ 31) (steps n g.row_step.x p.x)
  pub row_y : IsAtMost (2 ^ 31) (steps n g.row_step.y p.y)

pub all_rows : (at : Point) (g : Grid) → IsGrid at g → AreRows g.rows g at at
all_rows at g p = let e = ends_of_grid at g p in record {
  start = e.near;
  near = e.near;
  columns = p.columns.0;
  rows = p.rows.0;
  column_x = e.column_x;
  column_y = e.column_y;
  row_step = (
    steps_near g.rows g.row_step.x at.x p.rows.0 e.near.0 e.row_x,
    steps_near g.rows g.row_step.y at.y
        p.rows.0 e.near.1 e.row_y,
  );
  row_x = e.row_x;
  row_y = e.row_y;
}

pub this_row : (n : ℕ) (g : Grid) (at p : Point) → AreRows n g at p → IsRow g.columns g.column_step p
this_row n g at p a = record {
  step_near = (
    steps_near g.columns g.column_step.x at.x a.columns a.start.0 a.column_x,
    steps_near g.columns
        g.column_step.y at.y a.columns a.start.1 a.column_y,
  );
  near = (
    widen (2 ^ 31) (3 * 2 ^ 31) p.x (omega arith) a.near.0,
    widen (2 ^ 31) (3 * 2 ^ 31) p.y
        (omega arith) a.near.1,
  );
  end_x = row_end g.columns g.column_step.x at.x p.x a.start.0 a.near.0 a.column_x;
  end_y = row_end g.columns g.column_step.y at.y p.y a.start.1 a.near.1 a.column_y;
}

pub further_rows : (n : ℕ) (g : Grid) (at p q : Point) → AreRows (suc n) g at p → q ≡ added p g.row_step
    → AreRows n g at q
unfolding steps
further_rows n g at p q a e = rw e (record {
  start = a.start;
  near = (
    first_step (2 ^ 31) n g.row_step.x p.x a.near.0 a.row_x,
    first_step
        (2 ^ 31) n g.row_step.y p.y a.near.1 a.row_y,
  );
  columns = a.columns;
  rows = a.rows;
  column_x = a.column_x;
  column_y = a.column_y;
  row_step = a.row_step;
  row_x = a.row_x;
  row_y = a.row_y;
})

-- ---- labels

label_within : (b c : ℕ) (t : Turn) (p : Point) (l : Label) → IsLabelWithin b l → IsNear c p
    → IsLabelWithin (b + c) (placed_label t p l)
label_within b c t p l w n = let q = label_turned b t (point l.x l.y) w in
    (far_sum b c _ p.x q.0 n.0, far_sum b c _ p.y q.1 n.1)
  where
    label_turned : (b : ℕ) (t : Turn) (p : Point) → IsNear b p → IsNear b (turned_point t p)
    label_turned b t p n = quarters t.quarter (asked t.mirror mirrored_point p) (first t.mirror)
      where
        first : (m : Bool) → IsNear b (asked m mirrored_point p)
        first true = (n.0, flip b p.y n.1)
        first false = n

        quarters : (k : ℕ) (q : Point) → IsNear b q → IsNear b (repeated k quarter_point q)
        quarters zero q h = h
        quarters (suc k) q h = let r = quarters k q h in (flip b (repeated k quarter_point q).y r.1, r.0)

labels_wider : (b c : ℕ) (ls : List Label) → b ≤ c → AllByRecursion (IsLabelWithin b) ls
    → AllByRecursion (IsLabelWithin c) ls
labels_wider b c [] le a = tt
labels_wider b c (l ∷ ls) le a = ((widen b c l.x le a.0.0, widen b c l.y le a.0.1), labels_wider b c ls le a.1)

labels_placed : (b c : ℕ) (t : Turn) (p : Point) (ls : List Label) → IsNear c p → AllByRecursion (IsLabelWithin b) ls
    → AllByRecursion (IsLabelWithin (b + c)) (map (placed_label t p) ls)
labels_placed b c t p [] n a = tt
labels_placed b c t p (l ∷ ls) n a = (label_within b c t p l a.0 n, labels_placed b c t p ls n a.1)

labels_grid : (b c : ℕ) (t : Turn) (ps : List Point) (ls : List Label) → AllByRecursion (IsNear c) ps
    → AllByRecursion (IsLabelWithin b) ls → AllByRecursion (IsLabelWithin (b + c))
    (flat_map (λ p. map (placed_label t p) ls) ps)
labels_grid b c t [] ls n a = tt
labels_grid b c t (p ∷ ps) ls n a = all_append (IsLabelWithin (b + c)) (map (placed_label t p) ls)
    (flat_map (λ p. map (placed_label t p) ls) ps) (labels_placed b c t p ls n.0 a) (labels_grid b c t ps ls n.1 a)

labels_items : (count depth : ℕ) (of : ℕ → List Label) → ((n : ℕ) → AllByRecursion (IsLabelWithin (reach depth)) (of n))
    → (es : List Item) → AllByRecursion (IsItem count) es
    → AllByRecursion (IsLabelWithin (reach (suc depth))) (flat_map (item_labels of) es)
labels_items count depth of h [] a = tt
labels_items count depth of h (Draw l d f ∷ es) a = labels_items count depth of h es a.1
labels_items count depth of h (Place n at t g ∷ es) a =
    all_append (IsLabelWithin (reach (suc depth))) (flat_map (λ p. map (placed_label t p) (of n)) (grid_points at g))
    (flat_map (item_labels of) es)
    (labels_wider (reach depth + 3 * 2 ^ 31) (reach (suc depth)) _ (omega arith)
    (labels_grid (reach depth) (3 * 2 ^ 31) t (grid_points at g) (of n) (grid_near count n at t g a.0) (h n)))
    (labels_items count depth of h es a.1)
labels_items count depth of h (Text l ∷ es) a = (
  (
    widen (2 ^ 31) (reach (suc depth)) l.x (omega arith) (narrow_near l.x a.0.0),
    widen (2 ^ 31)
        (reach (suc depth)) l.y (omega arith) (narrow_near l.y a.0.1),
  ),
  labels_items count depth of h es a.1,
)

pub labels_within : (count depth : ℕ) (ss : List WideStructure) (n : ℕ) → AreItems count ss
    → AllByRecursion (IsLabelWithin (reach depth)) (labels_of depth ss n)
labels_within count zero ss n a = tt
labels_within count (suc depth) ss n a = labels_items count depth (labels_of depth ss)
    (λ m. labels_within count depth ss m a) (items_at ss n) (items_there count ss n a)

-- ---- what the code asks

pub shapes_near : (count depth : ℕ) (ss : List WideStructure) (n : ℕ) → depth ≤ 65 → AreItems count ss
    → All (IsShapeWithin (2 ^ 40)) (shapes_of depth ss n)
shapes_near count depth ss n le a = All-from_recursion (IsShapeWithin (2 ^ 40)) (shapes_of depth ss n)
    (shapes_wider (reach depth) (2 ^ 40) (shapes_of depth ss n) (omega arith) (structure_within count depth ss n a))

pub labels_near : (count depth : ℕ) (ss : List WideStructure) (n : ℕ) → depth ≤ 65 → AreItems count ss
    → All (IsLabelWithin (2 ^ 40)) (labels_of depth ss n)
labels_near count depth ss n le a = All-from_recursion (IsLabelWithin (2 ^ 40)) (labels_of depth ss n)
    (labels_wider (reach depth) (2 ^ 40) (labels_of depth ss n) (omega arith) (labels_within count depth ss n a))

pub points_near : (at : Point) (g : Grid) → IsGrid at g → All (IsNear (2 ^ 40)) (grid_points at g)
points_near at g p = All-from_recursion (IsNear (2 ^ 40)) (grid_points at g)
    (near_wider (grid_points at g) (near_grid at g p))
  where
    near_wider : (ps : List Point) → AllByRecursion (IsNear (3 * 2 ^ 31)) ps → AllByRecursion (IsNear (2 ^ 40)) ps
    near_wider [] a = tt
    near_wider (q ∷ ps) a = (
      (widen (3 * 2 ^ 31) (2 ^ 40) q.x (omega arith) a.0.0, widen (3 * 2 ^ 31) (2 ^ 40) q.y (omega arith) a.0.1),
      near_wider ps a.1,
    )
