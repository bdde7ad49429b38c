-- Where the index over rectangles finds what is near.
use Rattle.std.proofs.Common.{◌≡◌, ℕ, ◌+◌, ◌*◌, ◌/◌, ◌<◌, ◌≤◌, List, [], ◌∷◌, ◌++◌, length, get_or, replicate, set}
use Rattle.std.proofs.Common.{Some, ℤ, ◌↔◌, refl, sym, ap, subst, ◌∙◌, arith, inl, inr, ◌-ℤ◌, ◌≤ℤ◌, slice_get}
use Rattle.std.proofs.Common.{slice_index, All, Contains}
use Rattle.std.specs.List.Sorted.{IsStrictlyIncreasing}
use Rattle.std.proofs.lemmas.Bool.{cases_eq, cases_lt}
use Rattle.std.proofs.lemmas.Int.{ints}
use Rattle.std.proofs.Math.Nat.{mul-le-mul_right}
use Rattle.std.proofs.lemmas.List.{length-set, get_or-set_other, get_or-replicate, length-replicate}
use Rattle.std.proofs.lemmas.Grind.{get_or-set_at}
use Rattle.std.proofs.lemmas.Option.{same_Some, slice_get_within, slice_get-get_or, get_or_from_slice_get}
use Rattle.std.proofs.lemmas.List.Elements.{All-push, All-contains, Contains-get_or, Contains-append_left}
use Rattle.std.proofs.lemmas.List.Elements.{Contains-push}
use Rattle.geom.specs.Rectangle.{Rectangle, positive_part}
use Rattle.geom.specs.Code.Grids.{column_at, row_at, cell_in, cell_of, end_of}
use Rattle.geom.specs.Near.{IsClose, AreNear}
use Rattle.geom.specs.Code.Windows.{StandsIn, IsWindow}
use Rattle.geom.specs.Code.Bounds.{Holds, HoldsSpots, AreBlocks, IsPassed}
use Rattle.geom.specs.Code.Spots.{StandsAt, IsHeld, AreOrdered, IsPlaced, IsFound, ListsAmong, ListsIn, ListsGrids}
use Rattle.geom.specs.declared.index.grid.Grid.{Grid}
use Rattle.geom.specs.declared.index.grid.Window.{Window}
use Rattle.geom.specs.declared.index.spots.Spot.{Spot}
use Rattle.geom.specs.declared.index.blocks.Block.{Block}

-- ---- what is listed

same_spot : (spots : List Spot) (p q : ℕ) (s t : Spot) → p ≡ q → slice_get spots p ≡ Some s
    → slice_get spots q ≡ Some t → s ≡ t
same_spot spots p q s t at is here = same_Some s t (sym is ∙ (ap (slice_get spots) at ∙ here))

pub among_more : (spots : List Spot) (from n : ℕ) (rect : Rectangle) (margin : ℕ) (old new : List ℕ) (s : Spot)
    → ListsAmong spots from n rect margin old new → slice_get spots n ≡ Some s → IsClose rect s.rect margin
    → ListsAmong spots from (n + 1) rect margin old (new ++ s.number ∷ [])
among_more spots from n rect margin old new s are here close = record {
  kept = λ k h. Contains-append_left new (s.number ∷ []) k (are.kept k h);
  sound = λ all. All-push (IsFound spots rect margin) new s.number (are.sound all)
      (record { place = n; spot = s; spot_is = here; number_is = refl; close = close });
  complete = λ p t le lt is near. elim (cases_eq p n) [
    | inl at ↦ subst (λ (x : Spot). Contains (new ++ s.number ∷ []) x.number) (same_spot spots n p s t (sym at) here is)
        (Contains-push new s.number)
    | inr ne ↦ Contains-append_left new (s.number ∷ []) t.number (are.complete p t le (omega arith) is near)
  ];
}

pub among_all : (spots : List Spot) (from to n : ℕ) (rect : Rectangle) (margin : ℕ) (old new : List ℕ) → to ≤ n
    → ListsAmong spots from n rect margin old new → ListsAmong spots from to rect margin old new
among_all spots from to n rect margin old new all are = record {
  kept = are.kept;
  sound = are.sound;
  complete = λ p s le lt is near. are.complete p s le (omega arith) is near;
}

-- ---- what is passed over

lower : (a b c : ℤ) → a ≤ℤ b → positive_part (c -ℤ b) ≤ positive_part (c -ℤ a)
lower a b c le = grind (arith, ints)

higher : (a b c : ℤ) → a ≤ℤ b → positive_part (a -ℤ c) ≤ positive_part (b -ℤ c)
higher a b c le = grind (arith, ints)

-- what lies in a rectangle is no nearer than that
pub close_around : (rect bounds r : Rectangle) (margin : ℕ) → Holds bounds r → IsClose rect r margin
    → IsClose rect bounds margin
close_around rect bounds r margin holds close = record {
  in_x = omega (arith, close.in_x, lower r.x1 bounds.x1 rect.x0 holds.right, higher bounds.x0 r.x0 rect.x1 holds.left);
  in_y = omega (arith, close.in_y, lower r.y1 bounds.y1 rect.y0 holds.top, higher bounds.y0 r.y0 rect.y1 holds.bottom);
}

holds_all : (a b c : Rectangle) → Holds a b → Holds b c → Holds a c
holds_all a b c outer inner = record {
  left = grind (arith, ints, outer.left, inner.left);
  bottom = grind (arith, ints, outer.bottom, inner.bottom);
  right = grind (arith, ints, outer.right, inner.right);
  top = grind (arith, ints, outer.top, inner.top);
}

-- a rectangle around one that holds the earlier ones, and around the next
pub around_more : (spots : List Spot) (from n : ℕ) (bounds more : Rectangle) (s : Spot) → HoldsSpots spots from n bounds
    → slice_get spots n ≡ Some s → Holds more bounds → Holds more s.rect → HoldsSpots spots from (n + 1) more
around_more spots from n bounds more s holds here wider last p t le lt is = elim (cases_eq p n) [
  | inl same ↦ subst (λ (x : Spot). Holds more x.rect) (same_spot spots n p s t (sym same) here is) last
  | inr ne ↦ holds_all more bounds t.rect wider (holds p t le (omega arith) is)
]

-- the same around what a block holds
pub around_block : (spots : List Spot) (blocks : List Block) (from n : ℕ) (bounds more : Rectangle) (next : Block)
    → AreBlocks spots blocks → slice_get blocks (n / 8) ≡ Some next → HoldsSpots spots from n bounds → Holds more bounds
    → Holds more next.bounds → HoldsSpots spots from next.past more
around_block spots blocks from n bounds more next are next_is holds wider last p t le lt is = elim (cases_lt p n) [
  | inl early ↦ holds_all more bounds t.rect wider (holds p t le early is)
  | inr late ↦ holds_all more next.bounds t.rect last (are (n / 8) next next_is p t (omega arith) lt is)
]

-- a block without places holds what is in it
pub blocks_none : (spots : List Spot) (blocks : List Block) (count : ℕ) (none : Block) → none.past ≡ 0
    → blocks ≡ replicate count none → AreBlocks spots blocks
blocks_none spots blocks count none empty are b block is p s le lt at =
    let b_lt : b < length blocks = slice_get_within blocks b block is in
    let within : b < count = omega (arith, ap length are, length-replicate count none) in
    let same : none ≡ block = sym (get_or-replicate count b none none within)
    ∙ (ap (λ (xs : List Block). get_or xs b none) (sym are) ∙ get_or_from_slice_get blocks b block none is) in
    let past : block.past ≡ 0 = subst (λ (x : Block). x.past ≡ 0) same empty in
    absurd (omega arith)

pub blocks_set : (spots : List Spot) (blocks : List Block) (n : ℕ) (more : Block) → AreBlocks spots blocks
    → HoldsSpots spots (n * 8) more.past more.bounds → AreBlocks spots (set blocks n more)
blocks_set spots blocks n more are holds b block is =
    let lt : b < length (set blocks n more) = slice_get_within (set blocks n more) b block is in
    let b_lt : b < length blocks = omega (arith, length-set blocks n more) in
    elim (cases_eq b n) [
      | inl here ↦
          let same : more ≡ block = sym (get_or-set_at blocks n b more more here (omega arith))
          ∙ get_or_from_slice_get (set blocks n more) b block more is in
          subst (λ (k : ℕ). HoldsSpots spots (k * 8) block.past block.bounds) (sym here)
          (subst (λ (x : Block). HoldsSpots spots (n * 8) x.past x.bounds) same holds)
      | inr other ↦ are b block (slice_get-get_or blocks b more b_lt
          ∙ (ap Some (sym (get_or-set_other blocks n b more more other))
          ∙ (sym (slice_get-get_or (set blocks n more) b more lt) ∙ is)))
    ]

-- after a far one, the walk passes over far ones alone
pub passed_far : (spots : List Spot) (blocks : List Block) (n past : ℕ) (rect : Rectangle) (margin : ℕ) (s : Spot)
    → AreBlocks spots blocks → (n + 1 < past → IsPassed blocks n past rect margin) → slice_get spots n ≡ Some s
    → (IsClose rect s.rect margin → ⊥) → (p : ℕ) (t : Spot) → n ≤ p → p < past → slice_get spots p ≡ Some t
    → IsClose rect t.rect margin → ⊥
passed_far spots blocks n past rect margin s are passed here far p t le lt is near = elim (cases_eq p n) [
  | inl at ↦ far (subst (λ (x : Spot). IsClose rect x.rect margin) (same_spot spots p n t s at is here) near)
  | inr ne ↦
      let over : IsPassed blocks n past rect margin = passed (omega arith) in
      over.far (close_around rect over.block.bounds t.rect margin
      (are (n / 8) over.block over.block_is p t (omega (arith, over.begins)) (omega (arith, over.ends)) is) near)
]

pub among_passed : (spots : List Spot) (from n past : ℕ) (rect : Rectangle) (margin : ℕ) (old new : List ℕ)
    → ListsAmong spots from n rect margin old new
    → ((p : ℕ) (t : Spot) → n ≤ p → p < past → slice_get spots p ≡ Some t → IsClose rect t.rect margin → ⊥)
    → ListsAmong spots from past rect margin old new
among_passed spots from n past rect margin old new are far = record {
  kept = are.kept;
  sound = are.sound;
  complete = λ p s le lt is near. elim (cases_lt p n) [
    | inl early ↦ are.complete p s le early is near
    | inr late ↦ absurd (far p s late lt is near)
  ];
}

-- ---- row by row

-- what is complete in the rows below this one
pub record ListsRows (spots : List Spot) (starts : List ℕ) (g : Grid) (row : ℕ) (rect : Rectangle) (margin : ℕ)
    (old new : List ℕ) : Type 0 where
  pub kept : (n : ℕ) → Contains old n → Contains new n
  pub sound : All (IsFound spots rect margin) old → All (IsFound spots rect margin) new
  pub complete : (p : ℕ) (s : Spot) → slice_get spots p ≡ Some s → StandsAt g starts p s.rect
      → IsClose rect s.rect margin → row_at g (positive_part (s.rect.y0 -ℤ g.bottom)) < row → Contains new s.number

module _ (spots : List Spot) (starts : List ℕ) (g : Grid) (w : Window) (rect : Rectangle) (margin row : ℕ)
    (old new more : List ℕ) (window : IsWindow g rect margin w) (order : AreOrdered starts (length spots))
    (long : end_of g < length starts) (below : row < g.rows) where
  row_fits : (column : ℕ) → column < g.columns → cell_in g row column + 1 ≤ end_of g
  row_fits column lt = (let wide : (row + 1) * g.columns ≤ g.rows * g.columns = mul-le-mul_right g.columns
      (omega arith) in omega arith)

  pub row_ends : slice_index starts (cell_in g row w.right + 1) ≤ length spots
  row_ends = order.ends (cell_in g row w.right + 1) (omega (arith, row_fits w.right window.right_within))

  -- what stands in the row's cells in the window is between the two places
  pub rows_more : ListsRows spots starts g row rect margin old new
      → ListsAmong spots (slice_index starts (cell_in g row w.left))
      (slice_index starts (cell_in g row w.right + 1)) rect margin new more
      → ListsRows spots starts g (row + 1) rect margin old more
  rows_more rows among = record {
    kept = λ n h. among.kept n (rows.kept n h);
    sound = λ h. among.sound (rows.sound h);
    complete = λ p s is at close lt. elim (cases_eq (row_at g (positive_part (s.rect.y0 -ℤ g.bottom))) row) [
      | inl here ↦
          let stands : StandsIn g w s.rect = window.holds s.rect at.words close at.reaches in
          let column : ℕ = column_at g (positive_part (s.rect.x0 -ℤ g.left)) in
          let cell : cell_of g s.rect ≡ cell_in g row column = ap (λ (k : ℕ). cell_in g k column) here in
          let right : cell_in g row w.right + 1 < length starts = omega (arith, row_fits w.right window.right_within) in
          let after : slice_index starts (cell_in g row w.left) ≤ slice_index starts (cell_of g s.rect) = order.rising
          (cell_in g row w.left) (cell_of g s.rect) (omega (arith, cell, stands.from_left))
          (omega (arith, cell, stands.to_right)) in
          let before : slice_index starts (cell_of g s.rect + 1) ≤ slice_index starts (cell_in g row w.right + 1) =
          order.rising (cell_of g s.rect + 1) (cell_in g row w.right + 1)
          (omega (arith, cell, stands.to_right)) right in
          among.complete p s (omega (arith, after, at.from)) (omega (arith, before, at.to)) is close
      | inr other ↦ among.kept s.number (rows.complete p s is at close (omega arith))
    ];
  }

pub rows_all : (spots : List Spot) (starts : List ℕ) (g : Grid) (w : Window) (row : ℕ) (rect : Rectangle) (margin : ℕ)
    (old new : List ℕ) → IsWindow g rect margin w → w.high < row → ListsRows spots starts g row rect margin old new
    → ListsIn spots starts g rect margin old new
rows_all spots starts g w row rect margin old new window all rows = record {
  kept = rows.kept;
  sound = rows.sound;
  complete = λ p s is at close.
      (let stands : StandsIn g w s.rect = window.holds s.rect at.words close at.reaches in rows.complete p s is at close
      (omega (arith, stands.to_high)));
}

-- ---- grid by grid

pub grids_more : (spots : List Spot) (starts : List ℕ) (grids : List Grid) (count : ℕ) (rect : Rectangle) (margin : ℕ)
    (old new : List ℕ) (here : Grid) → slice_get grids count ≡ Some here
    → ListsGrids spots starts grids count rect margin old → ListsIn spots starts here rect margin old new
    → ListsGrids spots starts grids (count + 1) rect margin new
grids_more spots starts grids count rect margin old new here got are lists = record {
  sound = lists.sound are.sound;
  complete = λ k p g s lt grid_is spot_is at close. elim (cases_eq k count) [
    | inl same ↦ lists.complete p s spot_is
        (subst (λ (x : Grid). StandsAt x starts p s.rect)
        (same_Some g here (sym grid_is ∙ (ap (slice_get grids) same ∙ got))) at) close
    | inr ne ↦ lists.kept s.number (are.complete k p g s (omega arith) grid_is spot_is at close)
  ];
}

-- ---- what is listed, rising

pub near_listed : (rects : List Rectangle) (grids : List Grid) (spots : List Spot) (starts : List ℕ) (rect : Rectangle)
    (margin : ℕ) (old new : List ℕ) → IsPlaced rects grids spots starts
    → ListsGrids spots starts grids (length grids) rect margin old → IsStrictlyIncreasing new
    → ((n : ℕ) → Contains old n ↔ Contains new n) → AreNear rects rect margin new
near_listed rects grids spots starts rect margin old new placed lists rising same = record {
  each = λ k d lt.
      let found : IsFound spots rect margin (get_or new k d) = All-contains (IsFound spots rect margin) old
      (get_or new k d) lists.sound ((same (get_or new k d)).1 (Contains-get_or new k d lt)) in
      record {
        other = found.spot.rect;
        other_is = ap (slice_get rects) (sym found.number_is) ∙ placed.real found.place found.spot found.spot_is;
        close = found.close;
      };
  complete = λ n near.
      let held : IsHeld grids spots starts near.other n = placed.held n near.other near.other_is in
      (same n).0 (subst (λ (k : ℕ). Contains old k) held.number_is
      (lists.complete held.grid_place held.place held.grid held.spot
      (slice_get_within grids held.grid_place held.grid held.grid_is) held.grid_is held.spot_is
      (subst (StandsAt held.grid starts held.place) (sym held.rect_is) held.stands)
      (subst (λ (r : Rectangle). IsClose rect r margin) (sym held.rect_is) near.close)));
  rising = rising;
}
