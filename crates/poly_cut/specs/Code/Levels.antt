-- What changes at a level of a sweep.
use Rattle.std.specs.Prelude.{◌≡◌, ◌⊎◌, ℕ, suc, ◌+◌, ◌<◌, ◌≤◌, Option, Bool, List, [], ◌∷◌, ◌++◌, Some, None, true}
use Rattle.std.specs.Prelude.{false, slice_get, slice_set, length, map, drop, ℤ, ◌<ℤ◌, ◌≤ℤ◌, int_lt, cond}
use Rattle.std.specs.Ordering.{int_cmp, is_eq}
use Rattle.std.specs.BTreeMap.{BTreeMap}
use Rattle.geom.specs.Rectangle.{Rectangle}
use Rattle.poly_cut.specs.declared.ends.End.{End}
use Rattle.poly_cut.specs.Cuts.{box, lesser, toggled, between, all_joined}
use Rattle.poly_cut.specs.Code.Sweeping.{Rising, ReachesUp, InSlab, last_at}

-- a rectangle as far as this level
abbrev pub cut_off : ℤ → Rectangle → Rectangle
cut_off y r = box r.x0 r.y0 r.x1 (lesser y r.y1)

-- the i-th pair of walls, of those between which the rectangles of a slab lie
pub record IsPair (walls : List ℤ) (i : ℕ) (a b : ℤ) : Type 0 where
  pub first : slice_get walls (i + i) ≡ Some a
  pub second : slice_get walls (suc (i + i)) ≡ Some b

-- no end is right of one after it
abbrev pub FromLeft : List End → Type 0
FromLeft ends = (i j : ℕ) (e f : End) → i ≤ j → slice_get ends i ≡ Some e → slice_get ends j ≡ Some f → e.x ≤ℤ f.x

-- so for the ends at one level
abbrev pub LevelsFromLeft : List End → Type 0
LevelsFromLeft ends = (i j : ℕ) (e f : End) → i ≤ j → slice_get ends i ≡ Some e → slice_get ends j ≡ Some f → e.y ≡ f.y
    → e.x ≤ℤ f.x

-- from a to b lies left of the first window, which goes from the first end to the second, or right of it; a window with
-- one end has no right side
abbrev pub Off : List End → ℤ → ℤ → Type 0
Off [] a b = Unit {0}
Off (t ∷ []) a b = b <ℤ t.x
Off (t ∷ u ∷ ts) a b = (b <ℤ t.x) ⊎ (u.x <ℤ a)

-- of all windows: the third end and the fourth make the second one, and so on
abbrev pub Clear : List End → ℤ → ℤ → Type 0
Clear [] a b = Unit {0}
Clear (t ∷ []) a b = b <ℤ t.x
Clear (t ∷ u ∷ ts) a b = ((b <ℤ t.x) ⊎ (u.x <ℤ a)) × Clear ts a b

-- right of the first window
abbrev pub Past : List End → ℤ → Type 0
Past [] a = ⊥
Past (t ∷ []) a = ⊥
Past (t ∷ u ∷ ts) a = u.x <ℤ a

-- and not right of it
abbrev pub Reached : List End → ℤ → Type 0
Reached [] a = ⊥
Reached (t ∷ []) a = Unit {0}
Reached (t ∷ u ∷ ts) a = a ≤ℤ u.x

-- walls with all ends toggled
abbrev pub all_toggled : List End → List ℤ → List ℤ
all_toggled [] ws = ws
all_toggled (e ∷ es) ws = all_toggled es (toggled e.x ws)

-- the rectangle between these walls that was begun last is open, up to the top
pub record IsOpen (rects : List Rectangle) (last : BTreeMap ℤ ℕ) (a b top : ℤ) : Type 0 where
  pub place : ℕ
  pub rect : Rectangle
  pub found : last_at last a ≡ Some place
  pub there : slice_get rects place ≡ Some rect
  pub left : rect.x0 ≡ a
  pub right : rect.x1 ≡ b
  pub high : rect.y1 ≡ top

-- what is above a level stands between a pair of walls, and is found by its left edge
pub record Standing (rects : List Rectangle) (last : BTreeMap ℤ ℕ) (walls : List ℤ) (level : ℤ) : Type 0 where
  pub stand : (x : ℤ) (n : ℕ) → last_at last x ≡ Some n → n < length rects
  pub own : (x : ℤ) (n : ℕ) (r : Rectangle) → last_at last x ≡ Some n → slice_get rects n ≡ Some r → r.x0 ≡ x
  pub found : (n : ℕ) (r : Rectangle) → slice_get rects n ≡ Some r → level <ℤ r.y1 → last_at last r.x0 ≡ Some n
  pub paired : (n : ℕ) (r : Rectangle) → slice_get rects n ≡ Some r → level <ℤ r.y1 → (i : ℕ) × IsPair walls i r.x0 r.x1

-- what is above a level goes up to the top
abbrev pub IsHigh : List Rectangle → ℤ → ℤ → Type 0
IsHigh rects level top = (n : ℕ) (r : Rectangle) → slice_get rects n ≡ Some r → level <ℤ r.y1 → r.y1 ≡ top

-- all rectangles begin below a level
abbrev pub BeginBelow : List Rectangle → ℤ → Type 0
BeginBelow rects level = (n : ℕ) (r : Rectangle) → slice_get rects n ≡ Some r → r.y0 <ℤ level

-- what is off the first window is as it was, and the others go up to the level at most
pub record EndsWindow (ends : List End) (level : ℤ) (old new : List Rectangle) : Type 0 where
  pub same : map (cut_off level) new ≡ map (cut_off level) old
  pub kept : (n : ℕ) (r : Rectangle) → slice_get old n ≡ Some r → Off ends r.x0 r.x1 → slice_get new n ≡ Some r
  pub off : (n : ℕ) (r : Rectangle) → slice_get new n ≡ Some r → level <ℤ r.y1
      → (slice_get old n ≡ Some r) × Off ends r.x0 r.x1

-- so for all windows
pub record EndsLevel (ends : List End) (level : ℤ) (old new : List Rectangle) : Type 0 where
  pub same : map (cut_off level) new ≡ map (cut_off level) old
  pub kept : (n : ℕ) (r : Rectangle) → slice_get old n ≡ Some r → Clear ends r.x0 r.x1 → slice_get new n ≡ Some r
  pub clear : (n : ℕ) (r : Rectangle) → slice_get new n ≡ Some r → level <ℤ r.y1
      → (slice_get old n ≡ Some r) × Clear ends r.x0 r.x1

-- t stands on a rectangle that was begun last at its left edge and reaches it, and that one goes on up to t's top; or t
-- is added
pub record Goes (rects : List Rectangle) (last : BTreeMap ℤ ℕ) (t : Rectangle) (new : List Rectangle)
    (after : BTreeMap ℤ ℕ) : Type 0 where
  pub place : ℕ
  pub rect : Rectangle
  pub found : last_at last t.x0 ≡ Some place
  pub there : slice_get rects place ≡ Some rect
  pub left : rect.x0 ≡ t.x0
  pub right : rect.x1 ≡ t.x1
  pub level : t.y0 ≤ℤ rect.y1
  pub rects_are : new ≡ slice_set rects place (box rect.x0 rect.y0 rect.x1 t.y1)
  pub last_is : (x : ℤ) → last_at after x ≡ last_at last x

pub record Begins (rects : List Rectangle) (last : BTreeMap ℤ ℕ) (t : Rectangle) (new : List Rectangle)
    (after : BTreeMap ℤ ℕ) : Type 0 where
  pub none : (n : ℕ) (r : Rectangle) → last_at last t.x0 ≡ Some n → slice_get rects n ≡ Some r → r.x0 ≡ t.x0
      → r.x1 ≡ t.x1 → r.y1 <ℤ t.y0
  pub rects_are : new ≡ rects ++ t ∷ []
  pub last_is : (x : ℤ) → last_at after x ≡ cond (is_eq (int_cmp t.x0 x)) (Some (length rects)) (last_at last x)

-- left of the walls from the h-th pair on, and right of those before it
pub record IsCut (walls : List ℤ) (h : ℕ) (c : ℤ) : Type 0 where
  pub right : (k : ℕ) (w : ℤ) → k < h + h → slice_get walls k ≡ Some w → w <ℤ c
  pub left : (k : ℕ) (w : ℤ) → h + h ≤ k → slice_get walls k ≡ Some w → c ≤ℤ w

-- a rectangle as far as z left of c, and as far as y from there on
abbrev pub seen : ℤ → ℤ → ℤ → Rectangle → Rectangle
seen c y z r = cut_off (elim (int_lt r.x0 c) [ true ↦ z | false ↦ y ]) r

-- with the rectangles of the walls from the h-th pair on joined, the rectangles are these, whatever the next level is
abbrev pub Whole : ℕ → List ℤ → ℤ → ℤ → List Rectangle → (ℤ → List Rectangle) → Type 0
Whole h walls level top rects whole = (z c : ℤ) → level <ℤ z → z ≤ℤ top → IsCut walls h c
    → all_joined (map (seen c level z) rects) (between level z (drop (h + h) walls)) ≡ whole z

-- the rectangles of h pairs go on from the level, and all that are clear of the windows do so already
pub record Opening (h : ℕ) (ends : List End) (walls : List ℤ) (level top : ℤ) (rects : List Rectangle)
    (last : BTreeMap ℤ ℕ) : Type 0 where
  pub within : h + h ≤ length walls
  pub slab : (z c : ℤ) → level <ℤ z → z ≤ℤ top → IsCut walls h c → InSlab (map (seen c level z) rects) last level z c
  pub standing : Standing rects last walls level
  pub high : IsHigh rects level top
  pub low : (n : ℕ) (r : Rectangle) → slice_get rects n ≡ Some r → r.y0 ≤ℤ level
  pub begun : (i : ℕ) (a b : ℤ) → IsPair walls i a b → i < h → IsOpen rects last a b top
  pub clear : (i : ℕ) (a b : ℤ) → IsPair walls i a b → h ≤ i → Clear ends a b → IsOpen rects last a b top

-- from the h-th pair on, what is clear of these windows is clear of all
abbrev pub Behind : ℕ → List ℤ → List End → List End → Type 0
Behind h walls rest ends = (i : ℕ) (a b : ℤ) → IsPair walls i a b → h ≤ i → Clear rest a b → Clear ends a b

-- from the h-th pair on, all is off the first of these windows
abbrev pub OffFrom : ℕ → List ℤ → List End → Type 0
OffFrom h walls rest = (i : ℕ) (a b : ℤ) → IsPair walls i a b → h ≤ i → Off rest a b

-- the rectangles of the walls have begun at the level, or go on from it
pub record Risen (old : List Rectangle) (walls : List ℤ) (level top : ℤ) (rects : List Rectangle)
    (last : BTreeMap ℤ ℕ) : Type 0 where
  pub whole : (z : ℤ) → level <ℤ z → z ≤ℤ top → map (cut_off z) rects ≡ all_joined (map (cut_off level) old)
      (between level z walls)
  pub reaches : (z : ℤ) → level <ℤ z → z ≤ℤ top → ReachesUp (map (cut_off z) rects) last z
  pub standing : Standing rects last walls level
  pub high : IsHigh rects level top
  pub begun : (i : ℕ) (a b : ℤ) → IsPair walls i a b → IsOpen rects last a b top
  pub low : (n : ℕ) (r : Rectangle) → slice_get rects n ≡ Some r → r.y0 ≤ℤ level

-- a rectangle has the sides of t and reaches it from below, or not
abbrev pub IsReached : Rectangle → Rectangle → Bool → Type 0
IsReached r t true = (r.x0 ≡ t.x0) × ((r.x1 ≡ t.x1) × (t.y0 ≤ℤ r.y1))
IsReached r t false = r.x0 ≡ t.x0 → r.x1 ≡ t.x1 → r.y1 <ℤ t.y0

-- a rectangle that was begun last at t's left edge and reaches t, or that there is none
abbrev pub IsSupport : List Rectangle → BTreeMap ℤ ℕ → Rectangle → Option ℕ → Type 0
IsSupport rects last t (Some n) = (last_at last t.x0 ≡ Some n)
    × ((r : Rectangle) → slice_get rects n ≡ Some r → IsReached r t true)
IsSupport rects last t None = (n : ℕ) (r : Rectangle) → last_at last t.x0 ≡ Some n → slice_get rects n ≡ Some r
    → IsReached r t false

-- at a level: the rectangles reach it, those that are open stand between the pairs of walls below it, and none begins
-- there
pub record AtLevel (rects : List Rectangle) (last : BTreeMap ℤ ℕ) (walls : List ℤ) (level top : ℤ) : Type 0 where
  pub rising : Rising walls
  pub reaches : ReachesUp (map (cut_off level) rects) last level
  pub standing : Standing rects last walls level
  pub high : IsHigh rects level top
  pub low : BeginBelow rects level
  pub begun : (i : ℕ) (a b : ℤ) → IsPair walls i a b → IsOpen rects last a b top

-- no wall stands at x, and one would stand at the k-th place
pub record IsGap (ws : List ℤ) (k : ℕ) (x : ℤ) : Type 0 where
  pub within : k ≤ length ws
  pub before : (i : ℕ) (w : ℤ) → i < k → slice_get ws i ≡ Some w → w <ℤ x
  pub behind : (w : ℤ) → slice_get ws k ≡ Some w → x <ℤ w
