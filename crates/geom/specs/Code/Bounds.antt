-- Rectangles that hold many others, by which a walk passes over all of them.
use Rattle.std.specs.Prelude.{◌≡◌, ℕ, ◌*◌, ◌/◌, ◌<◌, ◌≤◌, ◌≤ℤ◌, List, slice_get, Some}
use Rattle.geom.specs.Rectangle.{Rectangle}
use Rattle.geom.specs.Near.{IsClose}
use Rattle.geom.specs.declared.index.spots.Spot.{Spot}
use Rattle.geom.specs.declared.index.blocks.Block.{Block}

-- the inner rectangle lies in the outer one, edges counted
pub record Holds (outer inner : Rectangle) : Type 0 where
  pub left : outer.x0 ≤ℤ inner.x0
  pub bottom : outer.y0 ≤ℤ inner.y0
  pub right : inner.x1 ≤ℤ outer.x1
  pub top : inner.y1 ≤ℤ outer.y1

-- the rectangles from one place up to another lie in this one
abbrev pub HoldsSpots : List Spot → ℕ → ℕ → Rectangle → Type 0
HoldsSpots spots from past bounds = (p : ℕ) (s : Spot) → from ≤ p → p < past → slice_get spots p ≡ Some s
    → Holds bounds s.rect

-- each block holds what follows its place
abbrev pub AreBlocks : List Spot → List Block → Type 0
AreBlocks spots blocks = (b : ℕ) (block : Block) → slice_get blocks b ≡ Some block
    → HoldsSpots spots (b * 8) block.past block.bounds

-- the block that begins at this place is far away, and holds what lies before the other one
pub record IsPassed (blocks : List Block) (place past : ℕ) (rect : Rectangle) (margin : ℕ) : Type 0 where
  pub block : Block
  pub block_is : slice_get blocks (place / 8) ≡ Some block
  pub begins : place / 8 * 8 ≡ place
  pub ends : past ≤ block.past
  pub far : IsClose rect block.bounds margin → ⊥
