-- Wide layouts that have a flat form of a size that is taken: what reading a wide stream gives.
use Rattle.std.specs.Prelude.{◌≡◌, ℕ, zero, suc, ◌<◌, ◌≤◌, ◌||◌, List, [], ◌∷◌, Bool, true, false, length, pos, ◌+ℤ◌}
use Rattle.std.specs.Prelude.{◌*ℤ◌, FitsSigned}
use Rattle.std.specs.Int.{w32}
use Rattle.std.specs.List.{AllByRecursion}
use Rattle.geom.specs.FlatForm.{shape_limit}
use Rattle.poly_cut.specs.declared.layout.Point.{Point}
use Rattle.poly_cut.specs.declared.layout.Turn.{Turn}
use Rattle.poly_cut.specs.declared.layout.Grid.{Grid}
use Rattle.poly_cut.specs.declared.layout.Item.{Item}
use Rattle.poly_cut.specs.declared.layout.Item.TheVariants.{Draw, Place, Text}
use Rattle.poly_cut.specs.declared.layout.WideStructure.{WideStructure}
use Rattle.poly_cut.specs.declared.layout.WideLayout.{WideLayout}
use Rattle.poly_cut.specs.Figures.{IsDrawn, IsNarrow}
use Rattle.poly_cut.specs.Turns.{point}
use Rattle.poly_cut.specs.FlatForm.{items_at}
use Rattle.poly_cut.specs.Counts.{wide_count}

-- the point moved by so many steps
abbrev pub far : ℕ → Point → Point → Point
far n step p = point (p.x +ℤ pos n *ℤ step.x) (p.y +ℤ pos n *ℤ step.y)

-- the grid's first row and first column end at points of four bytes each
pub record IsGrid (at : Point) (grid : Grid) : Type 0 where
  pub narrow : IsNarrow at
  pub columns : (0 < grid.columns) × (grid.columns < 32768)
  pub rows : (0 < grid.rows) × (grid.rows < 32768)
  pub column_end : IsNarrow (far grid.columns grid.column_step at)
  pub row_end : IsNarrow (far grid.rows grid.row_step at)

-- a placement among this many structures
pub record IsPlaced (count n : ℕ) (at : Point) (turn : Turn) (grid : Grid) : Type 0 where
  pub stands : n < count
  pub quarter : turn.quarter < 4
  pub lattice : IsGrid at grid

-- an item among this many structures
abbrev pub IsItem : ℕ → Item → Type 0
IsItem count (Draw layer datatype f) = IsDrawn f
IsItem count (Place n at turn grid) = IsPlaced count n at turn grid
IsItem count (Text l) = FitsSigned w32 l.x × FitsSigned w32 l.y

-- the items of all structures
abbrev pub AreItems : ℕ → List WideStructure → Type 0
AreItems count ss = AllByRecursion (λ s. AllByRecursion (IsItem count) s.items) ss

-- some item places a structure that passes the test
abbrev pub some_placed : (ℕ → Bool) → List Item → Bool
some_placed test [] = false
some_placed test (Draw layer datatype f ∷ es) = some_placed test es
some_placed test (Place n at turn grid ∷ es) = test n || some_placed test es
some_placed test (Text l ∷ es) = some_placed test es

-- a chain of so many references goes down from structure n
abbrev pub goes_down : ℕ → List WideStructure → ℕ → Bool
goes_down zero ss n = true
goes_down (suc k) ss n = some_placed (goes_down k ss) (items_at ss n)

-- the top and all that is placed are there, figures and grids are as they may be, no chain has more than 64 references
-- and so none is a loop, and the flat form has as few shapes and labels as are read
pub record IsFlattenable (w : WideLayout) : Type 0 where
  pub top_stands : w.top < length w.structures
  pub each : AreItems (length w.structures) w.structures
  pub short : (n : ℕ) → goes_down 65 w.structures n ≡ false
  pub within : wide_count w ≤ shape_limit
