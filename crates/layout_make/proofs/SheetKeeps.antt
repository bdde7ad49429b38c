-- What a sheet and a list of tags keep so that wires and cells are whole, and what is far apart.
use Rattle.std.specs.Prelude.{◌≡◌, ℕ, suc, ◌+◌, ◌-◌, ◌*◌, ◌%◌, ◌<◌, ◌≤◌, ◌⊎◌, min, max, true, List}
use Rattle.circuit.specs.CellKinds.{slots_of}
use Rattle.circuit.specs.declared.cell_kind.CellKind.{CellKind}
use Rattle.cell_library.specs.Library.{IsGiven}
use Rattle.layout_make.specs.Sheet.{Sheet, Tag, Area, Frame, InPin, OutPin, Lead, Bar, Rise, Fall, Across, FromVia}
use Rattle.layout_make.specs.Sheet.{ToVia}
use Rattle.layout_make.specs.Tags.{At}
use Rattle.layout_make.specs.declared.marks.Ports.{Ports as Side}
use Rattle.layout_make.proofs.Lawful.{IsLawful}
use Rattle.layout_make.proofs.Sides.{pins_on, column_on, pin_tag}

-- what a sheet keeps of a wire
pub record IsWire (s : Sheet) (r c : ℕ) : Type 0 where
  pub wired_so : s.wired r c ≡ true
  pub even : c % 2 ≡ 0
  pub odd : s.to r c % 2 ≡ 1
  pub tracked : s.track r c < s.used r

-- a step whose bar is drawn: the one below the rows is drawn where it has some width
pub record IsStep (s : Sheet) (n : ℕ) : Type 0 where
  pub below : n < suc s.rows
  pub lagged : n ≡ 0 → 1 ≤ s.lag

-- what a sheet keeps of a shape: where it may stand
abbrev pub Fits : Sheet → Tag → Type 0
Fits s (InPin r c i) = c % 2 ≡ 1
Fits s (OutPin r c i) = c % 2 ≡ 0
Fits s (Rise r c) = IsWire s r c
Fits s (Fall r c) = IsWire s r c
Fits s (Across r c) = IsWire s r c
Fits s (FromVia r c) = IsWire s r c
Fits s (ToVia r c) = IsWire s r c
Fits s (Frame r slot kind) = (r < s.rows) × ((slot + slots_of kind) * (s.library.columns * s.library.pitch) ≤ s.right)
    × IsGiven s.library kind
Fits s (Lead n) = IsStep s n
Fits s (Bar n) = IsStep s n

-- wires that share a column and a track are one
pub record IsRouted (s : Sheet) : Type 0 where
  pub laws : IsLawful s.library
  pub right_some : 1 ≤ s.right
  pub rows_some : 2 ≤ s.rows
  pub one_end : (r c d : ℕ) → IsWire s r c → IsWire s r d → s.to r c ≡ s.to r d → c ≡ d
  pub one_wire : (r c d : ℕ) → IsWire s r c → IsWire s r d → s.track r c ≡ s.track r d
      → min c (s.to r c) ≤ max d (s.to r d) → min d (s.to r d) ≤ max c (s.to r c) → c ≡ d

-- the areas are at least n apart, to the side or in height
abbrev pub Far : ℕ → Area → Area → Type 0
Far n a b = (a.right + n ≤ b.left) ⊎ ((b.right + n ≤ a.left) ⊎ ((a.high + n ≤ b.low) ⊎ (b.high + n ≤ a.low)))

-- some number has the tag
abbrev pub Stands : List Tag → Tag → Type 0
Stands ts t = (i : ℕ) × At ts i t

-- what a list of tags keeps so that wires are whole
pub record IsDrawn (s : Sheet) (ts : List Tag) : Type 0 where
  pub routed : IsRouted s
  pub fits : (i : ℕ) (t : Tag) → At ts i t → Fits s t
  pub once : (i j : ℕ) (t : Tag) → At ts i t → At ts j t → i ≡ j
  pub rises : (r c : ℕ) → IsWire s r c → Stands ts (Rise r c)
  pub falls : (r c : ℕ) → IsWire s r c → Stands ts (Fall r c)
  pub crosses : (r c : ℕ) → IsWire s r c → Stands ts (Across r c)
  pub begins : (r c : ℕ) → IsWire s r c → Stands ts (FromVia r c)
  pub ends : (r c : ℕ) → IsWire s r c → Stands ts (ToVia r c)
  pub leads : (n : ℕ) → IsStep s n → Stands ts (Lead n)
  pub bars : (n : ℕ) → IsStep s n → Stands ts (Bar n)

-- the column of a pin of a cell in a slot
abbrev pub column_at : Sheet → Side → ℕ → CellKind → ℕ → ℕ
column_at s side slot k i = slot * s.library.columns + column_on s.library side k i

-- the cell that a pin belongs to
pub record Owner (ts : List Tag) (r : ℕ) : Type 0 where
  pub slot : ℕ
  pub kind : CellKind
  pub stands : Stands ts (Frame r slot kind)

-- what a list of tags keeps of cells and their pins
pub record HasCells (s : Sheet) (ts : List Tag) : Type 0 where
  pub frames_some : (r : ℕ) → r < s.rows → Owner ts r
  pub pins_owned : (side : Side) (j r c i : ℕ) → At ts j (pin_tag side r c i) → (o : Owner ts r)
      × (i < pins_on side o.kind) × (c ≡ column_at s side o.slot o.kind i)
  pub pins_there : (side : Side) (r slot i : ℕ) (k : CellKind) → Stands ts (Frame r slot k) → i < pins_on side k
      → Stands ts (pin_tag side r (column_at s side slot k i) i)
  pub frames_apart : (i j r a b : ℕ) (k m : CellKind) → At ts i (Frame r a k) → At ts j (Frame r b m)
      → (i ≡ j) ⊎ ((a + slots_of k ≤ b) ⊎ (b + slots_of m ≤ a))
  pub wire_begins : (r c : ℕ) → IsWire s r c → (o : ℕ) × Stands ts (OutPin r c o)
  pub wire_ends : (r c : ℕ) → IsWire s r c → (i : ℕ) × Stands ts (InPin (suc r) (s.to r c) i)
  pub inputs_wired : (j r c i : ℕ) → At ts j (InPin (suc r) c i) → (d : ℕ) × IsWire s r d × (s.to r d ≡ c)

-- what the wires of a sheet are allowed: the two pins, the two bends, the channel's height and the distance
abbrev pub WiresShort : Sheet → Type 0
WiresShort s = (r c : ℕ) → IsWire s r c
    → (s.used r + 1) * s.library.pitch + 2 * s.library.pin + 2 * s.library.wire + (max c (s.to r c) - min c (s.to r c))
    * s.library.pitch ≤ s.library.limit
