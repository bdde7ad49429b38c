-- Rules E1, G4 and G5 of a drawing: frames, the pins in them, and the metal over them.
use Rattle.std.proofs.Common.{◌≡◌, ℕ, suc, ◌+◌, ◌*◌, ◌/◌, ◌<◌, ◌≤◌, sym, ap, subst, arith, inl, inr, List}
use Rattle.std.proofs.Math.Nat.{mul-le-mul_right}
use Rattle.std.proofs.lemmas.Bool.{cases_order, cases_lt}
use Rattle.cell_library.specs.Library.{LibraryView, IsGiven}
use Rattle.layout_make.proofs.Lawful.{IsLawful}
use Rattle.circuit.specs.declared.cell_kind.CellKind.{CellKind}
use Rattle.circuit.specs.CellKinds.{slots_of}
use Rattle.layout_make.specs.Sheet.{Sheet, Tag, Area, Frame, Rise, Fall, area, centre, lower_edge, track_of}
use Rattle.layout_make.specs.declared.marks.Ports.{Ports as Side}
use Rattle.layout_make.specs.declared.marks.Ports.TheVariants.{Inputs, Outputs}
use Rattle.layout_make.proofs.SheetKeeps.{IsWire, IsDrawn, HasCells, column_at}
use Rattle.layout_make.specs.Tags.{At}
use Rattle.layout_make.proofs.Columns.{centre_least, next_edge, edges_apart, track_above, track_below}
use Rattle.layout_make.proofs.Sides.{pins_on, column_on, pin_tag, in_slot, pins_slots}

-- within, and sharing an inner point
pub record Inside (a b : Area) : Type 0 where
  pub left_so : b.left ≤ a.left
  pub low_so : b.low ≤ a.low
  pub right_so : a.right ≤ b.right
  pub high_so : a.high ≤ b.high

pub record Overlaps (a b : Area) : Type 0 where
  pub left_so : a.left < b.right
  pub right_so : b.left < a.right
  pub low_so : a.low < b.high
  pub high_so : b.low < a.high

pub strip_in : (l : LibraryView) → IsLawful l → (a b c : ℕ) → a * l.columns ≤ c → c < b * l.columns
    → (a * (l.columns * l.pitch) + l.wire / 2 ≤ centre l c) × (centre l c + l.wire / 2 ≤ b * (l.columns * l.pitch))
unfolding centre
strip_in l laws a b c least most =
    let x : (a * l.columns) * l.pitch ≤ c * l.pitch = mul-le-mul_right l.pitch least in
    let y : (c + 1) * l.pitch ≤ (b * l.columns) * l.pitch = mul-le-mul_right l.pitch
    (let k : c + 1 ≤ b * l.columns = omega arith in k) in
    (omega arith, omega arith)

pub strip_meets : (l : LibraryView) → IsLawful l → (a b c : ℕ) → a * (l.columns * l.pitch) < centre l c + l.wire / 2
    → centre l c < b * (l.columns * l.pitch) + l.wire / 2 → (a * l.columns ≤ c) × (c < b * l.columns)
unfolding centre
strip_meets l laws a b c p q = (
  elim (cases_lt c (a * l.columns)) [
    | inl lt ↦ absurd (let x : (c + 1) * l.pitch ≤ (a * l.columns) * l.pitch = mul-le-mul_right l.pitch
        (let k : c + 1 ≤ a * l.columns = omega arith in k) in omega arith)
    | inr ge ↦ ge
  ],
  elim (cases_lt c (b * l.columns)) [
    | inl lt ↦ lt
    | inr ge ↦ absurd (let x : (b * l.columns) * l.pitch ≤ c * l.pitch = mul-le-mul_right l.pitch ge in omega arith)
  ],
)

-- heights of rows share inner points where the rows are one
pub rows_meet : (s : Sheet) (r q : ℕ) → lower_edge s r < lower_edge s q + s.library.height
    → lower_edge s q < lower_edge s r + s.library.height → r ≡ q
rows_meet s r q a b = elim (cases_order r q) [
  | inl e ↦ e
  | inr h ↦ elim h [
    | inl lt ↦ absurd (let x = edges_apart s.library s.used r q lt in let y = next_edge s.library s.used r in
        omega arith)
    | inr lt ↦ absurd (let x = edges_apart s.library s.used q r lt in let y = next_edge s.library s.used q in
        omega arith)
  ]
]

-- a column of a slot
column_in : (c s n i col : ℕ) → i < n → i * c ≤ col → col < (i + 1) * c → (s * c ≤ s * c + col)
    × (s * c + col < (s + n) * c)
column_in c s n i col lt least most = let k : (i + 1) * c ≤ n * c = mul-le-mul_right c
    (let m : i + 1 ≤ n = omega arith in m) in (omega arith, omega arith)

abbrev pub Columns : Sheet → ℕ → CellKind → ℕ → Type 0
Columns s slot k c = (slot * s.library.columns ≤ c) × (c < (slot + slots_of k) * s.library.columns)

pub pin_columns : (s : Sheet) → IsLawful s.library → (side : Side) (slot i : ℕ) (k : CellKind) → IsGiven s.library k
    → i < pins_on side k → Columns s slot k (column_at s side slot k i)
pin_columns s laws side slot i k given lt =
    let m = pins_slots side k in
    let own = in_slot s.library laws side k i given lt in
    column_in s.library.columns slot (slots_of k) i (column_on s.library side k i) (omega arith) own.0 own.1

-- E1: a pin is inside its own cell's frame
pub pin_inside : (s : Sheet) → IsLawful s.library → (side : Side) (r c i slot : ℕ) (k : CellKind) → Columns s slot k c
    → Inside (area s (pin_tag side r c i)) (area s (Frame r slot k))
pin_inside s laws side r c i slot k col = go side (strip_in s.library laws slot (slot + slots_of k) c col.0 col.1)
  where
    go : (side : Side) → (slot * (s.library.columns * s.library.pitch) + s.library.wire / 2 ≤ centre s.library c)
        × (centre s.library c + s.library.wire / 2 ≤ (slot + slots_of k) * (s.library.columns * s.library.pitch))
        → Inside (area s (pin_tag side r c i)) (area s (Frame r slot k))
    go Inputs x = record { left_so = omega arith; low_so = omega arith; right_so = omega arith; high_so = omega arith }
    go Outputs x = record { left_so = omega arith; low_so = omega arith; right_so = omega arith; high_so = omega arith }

-- a pin inside a frame is in its row and in its columns
wire_wide : (l : LibraryView) → IsLawful l → 1 ≤ l.wire / 2
wire_wide l laws = omega arith

pub pin_of_frame : (s : Sheet) → IsLawful s.library → (side : Side) (r q c i slot : ℕ) (k : CellKind)
    → Inside (area s (pin_tag side r c i)) (area s (Frame q slot k)) → (r ≡ q) × Columns s slot k c
pin_of_frame s laws Inputs r q c i slot k h =
    let w = wire_wide s.library laws in
    let f = centre_least s.library c in (
      rows_meet s r q (omega arith) (omega arith),
      strip_meets s.library laws slot (slot + slots_of k) c (omega arith) (omega arith),
    )
pin_of_frame s laws Outputs r q c i slot k h =
    let w = wire_wide s.library laws in
    let f = centre_least s.library c in (
      rows_meet s r q (omega arith) (omega arith),
      strip_meets s.library laws slot (slot + slots_of k) c (omega arith) (omega arith),
    )

-- two frames of one row with a common column are one
pub one_frame : (s : Sheet) (ts : List Tag) → HasCells s ts → (i j r c a b : ℕ) (k m : CellKind)
    → At ts i (Frame r a k) → At ts j (Frame r b m) → Columns s a k c → Columns s b m c → i ≡ j
one_frame s ts has i j r c a b k m ai aj ca cb = elim (has.frames_apart i j r a b k m ai aj) [
  | inl e ↦ e
  | inr h ↦ elim h [
    | inl le ↦ absurd (let x : (a + slots_of k) * s.library.columns ≤ b * s.library.columns = mul-le-mul_right
        s.library.columns le in let p = ca.1 in let q = cb.0 in omega arith)
    | inr le ↦ absurd (let x : (b + slots_of m) * s.library.columns ≤ a * s.library.columns = mul-le-mul_right
        s.library.columns le in let p = cb.1 in let q = ca.0 in omega arith)
  ]
]

-- G5: frames do not overlap, and heights that meet are of one row
pub frames_overlap : (s : Sheet) (ts : List Tag) → IsDrawn s ts → HasCells s ts → (i j r q a b : ℕ) (k m : CellKind)
    → At ts i (Frame r a k) → At ts j (Frame q b m) → Overlaps (area s (Frame r a k)) (area s (Frame q b m)) → i ≡ j
frames_overlap s ts is has i j r q a b k m ai aj h =
    let e : r ≡ q = rows_meet s r q h.low_so h.high_so in
    let aj' = subst (λ (z : ℕ). At ts j (Frame z b m)) (sym e) aj in
    elim (has.frames_apart i j r a b k m ai aj') [
      | inl e ↦ e
      | inr o ↦ elim o [
        | inl
            le ↦ absurd
            (let x : (a + slots_of k) * (s.library.columns * s.library.pitch) ≤ b *
            (s.library.columns * s.library.pitch) = mul-le-mul_right (s.library.columns * s.library.pitch) le in
            let p = h.right_so in omega arith)
        | inr
            le ↦ absurd
            (let x : (b + slots_of m) * (s.library.columns * s.library.pitch) ≤ a *
            (s.library.columns * s.library.pitch) = mul-le-mul_right (s.library.columns * s.library.pitch) le in
            let p = h.left_so in omega arith)
      ]
    ]

-- G4: where M1 overlaps a frame, it is in the row and the columns of the frame, over its pin
pub rise_over : (s : Sheet) → IsLawful s.library → (r c q slot : ℕ) (k : CellKind) → IsWire s r c
    → Overlaps (area s (Rise r c)) (area s (Frame q slot k)) → (r ≡ q) × Columns s slot k c
rise_over s laws r c q slot k w h =
    let f = centre_least s.library c in
    let t = track_below s.library s.used r (s.track r c) w.tracked in
    let x = strip_meets s.library laws slot (slot + slots_of k) c (omega arith) (omega arith) in (
      elim (cases_order r q) [
        | inl e ↦ e
        | inr o ↦ elim o [
          | inl lt ↦ absurd (let y = edges_apart s.library s.used r q lt in omega arith)
          | inr lt ↦ absurd (let y = edges_apart s.library s.used q r lt in let z = next_edge s.library s.used q in
              omega arith)
        ]
      ],
      x,
    )

pub fall_over : (s : Sheet) → IsLawful s.library → (r c q slot : ℕ) (k : CellKind) → IsWire s r c
    → Overlaps (area s (Fall r c)) (area s (Frame q slot k)) → (suc r ≡ q) × Columns s slot k (s.to r c)
fall_over s laws r c q slot k w h =
    let f = centre_least s.library (s.to r c) in
    let t = track_above s.library s.used r (s.track r c) in
    let n = next_edge s.library s.used (suc r) in
    let x = strip_meets s.library laws slot (slot + slots_of k) (s.to r c) (omega arith) (omega arith) in (
      elim (cases_order (suc r) q) [
        | inl e ↦ e
        | inr o ↦ elim o [
          | inl lt ↦ absurd (let y = edges_apart s.library s.used (suc r) q lt in omega arith)
          | inr lt ↦ absurd (elim (cases_order q r) [
            | inl e ↦ absurd (let z : lower_edge s q ≡ lower_edge s r = ap (λ (n : ℕ). lower_edge s n) e in omega arith)
            | inr m ↦ elim m [
              | inl less ↦ absurd (let y = edges_apart s.library s.used q r less in
                  let z = next_edge s.library s.used q in omega arith)
              | inr more ↦ absurd (omega arith)
            ]
          ])
        ]
      ],
      x,
    )

-- G4: M2 and vias overlap no frame
pub across_over : (s : Sheet) → IsLawful s.library → (r c q slot : ℕ) (k : CellKind) (a : Area) → IsWire s r c
    → track_of s r c ≤ a.low + s.library.wire / 2 → a.high ≤ track_of s r c + s.library.wire / 2
    → Overlaps a (area s (Frame q slot k)) → ⊥
across_over s laws r c q slot k a w low high h =
    let t = track_above s.library s.used r (s.track r c) in
    let u = track_below s.library s.used r (s.track r c) w.tracked in
    elim (cases_lt r q) [
      | inl lt ↦ absurd (let y = edges_apart s.library s.used r q lt in omega arith)
      | inr le ↦ elim (cases_order q r) [
        | inl e ↦ absurd (let z : lower_edge s q ≡ lower_edge s r = ap (λ (n : ℕ). lower_edge s n) e in omega arith)
        | inr o ↦ elim o [
          | inl lt ↦ absurd (let y = edges_apart s.library s.used q r lt in let z = next_edge s.library s.used q in
              omega arith)
          | inr lt ↦ absurd (omega arith)
        ]
      ]
    ]
