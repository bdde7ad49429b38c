-- The rows of a drawing one after the other, and its labels, as the code adds them.
use Rattle.std.proofs.Common.{◌≡◌, ℕ, zero, suc, ◌+◌, ◌-◌, ◌*◌, ◌/◌, ◌<◌, ◌≤◌, ◌^◌, min, Bool, true, false, ◌||◌, refl}
use Rattle.std.proofs.Common.{sym, ap, subst, ◌∙◌, arith, ◌==◌, inl, inr, List, [], ◌∷◌, ◌++◌, length, map}
use Rattle.std.proofs.Common.{ℤ, append_assoc, Some, slice_get, slice_index_or, cond, codes}
use Rattle.std.specs.List.{flat_map, filter, list_any, AllByRecursion}
use Rattle.std.proofs.Math.Nat.{mul-le-mul_right}
use Rattle.std.proofs.lemmas.Bool.{cases_lt}
use Rattle.std.proofs.lemmas.Bool.Decides.{nat_tests}
use Rattle.std.proofs.lemmas.List.{length-map, map-append, append-nil}
use Rattle.std.proofs.lemmas.List.Sums.{length-filter, count_by-le-length}
use Rattle.std.proofs.lemmas.Option.{same_Some}
use Rattle.cell_library.specs.Kinds.{all_kinds}
use Rattle.circuit.specs.CellKinds.{number_of, slots_of}
use Rattle.circuit.specs.declared.cell_kind.CellKind.{CellKind}
use Rattle.circuit.specs.declared.cell_kind.CellKind.TheVariants.{Buffer}
use Rattle.geom.specs.declared.layout.Element.{Element}
use Rattle.geom.specs.declared.layout.Element.TheVariants.{Text}
use Rattle.geom.specs.declared.layout.Structure.{Structure}
use Rattle.geom.specs.declared.layout.Layout.{Layout}
use Rattle.geom.specs.declared.shapes.Label.{Label}
use Rattle.rowed.specs.declared.row_cell.RowCell.{RowCell}
use Rattle.rowed.specs.declared.wire.Wire.{Wire}
use Rattle.sorting.specs.Numbers.{numbers}
use Rattle.rowed.specs.RowNets.{row_at}
use Rattle.rowed.specs.PlacedNets.{PlacedView, IsPlaced, placed_rows}
use Rattle.rowed.specs.Extent.{widest}
use Rattle.sorting.specs.Sorting.{by_key}
use Rattle.cell_library.specs.Library.{LibraryView, IsGiven, input_column_of, output_column_of}
use Rattle.layout_make.proofs.Lawful.{IsLawful}
use Rattle.layout_make.specs.Sheet.{lower_edge, lead_first, step_low}
use Rattle.layout_make.specs.Spots.{Spot, spots_of, spots}
use Rattle.layout_make.proofs.ReadyNets.{IsReady}
use Rattle.layout_make.specs.Channel.{from_of, wires_into, channel}
use Rattle.layout_make.specs.Tags.{sheet, wire_tags}
use Rattle.layout_make.specs.Draw.{boxes, slot_where}
use Rattle.layout_make.specs.Draw as Draw
use Rattle.layout_make.specs.Code.Boxes.{row_boxes}
use Rattle.layout_make.specs.declared.marks.Ports.{Ports}
use Rattle.layout_make.specs.declared.marks.Ports.TheVariants.{Inputs, Outputs}
use Rattle.layout_make.specs.Code.Labelling.{port_slot, port_texts}
use Rattle.layout_make.specs.MayDraw.{MayDraw, GivesKinds}
use Rattle.layout_make.proofs.Columns.{next_edge, edges_apart}
use Rattle.layout_make.proofs.Ready.{TracksLaw, may_ready, last_suc}
use Rattle.layout_make.proofs.RowsDrawn.{SoFar, row_drawn, flat_last, edge_here}
use Rattle.layout_make.proofs.FlatLaw.{kinds_same}
use Rattle.layout_make.proofs.PinCounts.{slots_some}
use Rattle.layout_make.proofs.WireCode.{cell_fits}
use Rattle.layout_make.proofs.Sound.{routed}

abbrev pub end_at : PlacedView → LibraryView → ℕ
end_at p l = widest (placed_rows p) * (l.columns * l.pitch)

-- where a link begins is not above its row
pub two_below : (p : PlacedView) (l : LibraryView) (n : ℕ) (items : List Element) (row one two : ℕ)
    → SoFar p l n items row one two → n < length p.net.rows → two ≤ row
unfolding sheet
two_below p l n items row one two so lt =
    let a = so.two_is in
    let b = edge_here p l n items row one two so lt in
    let rise = go (n - 2) n (omega arith) in
    omega arith
  where
    go : (r q : ℕ) → r ≤ q → lower_edge (sheet p l) r ≤ lower_edge (sheet p l) q
    go r q le =
        elim (cases_lt r q) [
          | inl less ↦ (let a = next_edge l (sheet p l).used r in
              let b = edges_apart l (sheet p l).used r q less in omega arith)
          | inr
              ge ↦ (let e = ap (lower_edge (sheet p l)) (let h : r ≡ q = omega arith in h) in omega arith)
        ]

pub right_some : (p : PlacedView) (l : LibraryView) → IsReady p l → IsLawful l → 0 < end_at p l
unfolding sheet
right_some p l is laws = (routed p l is laws).right_some

row_past : (rows : List (List RowCell)) (r : ℕ) → length rows ≤ r → row_at rows r ≡ []
row_past [] r le = refl
row_past (row ∷ rows) zero le = absurd (omega arith)
row_past (row ∷ rows) (suc r) le = row_past rows r (omega arith)

channel_past : (p : PlacedView) (l : LibraryView) (r : ℕ) → length p.net.rows ≤ suc r → channel p l r ≡ []
channel_past p l r le =
    ap (λ (cells : List RowCell). by_key from_of
    (wires_into l (spots p r) (spots_of cells (slice_index_or p.slots (suc r) [])))) (row_past p.net.rows (suc r) le)

-- what the code has of a row: the kinds that are used, where the drawing ends, the row's cells and slots, and where its
-- first lead begins
pub record RowGiven (p : PlacedView) (l : LibraryView) (n : ℕ) (kinds : List CellKind) (right : ℕ)
    (lag : ℕ) (cells : List RowCell) (slots : List ℕ) (first : ℤ) : Type 0 where
  pub kinds_are : kinds ≡ Draw.used_kinds p
  pub right_is : right ≡ end_at p l
  pub cells_are : cells ≡ row_at p.net.rows n
  pub slots_are : slots ≡ slice_index_or p.slots n []
  pub lag_is : lag ≡ p.lag
  pub first_is : first ≡ step_low (sheet p l) (lead_first p.lag (suc n))

-- a row and its channel after the rows so far
rows_next : {p : PlacedView} {l : LibraryView} {n : ℕ} {items mid new : List Element} {kinds : List CellKind}
    {right lag : ℕ} {cells : List RowCell} {slots : List ℕ} {first : ℤ} {row : ℕ}
    → items ≡ flat_map (Draw.row_elements p l) (numbers 0 n) → RowGiven p l n kinds right lag cells slots first
    → row ≡ lower_edge (sheet p l) n → mid ≡ items ++ row_boxes l kinds right lag n (spots_of cells slots) first row
    → new ≡ mid ++ boxes (sheet p l) (flat_map (wire_tags n) (channel p l n))
    → new ≡ flat_map (Draw.row_elements p l) (numbers 0 (n + 1))
rows_next {p} {l} {n} {items} {mid} {new} {kinds} {right} {lag} {cells} {slots} {first} {row} so given row_is is then =
    let wires = boxes (sheet p l) (flat_map (wire_tags n) (channel p l n)) in
    let own = row_boxes l (Draw.used_kinds p) (end_at p l) p.lag n (spots p n)
    (step_low (sheet p l) (lead_first p.lag (suc n)))
    (lower_edge (sheet p l) n) in
    let same : row_boxes l kinds right lag n (spots_of cells slots) first row ≡ own =
    ap (λ (k : ℕ). row_boxes l kinds right k n (spots_of cells slots) first row) given.lag_is
    ∙ rw (given.kinds_are, given.right_is, given.cells_are, given.slots_are, given.first_is, row_is) refl in
    then ∙ ap (λ (es : List Element). es ++ wires)
    (is ∙ ap (λ (es : List Element). items ++ es) same ∙ ap (λ (es : List Element). es ++ own) so)
    ∙ append_assoc (flat_map (Draw.row_elements p l) (numbers 0 n)) own wires
    ∙ ap (λ (es : List Element). flat_map (Draw.row_elements p l) (numbers 0 n) ++ es) (row_drawn p l n)
    ∙ flat_last (Draw.row_elements p l) n

pub so_wired : {p : PlacedView} {l : LibraryView} {n : ℕ} {items mid new : List Element} {kinds : List CellKind}
    {right lag : ℕ} {cells : List RowCell} {slots : List ℕ} {first : ℤ} {row one two next : ℕ}
    → SoFar p l n items row one two
    → n + 1 < length p.net.rows → RowGiven p l n kinds right lag cells slots first
    → mid ≡ items ++ row_boxes l kinds right lag n (spots_of cells slots) first row
    → new ≡ mid ++ boxes (sheet p l) (flat_map (wire_tags n) (channel p l n))
    → next ≡ lower_edge (sheet p l) (n + 1) → SoFar p l (n + 1) new next row one
so_wired {p} {l} {n} {items} {mid} {new} {kinds} {right} {lag} {cells} {slots} {first} {row} {one} {two} so lt given
    is then on =
    let here = edge_here p l n items row one two so (omega arith) in
    record {
      drawn = rows_next so.drawn given here is then;
      edge_is = on ∙ ap (lower_edge (sheet p l)) (let h : n + 1 ≡ min (n + 1) (length p.net.rows - 1) = omega arith in
          h);
      one_is = here ∙ ap (lower_edge (sheet p l)) (let h : n ≡ n + 1 - 1 = omega arith in h);
      two_is = so.one_is ∙ ap (lower_edge (sheet p l)) (let h : n - 1 ≡ n + 1 - 2 = omega arith in h);
    }

pub so_last : {p : PlacedView} {l : LibraryView} {n : ℕ} {items mid new : List Element} {kinds : List CellKind}
    {right lag : ℕ} {cells : List RowCell} {slots : List ℕ} {first : ℤ} {row one two next : ℕ}
    → SoFar p l n items row one two
    → n < length p.net.rows → length p.net.rows ≤ n + 1 → RowGiven p l n kinds right lag cells slots first
    → mid ≡ items ++ row_boxes l kinds right lag n (spots_of cells slots) first row → new ≡ mid → next ≡ row
    → SoFar p l (n + 1) new next row one
so_last {p} {l} {n} {items} {mid} {new} {kinds} {right} {lag} {cells} {slots} {first} {row} {one} {two} so lt le given
    is then on =
    let here = edge_here p l n items row one two so lt in
    let none : boxes (sheet p l) (flat_map (wire_tags n) (channel p l n)) ≡ [] =
    ap (λ (ws : List Wire). boxes (sheet p l) (flat_map (wire_tags n) ws)) (channel_past p l n (omega arith)) in
    record {
      drawn = rows_next so.drawn given here is
          (then ∙ sym (append-nil mid) ∙ ap (λ (es : List Element). mid ++ es) (sym none));
      edge_is = on ∙ here
          ∙ ap (lower_edge (sheet p l)) (let h : n ≡ min (n + 1) (length p.net.rows - 1) = omega arith in h);
      one_is = here ∙ ap (lower_edge (sheet p l)) (let h : n ≡ n + 1 - 1 = omega arith in h);
      two_is = so.one_is ∙ ap (lower_edge (sheet p l)) (let h : n - 1 ≡ n + 1 - 2 = omega arith in h);
    }

-- labels

pub where_small : (P : ℕ → Type 0) (test : RowCell → Bool) (xs : List Spot) → P 0
    → ((n : ℕ) (x : Spot) → slice_get xs n ≡ Some x → P x.slot) → P (slot_where test xs)
where_small P test [] none each = none
where_small P test (x ∷ xs) none each = go (where_small P test xs none (λ n y e. each (suc n) y e)) (test x.cell)
  where
    go : P (slot_where test xs) → (b : Bool) → P (elim b [ true ↦ x.slot | false ↦ slot_where test xs ])
    go rest true = each 0 x refl
    go rest false = rest

abbrev SlotFits : LibraryView → ℕ → ℕ → Type 0
SlotFits l column s = s * l.columns + column < 2 ^ 32

pub ports_fit : (l : LibraryView) (b : Ports) (xs : List Spot) (column port : ℕ)
    → ((n : ℕ) (x : Spot) → slice_get xs n ≡ Some x → x.slot * l.columns + column < 2 ^ 32) → column < 2 ^ 32
    → port_slot b xs port * l.columns + column < 2 ^ 32
ports_fit l b xs column port each none = where_small (SlotFits l column) _ xs (omega arith) each

pub labels_fit : (p : PlacedView) (l : LibraryView) → TracksLaw → MayDraw p l
    → (r : ℕ) (b : Ports) (cells : List RowCell) (slots : List ℕ) (column : ℕ) → cells ≡ row_at p.net.rows r
    → slots ≡ slice_index_or p.slots r [] → column < l.columns → (port : ℕ)
    → port_slot b (spots_of cells slots) port * l.columns + column < 2 ^ 32
labels_fit p l law may r b cells slots column e f lt port =
    ports_fit l b (spots_of cells slots) column port (λ n x at.
    let fit = cell_fits p l may.library may.narrow r ((may_ready p l law may).given r) n x
    (ap (λ (cs : List RowCell). slice_get (spots_of cs (slice_index_or p.slots r [])) n) (sym e)
    ∙ ap (λ (ss : List ℕ). slice_get (spots_of cells ss) n) (sym f) ∙ at) in
    let some = slots_some x.cell.kind in
    let m : (x.slot + 1) * l.columns ≤ (x.slot + slots_of x.cell.kind) * l.columns = mul-le-mul_right l.columns
    (let h : x.slot + 1 ≤ x.slot + slots_of x.cell.kind = omega arith in h) in
    let c = fit.columns in
    omega arith)
    (let most = may.library.draft.ranges.columns_most in omega arith)

texts : (f : ℕ → Label) (ns : List ℕ) → map (λ (n : ℕ). Text (f n)) ns ≡ map (λ (b : Label). Text b) (map f ns)
texts f [] = refl
texts f (n ∷ ns) = ap (λ (es : List Element). Text (f n) ∷ es) (texts f ns)

-- what the code has of the ports of a row: its cells and slots, their column, how high they stand, and how many
pub record PortsGiven (p : PlacedView) (n : ℕ) (cells : List RowCell) (slots : List ℕ) (column at y high count all : ℕ)
    : Type 0 where
  pub cells_are : cells ≡ row_at p.net.rows n
  pub slots_are : slots ≡ slice_index_or p.slots n []
  pub column_is : column ≡ at
  pub y_is : y ≡ high
  pub count_is : count ≡ all

pub top_is : {p : PlacedView} (l : LibraryView) {one two three : List Element} {low_cells high_cells : List RowCell}
    {low_slots high_slots : List ℕ} {low_column high_column low_y high_y inputs outputs : ℕ}
    → one ≡ Draw.shape_elements p l
    → PortsGiven p 0 low_cells low_slots low_column (input_column_of l Buffer 0) low_y (l.pin / 2) inputs p.net.inputs
    → PortsGiven p (Draw.last_row p) high_cells high_slots high_column (output_column_of l Buffer 0) high_y
    (lower_edge (sheet p l) (Draw.last_row p) + l.height - l.pin / 2) outputs p.net.outputs
    → two ≡ one ++ port_texts l Inputs (spots_of low_cells low_slots) low_column low_y inputs
    → three ≡ two ++ port_texts l Outputs (spots_of high_cells high_slots) high_column high_y outputs
    → three ≡ Draw.top_elements p l
top_is {p} l {one} {two} {three} {low_cells} {high_cells} {low_slots} {high_slots} {low_column} {high_column} {low_y}
    {high_y} {inputs} {outputs} is low high then on =
    let rows = Draw.shape_elements p l in
    let ins = map (λ (x : Label). Text x) (map (Draw.input_label p l) (numbers 0 p.net.inputs)) in
    let outs = map (λ (x : Label). Text x) (map (Draw.output_label p l) (numbers 0 p.net.outputs)) in
    let first : port_texts l Inputs (spots_of low_cells low_slots) low_column low_y inputs ≡ ins =
    rw (low.cells_are, low.slots_are, low.column_is, low.y_is, low.count_is)
    (texts (Draw.input_label p l) (numbers 0 p.net.inputs)) in
    let last : port_texts l Outputs (spots_of high_cells high_slots) high_column high_y outputs ≡ outs =
    rw (high.cells_are, high.slots_are, high.column_is, high.y_is, high.count_is)
    (texts (Draw.output_label p l) (numbers 0 p.net.outputs)) in
    on ∙ ap (λ (es : List Element). two ++ es) last
    ∙ ap (λ (es : List Element). es ++ outs)
    (then ∙ ap (λ (es : List Element). one ++ es) first ∙ ap (λ (es : List Element). es ++ ins) is)
    ∙ append_assoc rows ins outs
    ∙ ap (λ (es : List Element). rows ++ es) (sym (map-append (λ (x : Label). Text x)
    (map (Draw.input_label p l) (numbers 0 p.net.inputs)) (map (Draw.output_label p l) (numbers 0 p.net.outputs))))

-- the kinds that are used are given

pub passes : {A : Type 0} (test : A → Bool) (xs : List A) (n : ℕ) (x : A) → slice_get (filter test xs) n ≡ Some x
    → test x ≡ true
passes test [] n x e = absurd cc
passes {A} test (y ∷ xs) n x e = go (λ m f. passes test xs m x f) (test y) refl n e
  where
    go : ((m : ℕ) → slice_get (filter test xs) m ≡ Some x → test x ≡ true) → (b : Bool) → test y ≡ b → (n : ℕ)
        → slice_get (filter test (y ∷ xs)) n ≡ Some x → test x ≡ true
    go rest true q zero e = let f : slice_get (y ∷ filter test xs) zero ≡ Some
        x = subst (λ (b : Bool). slice_get (cond b (y ∷ filter test xs) (filter test xs)) zero ≡ Some x) q e in
        ap test (sym (same_Some _ _ f)) ∙ q
    go rest true q (suc n) e = let f : slice_get (y ∷ filter test xs) (suc n) ≡ Some
        x = subst (λ (b : Bool). slice_get (cond b (y ∷ filter test xs) (filter test xs)) (suc n) ≡ Some x) q e in
        rest n f
    go rest false q n e =
        rest n (subst (λ (b : Bool). slice_get (cond b (y ∷ filter test xs) (filter test xs)) n ≡ Some x) q e)

pub some_such : {A : Type 0} (test : A → Bool) (P Q : A → Type 0) (xs : List A) → AllByRecursion P xs
    → ((x : A) → P x → test x ≡ true → Q x) → (R : Type 0) → ((x : A) → Q x → R) → list_any test xs ≡ true → R
some_such test P Q [] all each R use_it e = absurd cc
some_such test P Q (x ∷ xs) all each R use_it e = go (some_such test P Q xs all.1 each R use_it) (test x) refl e
  where
    go : (list_any test xs ≡ true → R) → (b : Bool) → test x ≡ b → (b || list_any test xs) ≡ true → R
    go rest true q e = use_it x (each x all.0 q)
    go rest false q e = rest e

pub tells : (a b : ℕ) → (a == b) ≡ true → b ≡ a
tells a b e = grind (arith, nat_tests)

pub used_given : (p : PlacedView) (l : LibraryView) → GivesKinds l p.net.rows → (kinds : List CellKind)
    → kinds ≡ Draw.used_kinds p → (n : ℕ) (k : CellKind) → slice_get kinds n ≡ Some k → IsGiven l k
used_given p l all kinds same n k at =
    let used = passes (Draw.uses p) all_kinds n k (ap (λ (ks : List CellKind). slice_get ks n) (sym same) ∙ at) in
    some_such (Draw.row_has k) (λ (row : List RowCell). AllByRecursion (λ (cell : RowCell). IsGiven l cell.kind) row)
    (λ (row : List RowCell). IsGiven l k) p.net.rows all (λ row own e.
    some_such (λ (cell : RowCell). Draw.same_kind k cell.kind) (λ (cell : RowCell). IsGiven l cell.kind)
    (λ (cell : RowCell). IsGiven l k) row own
    (λ cell given f. subst (IsGiven l) (kinds_same cell.kind k (tells (number_of k) (number_of cell.kind) f))
    given) (IsGiven l k) (λ cell g. g) e)
    (IsGiven l k) (λ row g. g) used

pub few_kinds : (p : PlacedView) → length (Draw.used_kinds p) ≤ 7
few_kinds p = omega (arith, length-filter (Draw.uses p) all_kinds, count_by-le-length (Draw.uses p) all_kinds)

pub layout_is : (p : PlacedView) (l : LibraryView) (kinds : List CellKind) (old new : List Structure) (name : List ℕ)
    (elements : List Element) (top : ℕ) → kinds ≡ Draw.used_kinds p → old ≡ map (Draw.cell_structure l) kinds
    → name ≡ codes "TOP" → elements ≡ Draw.top_elements p l → new ≡ old ++ record { name = name; elements = elements }
    ∷ [] → top ≡ length old → ◌≡◌ {A = Layout} (record { structures = new; top = top }) (Draw.draw p l)
unfolding Draw.draw
layout_is p l kinds old new name elements top a b c d e f =
    ap (λ (ss : List Structure). made ss top)
    (e ∙ ap (λ (ss : List Structure). ss ++ one name elements ∷ []) (b ∙ ap (map (Draw.cell_structure l)) a)
    ∙ ap (λ (n : List ℕ). map (Draw.cell_structure l) (Draw.used_kinds p) ++ one n elements ∷ []) c
    ∙ ap (λ (es : List Element). map (Draw.cell_structure l) (Draw.used_kinds p) ++ one (codes "TOP") es ∷ []) d)
    ∙ ap (λ (n : ℕ). made (map (Draw.cell_structure l) (Draw.used_kinds p) ++ Draw.top_of p l ∷ []) n)
    (f ∙ ap length (b ∙ ap (map (Draw.cell_structure l)) a)
    ∙ length-map (Draw.used_kinds p) (Draw.cell_structure l))
  where
    made : List Structure → ℕ → Layout
    made ss n = record { structures = ss; top = n }

    one : List ℕ → List Element → Structure
    one n es = record { name = n; elements = es }

pub last_at : (p : PlacedView) (n : ℕ) → IsPlaced p → n ≡ length p.net.rows → n - 1 ≡ Draw.last_row p
last_at p n is e = let two = is.net_keeps.two_rows in let k = last_suc p (omega arith) in omega arith
