-- The wires of a channel as the code collects them.
use Rattle.std.proofs.Common.{◌≡◌, ℕ, suc, ◌+◌, ◌*◌, ◌≤◌, refl, sym, ap, subst, ◌∙◌, arith, List, [], ◌++◌, length}
use Rattle.std.proofs.Common.{drop, append_assoc, Option, Some, None, slice_get, slice_index_or}
use Rattle.std.specs.List.Sorted.{IsSortedByKey, IsStableByKey}
use Rattle.std.specs.Ordering.{nat_cmp}
use Rattle.std.proofs.lemmas.Option.{same_Some}
use Rattle.sorting.specs.Sorting.{by_key}
use Rattle.std.proofs.Math.Nat.{mul-le-mul_right}
use Rattle.std.proofs.lemmas.List.{append-nil}
use Rattle.circuit.specs.CellKinds.{slots_of}
use Rattle.rowed.specs.declared.source.Source.{Source}
use Rattle.rowed.specs.declared.wire.Wire.{Wire}
use Rattle.rowed.specs.declared.row_cell.RowCell.{RowCell}
use Rattle.rowed.specs.RowNets.{row_at}
use Rattle.rowed.specs.PlacedNets.{PlacedView, IsPlaced, placed_rows}
use Rattle.rowed.specs.Extent.{widest}
use Rattle.rowed.specs.Limits.{width_limit}
use Rattle.sorting.proofs.SortingLaws.{by_key_from_sort}
use Rattle.cell_library.specs.Library.{LibraryView}
use Rattle.cell_library.specs.Laws.{IsLibrary}
use Rattle.cell_library.specs.Reach.{slot_width_of}
use Rattle.layout_make.specs.Spots.{Spot, spots_of, spots, AreGiven}
use Rattle.layout_make.specs.Channel.{pin_wire, wires_into, from_of, channel}
use Rattle.layout_make.specs.Code.WireFits.{CellFits, SourceFits, WiresFit}
use Rattle.layout_make.proofs.Sound.{widest_most}
use Rattle.layout_make.proofs.Ready.{lawful, pin_below, source_there}
use Rattle.layout_make.proofs.RowCode.{drop_at, drop_all, spots_long}

-- a pin's wire before the others

pin_first : (l : LibraryView) (lower : List Spot) (x : Spot) (i : ℕ) (o : Option Source) (more : List Wire)
    → pin_wire l lower x i o more ≡ pin_wire l lower x i o [] ++ more
pin_first l lower x i None more = refl
pin_first l lower x i (Some s) more = refl

pub row_step : (l : LibraryView) (lower xs : List Spot) (n : ℕ) (x : Spot) (items one two three : List Wire)
    → slice_get xs n ≡ Some x → items ++ wires_into l lower (drop n xs) ≡ wires_into l lower xs
    → one ≡ items ++ pin_wire l lower x 0 x.cell.source0 [] → two ≡ one ++ pin_wire l lower x 1 x.cell.source1 []
    → three ≡ two ++ pin_wire l lower x 2 x.cell.source2 []
    → three ++ wires_into l lower (drop (n + 1) xs) ≡ wires_into l lower xs
row_step l lower xs n x items one two three at all a b c =
    let p0 = pin_wire l lower x 0 x.cell.source0 [] in
    let p1 = pin_wire l lower x 1 x.cell.source1 [] in
    let p2 = pin_wire l lower x 2 x.cell.source2 [] in
    let rest = wires_into l lower (drop (n + 1) xs) in
    ap (λ (ws : List Wire). ws ++ rest)
    (c ∙ ap (λ (ws : List Wire). ws ++ p2) (b ∙ ap (λ (ws : List Wire). ws ++ p1) a))
    ∙ append_assoc (items ++ p0 ++ p1) p2 rest
    ∙ append_assoc (items ++ p0) p1 (p2 ++ rest)
    ∙ append_assoc items p0 (p1 ++ (p2 ++ rest))
    ∙ ap (λ (ws : List Wire). items ++ (p0 ++ (p1 ++ ws))) (sym (pin_first l lower x 2 x.cell.source2 rest))
    ∙ ap (λ (ws : List Wire). items ++ (p0 ++ ws))
    (sym (pin_first l lower x 1 x.cell.source1 (pin_wire l lower x 2 x.cell.source2 rest)))
    ∙ ap (λ (ws : List Wire). items ++ ws)
    (sym
    (pin_first l lower x 0 x.cell.source0
    (pin_wire l lower x 1 x.cell.source1 (pin_wire l lower x 2 x.cell.source2 rest))))
    ∙ ap (λ (ys : List Spot). items ++ wires_into l lower ys) (sym (drop_at xs n x at))
    ∙ all

pub row_end : (l : LibraryView) (lower : List Spot) (cells : List RowCell) (slots : List ℕ) (n : ℕ) (items : List Wire)
    → length slots ≡ length cells → length cells ≤ n
    → items ++ wires_into l lower (drop n (spots_of cells slots)) ≡ wires_into l lower (spots_of cells slots)
    → items ≡ wires_into l lower (spots_of cells slots)
row_end l lower cells slots n items long le all = sym (append-nil items)
    ∙ ap (λ (ys : List Spot). items ++ wires_into l lower ys)
    (sym (drop_all (spots_of cells slots) n (let k = spots_long cells slots long in omega arith))) ∙ all

-- the cells of rows that are not too wide fit

pub cell_fits : (p : PlacedView) (l : LibraryView) → IsLibrary l → widest (placed_rows p) * slot_width_of
    l ≤ width_limit → (r : ℕ) → AreGiven l (spots p r) → (n : ℕ) (x : Spot) → slice_get (spots p r) n ≡ Some x
    → CellFits l x
cell_fits p l known narrow r given n x at =
    let laws = lawful l known in
    let most = widest_most p.net.rows p.slots r x (n, at) in
    let m = x.slot + slots_of x.cell.kind in
    let a : m * slot_width_of l ≤ widest (placed_rows p) * slot_width_of l = mul-le-mul_right (slot_width_of l) most in
    let pitch : 1 ≤ l.pitch = (let s = laws.spaced in let t = laws.space_some in omega arith) in
    let b : 1 * (m * l.columns) ≤ l.pitch * (m * l.columns) = mul-le-mul_right (m * l.columns) pitch in
    let columns = laws.columns_some in
    let c : 1 * m ≤ l.columns * m = mul-le-mul_right m columns in
    record { given = given n x at; columns = omega arith; slots = omega arith }

pub wires_fit : (p : PlacedView) (l : LibraryView) → IsPlaced p → IsLibrary l → widest (placed_rows p) * slot_width_of
    l ≤ width_limit → (r : ℕ) → AreGiven l (spots p r) → AreGiven l (spots p (suc r))
    → WiresFit l (spots p r) (spots p (suc r))
wires_fit p l is known narrow r below above n i x s at e =
    let lt = pin_below p is (suc r) n i x s at e in
    let t = source_there p is r n i x (record { at = at; below = lt }) in
    let same : t.source ≡ s = same_Some _ _ (sym t.source_is ∙ e) in
    let fit : SourceFits l (spots p r) t.source = record {
      from = t.from;
      from_at = t.is_output.at;
      output_below = t.is_output.below;
      from_fits = cell_fits p l known narrow r below t.source.cell t.from t.is_output.at;
    } in
    record {
      source = subst (SourceFits l (spots p r)) same fit;
      pin_below = lt;
      cell = cell_fits p l known narrow (suc r) above n x at;
    }

pub sorted_channel : (p : PlacedView) (l : LibraryView) (r : ℕ) (items new : List Wire) (lower upper : List Spot)
    → lower ≡ spots p r → upper ≡ spots p (suc r) → items ≡ wires_into l lower upper
    → IsSortedByKey from_of nat_cmp new → IsStableByKey from_of nat_cmp items new → new ≡ channel p l r
sorted_channel p l r items new lower upper below same is sorted stable =
    by_key_from_sort from_of items new sorted stable
    ∙ ap (by_key from_of) (is ∙ ap (λ (xs : List Spot). wires_into l xs upper) below
    ∙ ap (wires_into l (spots p r)) same)

-- rows as the code reads them

pub same_spots : (p : PlacedView) (r : ℕ) (cells : List RowCell) (slots : List ℕ) → cells ≡ row_at p.net.rows r
    → slots ≡ slice_index_or p.slots r [] → spots_of cells slots ≡ spots p r
same_spots p r cells slots e f = ap (λ (cs : List RowCell). spots_of cs slots) e ∙ ap (spots_of (row_at p.net.rows r)) f

pub next_spots : (p : PlacedView) (r : ℕ) (cells : List RowCell) (slots : List ℕ) → cells ≡ row_at p.net.rows (r + 1)
    → slots ≡ slice_index_or p.slots (r + 1) [] → spots_of cells slots ≡ spots p (suc r)
next_spots p r cells slots e f = same_spots p (r + 1) cells slots e f
    ∙ ap (spots p) (let k : r + 1 ≡ suc r = omega arith in k)

pub fit_rows : (p : PlacedView) (l : LibraryView) (r : ℕ) (lower upper : List Spot) → lower ≡ spots p r
    → upper ≡ spots p (suc r) → IsPlaced p → IsLibrary l → widest (placed_rows p) * slot_width_of l ≤ width_limit
    → AreGiven l (spots p r) → AreGiven l (spots p (r + 1)) → WiresFit l lower upper
fit_rows p l r lower upper e f known lib narrow below above =
    let fit = wires_fit p l known lib narrow r below
    (subst (λ (n : ℕ). AreGiven l (spots p n)) (let k : r + 1 ≡ suc r = omega arith in k) above) in
    subst (λ (xs : List Spot). WiresFit l xs upper) (sym e) (subst (WiresFit l (spots p r)) (sym f) fit)
