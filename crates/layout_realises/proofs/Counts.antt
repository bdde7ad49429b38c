-- How many shapes and labels a drawing has, by the cells, wires and ports of its placed net.
use Rattle.std.proofs.Common.{◌≡◌, ℕ, zero, suc, ◌+◌, ◌*◌, ◌≤◌, Bool, cond, ltb, refl, ap, ◌∙◌, arith, List, [], ◌∷◌}
use Rattle.std.proofs.Common.{◌++◌, length, length-append, map, Option, Some, None, is_some, slice_get, slice_index_or}
use Rattle.std.specs.List.{flat_map}
use Rattle.std.proofs.lemmas.List.{length-map}
use Rattle.rowed.proofs.SpanLaws.{long_row}
use Rattle.shape_extract.proofs.CellLists.{few_inputs}
use Rattle.sorting.proofs.NumbersLaws.{length-numbers}
use Rattle.circuit.specs.CellKinds.{inputs_of, outputs_of, slots_of}
use Rattle.circuit.specs.declared.cell_kind.CellKind.{CellKind}
use Rattle.circuit.specs.declared.cell_kind.CellKind.TheVariants.{Buffer}
use Rattle.cell_library.specs.Library.{LibraryView, input_column_of, output_column_of}
use Rattle.geom.specs.declared.layout.Element.{Element}
use Rattle.sorting.specs.Numbers.{numbers}
use Rattle.rowed.specs.PlacedNets.{PlacedView, IsPlaced}
use Rattle.rowed.specs.RowCells.{source_at}
use Rattle.rowed.specs.RowNets.{row_at, pins_at}
use Rattle.rowed.specs.Slots.{AreSeated}
use Rattle.rowed.specs.declared.row_cell.RowCell.{RowCell}
use Rattle.rowed.specs.declared.source.Source.{Source}
use Rattle.rowed.specs.Counts.{fed, cell_feeds, row_feeds, cells_in, wires_in}
use Rattle.layout_make.specs.Channel.{channel}
use Rattle.layout_make.specs.Draw as Draw
use Rattle.layout_make.specs.Sheet.{Tag, InPin, OutPin}
use Rattle.layout_make.specs.Size.{element_number}
use Rattle.layout_make.specs.Spots.{spots, spots_of}
use Rattle.layout_make.specs.declared.spots.Spot.{Spot}
use Rattle.layout_make.specs.Tags.{sheet, tags, cell_tags, spot_tags, wire_tags, line_tags, row_tags, lag_tags}
use Rattle.layout_make.proofs.Ready.{stands_at, pins_most}

-- ---- pins and feeds of a cell

fed_is : (o : Option Source) → fed o ≡ cond (is_some o) 1 0
fed_is None = refl
fed_is (Some s) = refl

-- a cell whose first n pins are fed has so many feeds
feeds_are : (c : RowCell) (n : ℕ) → n ≤ 3 → ((i : ℕ) → is_some (source_at c i) ≡ ltb i n) → cell_feeds c ≡ n
feeds_are c n le each = go n le (told c.source0 (each 0)) (told c.source1 (each 1)) (told c.source2 (each 2))
  where
    told : (o : Option Source) {b : Bool} → is_some o ≡ b → fed o ≡ cond b 1 0
    told o e = fed_is o ∙ ap (λ (t : Bool). cond t 1 0) e

    go : (n : ℕ) → n ≤ 3 → fed c.source0 ≡ cond (ltb 0 n) 1 0 → fed c.source1 ≡ cond (ltb 1 n) 1 0
        → fed c.source2 ≡ cond (ltb 2 n) 1 0 → cell_feeds c ≡ n
    go zero le p q r = omega arith
    go (suc zero) le p q r = omega arith
    go (suc (suc zero)) le p q r = omega arith
    go (suc (suc (suc zero))) le p q r = omega arith
    go (suc (suc (suc (suc n)))) le p q r = absurd (omega arith)

-- each pin is fed but that of a buffer of the first row
pub feeds_at : (p : PlacedView) → IsPlaced p → (r n : ℕ) (x : Spot) → slice_get (spots p r) n ≡ Some x
    → cell_feeds x.cell ≡ pins_at r x.cell.kind
feeds_at p is r n x e =
    let most = pins_most r x.cell.kind in
    let three = few_inputs x.cell.kind in
    feeds_are x.cell (pins_at r x.cell.kind) (omega arith) (stands_at p is r n x e).fed

-- so a cell has at most three shapes beside its frame and its fed pins
pins_over : (r : ℕ) (k : CellKind) → inputs_of k + outputs_of k ≤ 3 + pins_at r k
pins_over zero Buffer = omega arith
pins_over zero k = omega arith
pins_over (suc r) Buffer = omega arith
pins_over (suc r) k = omega arith

-- ---- the cells of a row

seats_long : (cells : List RowCell) (slots : List ℕ) (b : ℕ) → AreSeated b cells slots → length slots ≡ length cells
seats_long [] [] b seats = refl
seats_long [] (s ∷ slots) b seats = absurd seats
seats_long (c ∷ cells) [] b seats = absurd seats
seats_long (c ∷ cells) (s ∷ slots) b seats = ap suc (seats_long cells slots (s + slots_of c.kind) seats.2)

abbrev pub spot_feeds : List Spot → ℕ
spot_feeds [] = 0
spot_feeds (x ∷ xs) = cell_feeds x.cell + spot_feeds xs

spots_count : (cells : List RowCell) (slots : List ℕ) → length slots ≡ length cells
    → length (spots_of cells slots) ≡ length cells
spots_count [] slots e = refl
spots_count (c ∷ cells) [] e = absurd (omega arith)
spots_count (c ∷ cells) (s ∷ slots) e = ap suc (spots_count cells slots (omega arith))

spots_feed : (cells : List RowCell) (slots : List ℕ) → length slots ≡ length cells
    → spot_feeds (spots_of cells slots) ≡ row_feeds cells
spots_feed [] slots e = refl
spots_feed (c ∷ cells) [] e = absurd (omega arith)
spots_feed (c ∷ cells) (s ∷ slots) e = ap (λ (n : ℕ). cell_feeds c + n) (spots_feed cells slots (omega arith))

module _ (p : PlacedView) (is : IsPlaced p) where
  pub spots_long : (r : ℕ) → length (spots p r) ≡ length (row_at p.net.rows r)
  spots_long r = spots_count (row_at p.net.rows r) (slice_index_or p.slots r [])
      (long_row p.net.rows p.slots r is.seated)

  pub row_feeds_are : (r : ℕ) → spot_feeds (spots p r) ≡ row_feeds (row_at p.net.rows r)
  row_feeds_are r = spots_feed (row_at p.net.rows r) (slice_index_or p.slots r [])
      (long_row p.net.rows p.slots r is.seated)

-- ---- the shapes of a row

pins_count : (f g : ℕ → Tag) (n m : ℕ) → length (map f (numbers 0 n) ++ map g (numbers 0 m)) ≡ n + m
pins_count f g n m =
    let a = length-append (map f (numbers 0 n)) (map g (numbers 0 m)) in
    let b = length-map (numbers 0 n) f in
    let c = length-map (numbers 0 m) g in
    let d = length-numbers 0 n in
    let e = length-numbers 0 m in
    omega arith

pub cell_shapes : (l : LibraryView) (r slot : ℕ) (k : CellKind) → length (cell_tags l r slot k) ≡ 1 + inputs_of
    k + outputs_of k
cell_shapes l r slot k =
    let a = pins_count (λ i. InPin r (slot * l.columns + input_column_of l k i) i)
    (λ o. OutPin r (slot * l.columns + output_column_of l k o) o) (inputs_of k) (outputs_of k) in
    omega arith

-- the cells of a row have at most four shapes each, and one for each fed pin
cells_shapes : (l : LibraryView) (r : ℕ) (xs : List Spot)
    → ((n : ℕ) (x : Spot) → slice_get xs n ≡ Some x → cell_feeds x.cell ≡ pins_at r x.cell.kind)
    → length (flat_map (spot_tags l r) xs) ≤ 4 * length xs + spot_feeds xs
cells_shapes l r [] fed_so = omega arith
cells_shapes l r (x ∷ xs) fed_so =
    let a = length-append (spot_tags l r x) (flat_map (spot_tags l r) xs) in
    let b = cell_shapes l r x.slot x.cell.kind in
    let c = pins_over r x.cell.kind in
    let d = fed_so 0 x refl in
    let e = cells_shapes l r xs (λ n y q. fed_so (suc n) y q) in
    omega arith

module _ (p : PlacedView) (l : LibraryView) (is : IsPlaced p) where
  -- a row has as many shapes as elements, but for the shapes of its cells
  row_shapes : (r : ℕ) → length (row_tags p l r) ≤ 3 * length (row_at p.net.rows r) + row_feeds
      (row_at p.net.rows r) + length (Draw.row_elements p l r)
  row_shapes r =
      let others = line_tags r ++ flat_map (wire_tags r) (channel p l r) in
      let a = length-append (flat_map (spot_tags l r) (spots p r)) others in
      let b = length-append (map (Draw.place_of_spot p l r) (spots p r)) (Draw.boxes (sheet p l) others) in
      let c = length-map (spots p r) (Draw.place_of_spot p l r) in
      let d : length (Draw.boxes (sheet p l) others) ≡ length others = length-map others _ in
      let e = cells_shapes l r (spots p r) (λ n x q. feeds_at p is r n x q) in
      let f = spots_long p is r in
      let g = row_feeds_are p is r in
      omega arith

-- ---- all rows

rows_shapes : (T : ℕ → List Tag) (E : ℕ → List Element) (k : ℕ) (rows : List (List RowCell))
    → ((r : ℕ) → length (T (k + r)) ≤ 3 * length (row_at rows r) + row_feeds (row_at rows r) + length (E (k + r)))
    → length (flat_map T (numbers k (length rows))) ≤ 3 * cells_in rows + wires_in rows + length
    (flat_map E (numbers k (length rows)))
rows_shapes T E k [] each = omega arith
rows_shapes T E k (row ∷ rows) each =
    let a = length-append (T k) (flat_map T (numbers (suc k) (length rows))) in
    let b = length-append (E k) (flat_map E (numbers (suc k) (length rows))) in
    let c = each 0 in
    let here : k + 0 ≡ k = omega arith in
    let d : length (T (k + 0)) ≡ length (T k) = ap (λ (n : ℕ). length (T n)) here in
    let e : length (E (k + 0)) ≡ length (E k) = ap (λ (n : ℕ). length (E n)) here in
    let f = rows_shapes T E (suc k) rows (λ r. later r (each (suc r))) in
    omega arith
  where
    later : (r : ℕ) → length (T (k + suc r)) ≤ 3 * length (row_at rows r) + row_feeds (row_at rows r) + length
        (E (k + suc r))
        → length (T (suc k + r)) ≤ 3 * length (row_at rows r) + row_feeds (row_at rows r) + length (E (suc k + r))
    later r le =
        let there : k + suc r ≡ suc k + r = omega arith in
        let a : length (T (k + suc r)) ≡ length (T (suc k + r)) = ap (λ (n : ℕ). length (T n)) there in
        let b : length (E (k + suc r)) ≡ length (E (suc k + r)) = ap (λ (n : ℕ). length (E n)) there in
        omega arith

-- four shapes and labels for each element of the drawing are enough
pub few_shapes : (p : PlacedView) (l : LibraryView) → IsPlaced p → length (Draw.top_elements p l) ≡ element_number p
    → length (tags p l) + length (Draw.labels p l) ≤ 4 * element_number p
few_shapes p l is size =
    let rows = flat_map (Draw.row_elements p l) (numbers 0 (length p.net.rows)) in
    let a = rows_shapes (row_tags p l) (Draw.row_elements p l) 0 p.net.rows (λ r. from_first r) in
    let more = Draw.boxes (sheet p l) (lag_tags p.lag) in
    let b = length-append (rows ++ more) (map _ (Draw.labels p l)) in
    let c : length (Draw.top_elements p l) ≡ length (rows ++ more) + length (Draw.labels p l) = b
    ∙ ap (λ (n : ℕ). length (rows ++ more) + n) (length-map (Draw.labels p l) _) in
    let d = length-append rows more in
    let e : length more ≡ length (lag_tags p.lag) = length-map (lag_tags p.lag) _ in
    let f = length-append (flat_map (row_tags p l) (numbers 0 (length p.net.rows))) (lag_tags p.lag) in
    omega arith
  where
    from_first : (r : ℕ) → length (row_tags p l (0 + r)) ≤ 3 * length (row_at p.net.rows r) + row_feeds
        (row_at p.net.rows r) + length (Draw.row_elements p l (0 + r))
    from_first r =
        let here : 0 + r ≡ r = omega arith in
        let a : length (row_tags p l (0 + r)) ≡ length (row_tags p l r) = ap (λ (n : ℕ). length (row_tags p l n))
        here in
        let b : length (Draw.row_elements p l (0 + r)) ≡ length
        (Draw.row_elements p l r) = ap (λ (n : ℕ). length (Draw.row_elements p l n)) here in
        let c = row_shapes p l is r in
        omega arith

-- the items of rows that are one for each cell
pub rows_cells : {A : Type 0} (f : ℕ → List A) (k : ℕ) (rows : List (List RowCell))
    → ((r : ℕ) → length (f (k + r)) ≡ length (row_at rows r))
    → length (flat_map f (numbers k (length rows))) ≡ cells_in rows
rows_cells f k [] each = refl
rows_cells f k (row ∷ rows) each =
    let a = length-append (f k) (flat_map f (numbers (suc k) (length rows))) in
    let b : length (f k) ≡ length (f (k + 0)) = ap (λ (n : ℕ). length (f n)) (omega arith) in
    let c = each 0 in
    let d = rows_cells f (suc k) rows
    (λ r. ap (λ (n : ℕ). length (f n)) (let h : suc k + r ≡ k + suc r = omega arith in h) ∙ each (suc r)) in
    omega arith
