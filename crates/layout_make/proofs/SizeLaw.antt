-- The top structure of a drawing has as many elements as the code counts.
use Rattle.std.proofs.Common.{◌≡◌, ℕ, zero, suc, ◌+◌, ◌*◌, refl, ap, ◌∙◌, arith, List, [], ◌∷◌, ◌++◌, length}
use Rattle.std.proofs.Common.{length-append}
use Rattle.std.proofs.Common.{map, Option, Some, None, slice_get, slice_index_or}
use Rattle.std.specs.List.{flat_map}
use Rattle.std.proofs.lemmas.List.{length-map}
use Rattle.geom.specs.declared.layout.Element.{Element}
use Rattle.rowed.specs.declared.source.Source.{Source}
use Rattle.rowed.specs.declared.row_cell.RowCell.{RowCell}
use Rattle.rowed.specs.declared.wire.Wire.{Wire}
use Rattle.rowed.specs.RowCells.{source_at}
use Rattle.rowed.specs.RowNets.{row_at}
use Rattle.sorting.specs.Numbers.{numbers}
use Rattle.rowed.specs.PlacedNets.{PlacedView, IsPlaced}
use Rattle.rowed.specs.Counts.{fed, row_feeds, cells_in, wires_in}
use Rattle.rowed.proofs.SpanLaws.{long_row}
use Rattle.cell_library.specs.Library.{LibraryView}
use Rattle.layout_make.specs.Spots.{spots}
use Rattle.layout_make.specs.Channel.{channel}
use Rattle.layout_make.specs.Tags.{sheet, wire_tags, line_tags, lag_tags}
use Rattle.layout_make.specs.Draw as Draw
use Rattle.layout_make.specs.Size.{element_number, lag_count}
use Rattle.layout_make.proofs.PortSlots.{many}
use Rattle.layout_make.proofs.RowCode.{spots_long}
use Rattle.layout_make.proofs.RowsDrawn.{channel_long}

five_each : (r : ℕ) (ws : List Wire) → length (flat_map (wire_tags r) ws) ≡ 5 * length ws
five_each r [] = refl
five_each r (w ∷ ws) = let k = five_each r ws in omega arith

row_long : (p : PlacedView) (l : LibraryView) → IsPlaced p → (r : ℕ) → length (Draw.row_elements p l r) ≡ length
    (row_at p.net.rows r) + 2 + 5 * row_feeds (row_at p.net.rows (suc r))
row_long p l is r =
    let tags = line_tags r ++ flat_map (wire_tags r) (channel p l r) in
    let a = length-append (map (Draw.place_of_spot p l r) (spots p r)) (Draw.boxes (sheet p l) tags) in
    let b = length-map (spots p r) (Draw.place_of_spot p l r) in
    let c = spots_long (row_at p.net.rows r) (slice_index_or p.slots r []) (long_row p.net.rows p.slots r is.seated) in
    let d : length (Draw.boxes (sheet p l) tags) ≡ length tags = length-map tags _ in
    let e = five_each r (channel p l r) in
    let f = channel_long p l is r in
    let g = length-append (line_tags r) (flat_map (wire_tags r) (channel p l r)) in
    omega arith

abbrev after : List (List RowCell) → ℕ
after [] = 0
after (row ∷ rows) = wires_in rows

first_and_after : (rows : List (List RowCell)) → wires_in rows ≡ row_feeds (row_at rows 0) + after rows
first_and_after [] = refl
first_and_after (row ∷ rows) = refl

sum_rows : (f : ℕ → List Element) (k : ℕ) (rows : List (List RowCell))
    → ((r : ℕ) → length (f (k + r)) ≡ length (row_at rows r) + 2 + 5 * row_feeds (row_at rows (suc r)))
    → length (flat_map f (numbers k (length rows))) ≡ cells_in rows + 2 * length rows + 5 * after rows
sum_rows f k [] each = refl
sum_rows f k (row ∷ rows) each =
    let a = length-append (f k) (flat_map f (numbers (suc k) (length rows))) in
    let b = sum_rows f (suc k) rows
    (λ r. ap (λ (n : ℕ). length (f n)) (let h : suc k + r ≡ k + suc r = omega arith in h) ∙ each (suc r)) in
    let c = each 0 in
    let d : length (f k) ≡ length (f (k + 0)) = ap (λ (n : ℕ). length (f n)) (let h : k ≡ k + 0 = omega arith in h) in
    let e = first_and_after rows in
    omega arith

none_fed : (cells : List RowCell)
    → ((n : ℕ) (c : RowCell) → slice_get cells n ≡ Some c → (i : ℕ) (s : Source) → source_at c i ≡ Some s → ⊥)
    → row_feeds cells ≡ 0
none_fed [] none = refl
none_fed (c ∷ cells) none =
    let k = none_fed cells (λ n d e. none (suc n) d e) in
    let a = go c.source0 (λ s e. none 0 c refl 0 s e) in
    let b = go c.source1 (λ s e. none 0 c refl 1 s e) in
    let d = go c.source2 (λ s e. none 0 c refl 2 s e) in
    omega arith
  where
    go : (o : Option Source) → ((s : Source) → o ≡ Some s → ⊥) → fed o ≡ 0
    go None no_source = refl
    go (Some s) no_source = absurd (no_source s refl)

lag_long : (lag : ℕ) → length (lag_tags lag) ≡ lag_count lag
lag_long zero = refl
lag_long (suc lag) = refl

-- the top has as many elements as are counted
pub size_law : (p : PlacedView) (l : LibraryView) → IsPlaced p → length (Draw.top_elements p l) ≡ element_number p
size_law p l is =
    let rows = flat_map (Draw.row_elements p l) (numbers 0 (length p.net.rows)) in
    let more = Draw.boxes (sheet p l) (lag_tags p.lag) in
    let ins = map (Draw.input_label p l) (numbers 0 p.net.inputs) in
    let outs = map (Draw.output_label p l) (numbers 0 p.net.outputs) in
    let a = length-append (rows ++ more) (map _ (Draw.labels p l)) in
    let b : length (Draw.top_elements p l) ≡ length (rows ++ more) + length (Draw.labels p l) = a
    ∙ ap (λ (n : ℕ). length (rows ++ more) + n) (length-map (Draw.labels p l) _) in
    let m = length-append rows more in
    let n : length more ≡ lag_count p.lag = length-map (lag_tags p.lag) _ ∙ lag_long p.lag in
    let c = length-append ins outs in
    let d = many (Draw.input_label p l) 0 p.net.inputs in
    let e = many (Draw.output_label p l) 0 p.net.outputs in
    let f = sum_rows (Draw.row_elements p l) 0 p.net.rows
    (λ r. ap (λ (n : ℕ). length (Draw.row_elements p l n)) (let h : 0 + r ≡ r = omega arith in h)
    ∙ row_long p l is r) in
    let g = first_and_after p.net.rows in
    let h = none_fed (row_at p.net.rows 0) (λ n x at i s e. (is.net_keeps.stands 0 n x at).before i s e) in
    omega arith
