-- The number of elements of a drawing is far below 2^63.
use Rattle.std.proofs.Common.{ℕ, zero, suc, ◌+◌, ◌*◌, ◌<◌, ◌≤◌, ◌^◌, max, arith, List, [], ◌∷◌, length, Option, Some}
use Rattle.std.proofs.Common.{None}
use Rattle.std.proofs.lemmas.Nat.{mul-le}
use Rattle.circuit.specs.CellKinds.{slots_of}
use Rattle.rowed.specs.declared.source.Source.{Source}
use Rattle.rowed.specs.declared.row_cell.RowCell.{RowCell}
use Rattle.rowed.specs.Slots.{span_of, AreSeated, EachSeated}
use Rattle.rowed.specs.PlacedNets.{PlacedView, paired, placed_rows}
use Rattle.rowed.specs.Extent.{widest}
use Rattle.rowed.specs.Counts.{fed, row_feeds, cells_in, wires_in}
use Rattle.cell_library.specs.Library.{LibraryView}
use Rattle.layout_make.specs.Size.{element_number, lag_count}
use Rattle.layout_make.specs.MayDraw.{MayDraw}
use Rattle.layout_make.proofs.PinCounts.{slots_some}
use Rattle.layout_make.proofs.Ready.{lawful}

row_within : (b : ℕ) (cells : List RowCell) (slots : List ℕ) → AreSeated b cells slots
    → length cells ≤ span_of cells slots
row_within b cells slots seats = let k = go b cells slots seats in omega arith
  where
    go : (b : ℕ) (cells : List RowCell) (slots : List ℕ) → AreSeated b cells slots
        → b + length cells ≤ max b (span_of cells slots)
    go b [] slots seats = omega arith
    go b (c ∷ cells) [] seats = absurd seats
    go b (c ∷ cells) (s ∷ slots) seats = let k = go (s + slots_of c.kind) cells slots seats.2 in
        let some = slots_some c.kind in let from = seats.0 in omega arith

cells_within : (w : ℕ) (rows : List (List RowCell)) (slots : List (List ℕ)) → EachSeated rows slots
    → widest (paired rows slots) ≤ w → cells_in rows ≤ length rows * w
cells_within w [] slots seats le = omega arith
cells_within w (row ∷ rows) [] seats le = absurd seats
cells_within w (row ∷ rows) (s ∷ slots) seats le = let k = cells_within w rows slots seats.1 (omega arith) in
    let r = row_within 0 row s seats.0 in omega arith

fed_most : (o : Option Source) → fed o ≤ 1
fed_most None = omega arith
fed_most (Some s) = omega arith

row_most : (cells : List RowCell) → row_feeds cells ≤ 3 * length cells
row_most [] = omega arith
row_most (c ∷ cells) = let k = row_most cells in let a = fed_most c.source0 in let b = fed_most c.source1 in
    let d = fed_most c.source2 in omega arith

pub wires_most : (rows : List (List RowCell)) → wires_in rows ≤ 3 * cells_in rows
wires_most [] = omega arith
wires_most (row ∷ rows) = let k = wires_most rows in let r = row_most row in omega arith

pub lag_few : (lag : ℕ) → lag_count lag ≤ 2
lag_few zero = omega arith
lag_few (suc lag) = omega arith

pub number_small : (p : PlacedView) (l : LibraryView) → MayDraw p l → element_number p < 2 ^ 63
number_small p l may =
    let laws = lawful l may.library in
    let w = widest (placed_rows p) in
    let n = length p.net.rows in
    let a = laws.wire_even in let b = laws.encloses in let c = laws.via_some in let d = laws.spaced in
    let e = laws.space_some in let f = laws.pitch_even in
    let g = laws.columns_even in let h = laws.columns_some in let i = laws.tall in let j = laws.pin_wide in
    let wide : 2 * 4 ≤ l.columns * l.pitch = mul-le 2 4 l.columns l.pitch (omega arith) (omega arith) in
    let width : w * 8 ≤ w * (l.columns * l.pitch) = mul-le w 8 w (l.columns * l.pitch) (omega arith)
    (omega arith) in
    let height : n * 5 ≤ n * l.height = mul-le n 5 n l.height (omega arith) (omega arith) in
    let narrow = may.narrow in let low = may.low in
    let most : n * w ≤ 429496729 * 250000000 = mul-le n w 429496729 250000000 (omega arith) (omega arith) in
    let cells = cells_within w p.net.rows p.slots may.placed.seated (omega arith) in
    let wires = wires_most p.net.rows in
    let ins = may.few_inputs in let outs = may.few_outputs in
    let two = lag_few p.lag in
    omega arith
