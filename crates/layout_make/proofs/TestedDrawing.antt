-- A net that passes a test may be drawn with a library.
use Rattle.std.specs.Prelude.{◌≡◌, ℕ, ◌-◌, ◌*◌, ◌≤◌, ◌^◌, Bool, true, ◌&&◌, nat_le, nat_lt, List, [], ◌∷◌, length}
use Rattle.std.specs.Prelude.{is_some}
use Rattle.std.specs.List.{AllByRecursion}
use Rattle.std.proofs.lemmas.Bool.{and_parts, leb-true, ltb-true}
use Rattle.rowed.specs.declared.row_cell.RowCell.{RowCell}
use Rattle.rowed.specs.PlacedNets.{PlacedView, PlacedRow, placed_rows}
use Rattle.rowed.specs.Channels.{Link, channel_links, move}
use Rattle.rowed.specs.Short.{EachShort, AreShort}
use Rattle.rowed.proofs.TestedNets.{is_placed, placed_from_test}
use Rattle.rowed.specs.Extent.{widest}
use Rattle.rowed.specs.Limits.{width_limit, height_limit}
use Rattle.cell_library.specs.Library.{LibraryView, pins_of, IsGiven}
use Rattle.cell_library.specs.Laws.{IsLibrary}
use Rattle.cell_library.specs.Reach.{reach_of, slot_width_of}
use Rattle.layout_make.specs.MayDraw.{MayDraw, GivesKinds, most_height}

-- the library gives the kinds

abbrev row_given : LibraryView → List RowCell → Bool
row_given l [] = true
row_given l (cell ∷ cells) = is_some (pins_of l cell.kind) && row_given l cells

abbrev rows_given : LibraryView → List (List RowCell) → Bool
rows_given l [] = true
rows_given l (row ∷ rows) = row_given l row && rows_given l rows

row_from : (l : LibraryView) (cells : List RowCell) → row_given l cells ≡ true
    → AllByRecursion (λ (cell : RowCell). IsGiven l cell.kind) cells
row_from l [] test = tt
row_from l (cell ∷ cells) test =
    let parts = and_parts (is_some (pins_of l cell.kind)) (row_given l cells) test in
    (parts.0, row_from l cells parts.1)

rows_from : (l : LibraryView) (rows : List (List RowCell)) → rows_given l rows ≡ true → GivesKinds l rows
rows_from l [] test = tt
rows_from l (row ∷ rows) test =
    let parts = and_parts (row_given l row) (rows_given l rows) test in
    (row_from l row parts.0, rows_from l rows parts.1)

-- the wires are short

abbrev links_short : ℕ → List Link → Bool
links_short most [] = true
links_short most (w ∷ ws) = nat_le (move w.from w.to) most && links_short most ws

abbrev rows_short : ℕ → PlacedRow → List PlacedRow → Bool
rows_short reach lower [] = true
rows_short reach lower (upper ∷ rows) =
    links_short (reach - 1) (channel_links lower upper) && rows_short reach upper rows

abbrev are_short : ℕ → List PlacedRow → Bool
are_short reach [] = true
are_short reach (row ∷ rows) = rows_short reach row rows

links_from : (most : ℕ) (ws : List Link) → links_short most ws ≡ true
    → AllByRecursion (λ (w : Link). move w.from w.to ≤ most) ws
links_from most [] test = tt
links_from most (w ∷ ws) test =
    let parts = and_parts (nat_le (move w.from w.to) most) (links_short most ws) test in
    (leb-true (move w.from w.to) most parts.0, links_from most ws parts.1)

short_from : (reach : ℕ) (lower : PlacedRow) (rows : List PlacedRow) → rows_short reach lower rows ≡ true
    → EachShort reach lower rows
short_from reach lower [] test = tt
short_from reach lower (upper ∷ rows) test =
    let parts = and_parts (links_short (reach - 1) (channel_links lower upper)) (rows_short reach upper rows) test in
    (links_from (reach - 1) (channel_links lower upper) parts.0, short_from reach upper rows parts.1)

are_from : (reach : ℕ) (rows : List PlacedRow) → are_short reach rows ≡ true → AreShort reach rows
are_from reach [] test = tt
are_from reach (row ∷ rows) test = short_from reach row rows test

-- the whole test
pub record Passes (p : PlacedView) (l : LibraryView) : Type 0 where
  pub placed : is_placed p ≡ true
  pub given : rows_given l p.net.rows ≡ true
  pub short : are_short (reach_of l) (placed_rows p) ≡ true
  pub narrow : nat_le (widest (placed_rows p) * slot_width_of l) width_limit ≡ true
  pub low : nat_le (most_height l (length p.net.rows)) height_limit ≡ true
  pub lag : nat_le p.lag width_limit ≡ true
  pub few_inputs : nat_lt p.net.inputs (2 ^ 32) ≡ true
  pub few_outputs : nat_lt p.net.outputs (2 ^ 32) ≡ true

pub may_draw_from_test : (p : PlacedView) (l : LibraryView) → IsLibrary l → Passes p l → MayDraw p l
may_draw_from_test p l library test = record {
  placed = placed_from_test p test.placed;
  library = library;
  given = rows_from l p.net.rows test.given;
  short = are_from (reach_of l) (placed_rows p) test.short;
  narrow = leb-true (widest (placed_rows p) * slot_width_of l) width_limit test.narrow;
  low = leb-true (most_height l (length p.net.rows)) height_limit test.low;
  lag = leb-true p.lag width_limit test.lag;
  few_inputs = ltb-true p.net.inputs (2 ^ 32) test.few_inputs;
  few_outputs = ltb-true p.net.outputs (2 ^ 32) test.few_outputs;
}
