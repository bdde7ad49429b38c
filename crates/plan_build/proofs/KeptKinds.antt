-- Kinds through the passes: without splitters of three the rows have none, places change no kind, and repeaters are
-- buffers.
use Rattle.std.specs.Prelude.{◌≡◌, ℕ, zero, suc, List, [], ◌∷◌, ◌++◌, map, slice_get, is_some, Option, Some, None}
use Rattle.std.proofs.Common.{refl, sym, ap, subst, ◌∙◌}
use Rattle.std.specs.List.{AllByRecursion}
use Rattle.std.proofs.lemmas.Option.{none-some, same_Some}
use Rattle.circuit.specs.declared.cell_kind.CellKind.{CellKind}
use Rattle.circuit.specs.declared.cell_kind.CellKind.TheVariants.{Buffer, Inverter, Zero, One, Split2, Split3, Majority}
use Rattle.circuit.specs.PlainNets.{PlainView}
use Rattle.rowed.specs.declared.row_cell.RowCell.{RowCell}
use Rattle.rowed.specs.RowNets.{RowView, cell_at}
use Rattle.rowed.specs.Slots.{EachSeated}
use Rattle.rowed.specs.PlacedNets.{PlacedRow, PlacedView, paired, placed_rows}
use Rattle.level_balance.specs.Plan.{level_net}
use Rattle.level_balance.proofs.Narrow.{no_wide_splitter}
use Rattle.row_place.specs.Places.{Order, renumbered_cell, order_of, and_cell, picked, place_rows, head_row}
use Rattle.row_place.specs.Places.{order_after, no_order, place}
use Rattle.repeater_rows.specs.Inserted.{AreBuffers, AreRaised, AreInserted}
use Rattle.cell_library.specs.declared.draft.Pins.{Pins}
use Rattle.cell_library.specs.Library.{LibraryView, pins_of, IsGiven}
use Rattle.cell_library.specs.Laws.{IsLibrary}
use Rattle.layout_make.specs.MayDraw.{GivesKinds}
use Rattle.plan_build.specs.Plans.{three_of}

-- what is asked of each cell, of its kind alone
module _ (Q : CellKind → Type 0) where
  abbrev pub KeepRow : List RowCell → Type 0
  KeepRow row = AllByRecursion (λ (cell : RowCell). Q cell.kind) row

  abbrev pub KeepRows : List (List RowCell) → Type 0
  KeepRows rows = AllByRecursion (λ (row : List RowCell). KeepRow row) rows

  abbrev pub KeepPlaced : List PlacedRow → Type 0
  KeepPlaced rows = AllByRecursion (λ (row : PlacedRow). KeepRow row.cells) rows

  row_from : (row : List RowCell) → ((c : ℕ) (x : RowCell) → slice_get row c ≡ Some x → Q x.kind) → KeepRow row
  row_from [] at = tt
  row_from (x ∷ row) at = (at 0 x refl, row_from row (λ c y e. at (suc c) y e))

  pub rows_from : (rows : List (List RowCell)) → ((r c : ℕ) (x : RowCell) → cell_at rows r c ≡ Some x → Q x.kind)
      → KeepRows rows
  rows_from [] at = tt
  rows_from (row ∷ rows) at = (row_from row (λ c x e. at 0 c x e), rows_from rows (λ r c x e. at (suc r) c x e))

  cell_keeps : (row : List RowCell) → KeepRow row → (c : ℕ) (x : RowCell) → slice_get row c ≡ Some x → Q x.kind
  cell_keeps [] all c x e = absurd (none-some x e)
  cell_keeps (y ∷ row) all zero x e = subst (λ (z : RowCell). Q z.kind) (same_Some y x e) all.0
  cell_keeps (y ∷ row) all (suc c) x e = cell_keeps row all.1 c x e

  -- through the places
  picked_keep : (row : List RowCell) → KeepRow row → (cs : List ℕ) → KeepRow (picked row cs)
  picked_keep row all [] = tt
  picked_keep row all (c ∷ cs) = go (slice_get row c) refl (picked_keep row all cs)
    where
      go : (o : Option RowCell) → slice_get row c ≡ o → KeepRow (picked row cs) → KeepRow (and_cell o (picked row cs))
      go None e rest = rest
      go (Some x) e rest = (cell_keeps row all c x e, rest)

  renumbered_keep : (old : List ℕ) (cells : List RowCell) → KeepRow cells → KeepRow (map (renumbered_cell old) cells)
  renumbered_keep old [] all = tt
  renumbered_keep old (x ∷ cells) all = (all.0, renumbered_keep old cells all.1)

  rows_placed : (below : Order) (rows : List (List RowCell)) → KeepRows rows
      → KeepRows (map (λ (row : PlacedRow). row.cells) (place_rows below rows))
  rows_placed below [] all = tt
  rows_placed below (row ∷ rows) all = (
    renumbered_keep below.old (picked row (order_of below row (head_row rows)))
        (picked_keep row all.0 (order_of below row (head_row rows))),
    rows_placed (order_after below row (head_row rows)) rows all.1,
  )

  pub places_keep_kinds : (net : RowView) → KeepRows net.rows → KeepRows (place net).net.rows
  unfolding place
  places_keep_kinds net all = rows_placed no_order net.rows all

  -- through the repeaters
  buffers_keep : Q Buffer → (cells : List RowCell) (slots : List ℕ)
      → AreBuffers (record { cells = cells; slots = slots }) → KeepRow cells
  buffers_keep buffer [] slots are = tt
  buffers_keep buffer (x ∷ cells) slots are = (subst Q (sym are.0.0) buffer, buffers_keep buffer cells slots are.1)

  fed_keep : (cells cells' : List RowCell)
      → map (λ (x : RowCell). x.kind) cells' ≡ map (λ (x : RowCell). x.kind) cells → KeepRow cells → KeepRow cells'
  fed_keep cells cells' same all = back cells' (subst (AllByRecursion Q) (sym same) (there cells all))
    where
      there : (xs : List RowCell) → KeepRow xs → AllByRecursion Q (map (λ (x : RowCell). x.kind) xs)
      there [] all = tt
      there (x ∷ xs) all = (all.0, there xs all.1)

      back : (xs : List RowCell) → AllByRecursion Q (map (λ (x : RowCell). x.kind) xs) → KeepRow xs
      back [] all = tt
      back (x ∷ xs) all = (all.0, back xs all.1)

  above_keep : Q Buffer → (buffers more : List PlacedRow) → AllByRecursion AreBuffers buffers → KeepPlaced more
      → KeepPlaced (buffers ++ more)
  above_keep buffer [] more are all = all
  above_keep buffer (row ∷ rows) more are all =
      (buffers_keep buffer row.cells row.slots are.0, above_keep buffer rows more are.1 all)

  raised_keep : Q Buffer → (rows out : List PlacedRow) → AreRaised rows out → KeepPlaced rows → KeepPlaced out
  raised_keep buffer [] out is all = subst KeepPlaced (sym is) tt
  raised_keep buffer (row ∷ rows) out is all =
      subst KeepPlaced (sym is.3)
      (above_keep buffer is.0 (is.1 ∷ is.2) is.4
      (fed_keep row.cells is.1.cells is.5.kinds all.0, raised_keep buffer rows is.2 is.6 all.1))

  inserted_keep : Q Buffer → (rows out : List PlacedRow) → AreInserted rows out → KeepPlaced rows → KeepPlaced out
  inserted_keep buffer [] out is all = subst KeepPlaced (sym is) tt
  inserted_keep buffer (row ∷ rows) [] is all = absurd is
  inserted_keep buffer (row ∷ rows) (first ∷ out) is all =
      (subst (λ (x : PlacedRow). KeepRow x.cells) (sym is.0) all.0, raised_keep buffer rows out is.1 all.1)

  with_slots : (rows : List (List RowCell)) (slots : List (List ℕ)) → KeepRows rows → KeepPlaced (paired rows slots)
  with_slots [] slots all = tt
  with_slots (row ∷ rows) [] all = tt
  with_slots (row ∷ rows) (s ∷ slots) all = (all.0, with_slots rows slots all.1)

  without_slots : (rows : List (List RowCell)) (slots : List (List ℕ)) → EachSeated rows slots
      → KeepPlaced (paired rows slots) → KeepRows rows
  without_slots [] slots seated all = tt
  without_slots (row ∷ rows) [] seated all = absurd seated
  without_slots (row ∷ rows) (s ∷ slots) seated all = (all.0, without_slots rows slots seated.1 all.1)

  pub repeaters_keep_kinds : Q Buffer → (p q : PlacedView) → EachSeated q.net.rows q.slots
      → AreInserted (placed_rows p) (placed_rows q)
      → KeepRows p.net.rows → KeepRows q.net.rows
  repeaters_keep_kinds buffer p q seated is all =
      without_slots q.net.rows q.slots seated
      (inserted_keep buffer (placed_rows p) (placed_rows q) is (with_slots p.net.rows p.slots all))

-- the library gives every kind but splitters of three
given_but : (l : LibraryView) → IsLibrary l → (kind : CellKind) → (kind ≡ Split3 → IsGiven l Split3) → IsGiven l kind
given_but l known Buffer three = known.given Buffer (λ e. absurd cc)
given_but l known Inverter three = known.given Inverter (λ e. absurd cc)
given_but l known Zero three = known.given Zero (λ e. absurd cc)
given_but l known One three = known.given One (λ e. absurd cc)
given_but l known Split2 three = known.given Split2 (λ e. absurd cc)
given_but l known Split3 three = three refl
given_but l known Majority three = known.given Majority (λ e. absurd cc)

-- so the rows of the plan have no other
pub levels_give_kinds : (l : LibraryView) → IsLibrary l → (net : PlainView)
    → GivesKinds l (level_net net (three_of l)).rows
levels_give_kinds l known net =
    rows_from (IsGiven l) (level_net net (three_of l)).rows
    (λ r c x e. given_but l known x.kind (λ wide. go (pins_of l Split3) refl r c x e wide))
  where
    go : (o : Option Pins) → pins_of l Split3 ≡ o → (r c : ℕ) (x : RowCell)
        → cell_at (level_net net (three_of l)).rows r c ≡ Some x → x.kind ≡ Split3 → IsGiven l Split3
    go None q r c x e wide =
        absurd (no_wide_splitter net r c x
        (sym (ap (λ (o : Option Pins). cell_at (level_net net (is_some o)).rows r c) q) ∙ e) wide)
    go (Some pins) q r c x e wide = ap is_some q
