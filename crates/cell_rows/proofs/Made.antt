-- The net of the rows that the code makes, and how the code begins.
use Rattle.std.proofs.Common.{◌≡◌, ℕ, zero, suc, ◌+◌, ◌<◌, ◌≤◌, ◌^◌, Bool, false, List, [], ◌∷◌, ◌++◌, length, map}
use Rattle.std.proofs.Common.{replicate, Option, refl, ap, sym, ◌∙◌, subst, arith}
use Rattle.std.specs.Prelude.{slice_index, slice_set}
use Rattle.circuit.specs.declared.gate.Gate.{Gate}
use Rattle.blif_read.specs.Parts.{NetView}
use Rattle.blif_read.specs.Netlist.{IsNetlist}
use Rattle.rowed.specs.declared.row_cell.RowCell.{RowCell}
use Rattle.rowed.specs.RowNets.{RowView, IsRowNet}
use Rattle.cell_netlist.specs.Faults.{IsCellNet}
use Rattle.cell_netlist.specs.Levels.{level_in}
use Rattle.cell_netlist.specs.Tables.{IsTableOf}
use Rattle.cell_netlist.specs.Told.{IsNetOfCells}
use Rattle.cell_netlist.specs.Uses.{CellView, is_name, with_gates}
use Rattle.cell_netlist.proofs.OneGate.{gates_one}
use Rattle.cell_rows.specs.Laws.{AreCells, AreRowsOf}
use Rattle.cell_rows.specs.Members.{passing_below, listed, stands_in, place_of}
use Rattle.cell_rows.specs.CellRows.{row_cell, rows_of}
use Rattle.cell_rows.specs.Code.Laying.{counts_to, rows_to}
use Rattle.cell_rows.proofs.Listed.{listed_long}
use Rattle.cell_rows.proofs.Defined.{IsCell}
use Rattle.cell_rows.proofs.Laid.{count_low, counts_cell, place_is}
use Rattle.cell_rows.proofs.Rows.{level_low, rows_few}
use Rattle.cell_rows.proofs.Netted.{defs_few, row_net}

-- a definition's cell stands in a row
pub record Row (d : CellView) (levels : List ℕ) (last j row : ℕ) : Type 0 where
  pub cell : IsCell d j
  pub is : row ≡ slice_index levels j
  pub low : row ≤ last

pub row_is : {d : CellView} {levels : List ℕ} {last : ℕ} → AreCells d levels last → (j row : ℕ)
    → j < length d.net.defs → is_name d (d.net.inputs + j) ≡ false → row ≡ slice_index levels j
    → Row d levels last j row
row_is {d} {levels} known j row lt name is =
    let cell : IsCell d j = record { below = lt; no_name = name } in
    let low = level_low known j cell in
    record { cell = cell; is = is; low = omega (arith, low, is) }

pub last_few : {d : CellView} {levels : List ℕ} {last : ℕ} → AreCells d levels last → last < 2 ^ 28
last_few known = let few = rows_few known in let small = defs_few known in omega (arith, few, small)

-- how many cells stand before definition j's in its row, and with it
pub record RowCount (d : CellView) (levels : List ℕ) (last j row : ℕ) (counts : List ℕ) : Type 0 where
  pub low : row < 2 ^ 28
  pub room : row < length counts
  pub few : slice_index counts row < 2 ^ 28
  pub counts_are : slice_set counts row (slice_index counts row + 1) ≡ counts_to d levels last (j + 1)
  pub place_is : slice_index counts row ≡ place_of d levels j

pub row_count : {d : CellView} {levels : List ℕ} {last : ℕ} → AreCells d levels last → (j row : ℕ) (counts : List ℕ)
    → j < length d.net.defs → is_name d (d.net.inputs + j) ≡ false → row ≡ slice_index levels j
    → counts ≡ counts_to d levels last j → RowCount d levels last j row counts
row_count {d} {levels} {last} known j row counts lt name at is =
    let here = row_is known j row lt name at in
    let few = last_few known in
    let defs = defs_few known in
    let low = here.low in
    let long = ap length is ∙ listed_long (λ r. length (passing_below (stands_in d levels r) j)) (suc last) in
    let place = count_low d levels last j row _ counts low is refl in
    record {
      low = omega (arith, few, low);
      room = omega (arith, long, low);
      few = omega (arith, place, lt, defs);
      counts_are = counts_cell d levels last j row _ counts here.cell at low is refl;
      place_is = place_is d levels last j row _ counts at low is refl;
    }

pub laid_room : (d : CellView) (levels : List ℕ) (last j row : ℕ) (rows : List (List RowCell))
    → Row d levels last j row → rows ≡ rows_to d levels last j → row < length rows
laid_room d levels last j row rows here is =
    let long = ap length is
    ∙ listed_long (λ r. map (row_cell d levels) (passing_below (stands_in d levels r) j)) (suc last) in
    let low = here.low in
    omega (arith, long, low)

-- the gates of a netlist's table are those by which it is one of cells
pub cells_are : (net : NetView) (gates : List (Option Gate)) (three : Bool) (levels used shown : List ℕ) (last : ℕ)
    → IsNetlist net → IsTableOf net gates used shown → IsNetOfCells net three levels last
    → AreCells (with_gates net gates three) levels last
cells_are net gates three levels used shown last known table cells = record {
  net_keeps = known;
  gates_are = table.gates_are;
  cells =
      subst (λ (gs : List (Option Gate)). IsCellNet (with_gates net gs three) (level_in net.inputs levels) last)
      (gates_one net.defs cells.gates gates cells.gates_are table.gates_are) cells.cells;
}

-- lists that begin with the same everywhere

push_same : {A : Type 0} (x : A) (n : ℕ) → x ∷ replicate n x ≡ replicate n x ++ x ∷ []
push_same x zero = refl
push_same {A} x (suc n) = ap (λ (xs : List A). x ∷ xs) (push_same x n)

listed_all : {A : Type 0} (x : A) (n : ℕ) → replicate n x ≡ listed (λ (k : ℕ). x) n
listed_all x zero = refl
listed_all {A} x (suc n) = push_same x n ∙ ap (λ (xs : List A). xs ++ x ∷ []) (listed_all x n)

pub none_counted : (d : CellView) (levels : List ℕ) (last n : ℕ) (counts : List ℕ) → n ≡ last + 1
    → counts ≡ replicate n 0 → counts ≡ counts_to d levels last 0
none_counted d levels last n counts long is =
    is ∙ listed_all 0 n
    ∙ ap (listed (λ (k : ℕ). 0)) (let e : n ≡ suc last = omega (arith, long) in e)

pub none_laid : (d : CellView) (levels : List ℕ) (last n : ℕ) (rows : List (List RowCell)) → n ≡ last + 1
    → rows ≡ listed (λ (k : ℕ). []) n → rows ≡ rows_to d levels last 0
none_laid d levels last n rows long is =
    is ∙ ap (listed {A = List RowCell} (λ (k : ℕ). [])) (let e : n ≡ suc last = omega (arith, long) in e)

-- all rows

abbrev view : ℕ → ℕ → List (List RowCell) → RowView
view inputs outputs rows = record { inputs = inputs; outputs = outputs; rows = rows }

pub made : (d : CellView) (levels : List ℕ) (last inputs outputs : ℕ) (rows : List (List RowCell))
    → inputs ≡ d.net.inputs → outputs ≡ length d.net.outputs → rows ≡ rows_to d levels last (length d.net.defs)
    → view inputs outputs rows ≡ rows_of d levels last
made d levels last inputs outputs rows p q r = rw (p, q, r) refl

pub made_keeps : (d : CellView) (levels : List ℕ) (last inputs outputs : ℕ) (rows : List (List RowCell))
    → AreCells d levels last → inputs ≡ d.net.inputs → outputs ≡ length d.net.outputs
    → rows ≡ rows_to d levels last (length d.net.defs) → IsRowNet (view inputs outputs rows)
made_keeps d levels last inputs outputs rows known p q r =
    subst IsRowNet (sym (made d levels last inputs outputs rows p q r)) (row_net known)

pub made_is : (net : NetView) (gates : List (Option Gate)) (three : Bool) (levels : List ℕ) (last inputs outputs : ℕ)
    → (rows : List (List RowCell)) → AreCells (with_gates net gates three) levels last → inputs ≡ net.inputs
    → outputs ≡ length net.outputs
    → rows ≡ rows_to (with_gates net gates three) levels last (length net.defs)
    → AreRowsOf net three levels last (view inputs outputs rows)
made_is net gates three levels last inputs outputs rows known p q r = record {
  gates = gates;
  cells = known;
  rows_are = made (with_gates net gates three) levels last inputs outputs rows p q r;
}
