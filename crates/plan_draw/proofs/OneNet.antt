-- The rows of a netlist of cells are one net, whichever lists tell the levels of its cells.
use Rattle.std.proofs.Common.{◌≡◌, ℕ, zero, suc, ◌+◌, ◌-◌, ◌<◌, Bool, true, false, cond, not, List, [], ◌∷◌, ◌++◌}
use Rattle.std.proofs.Common.{length, map, Option, Some, refl, ap, sym, subst, ◌∙◌, arith, inl, inr}
use Rattle.std.specs.Prelude.{◌&&◌, slice_get, slice_index, eqb}
use Rattle.std.proofs.lemmas.Bool.{cases_eq}
use Rattle.std.proofs.lemmas.Option.{none-some, same_Some, slice_get_within}
use Rattle.circuit.specs.declared.gate.Gate.{Gate}
use Rattle.circuit.specs.declared.gate.Gate.TheVariants.{Input, Zero, One, Buf, Inv, Maj}
use Rattle.blif_read.specs.Parts.{NetView}
use Rattle.blif_read.specs.declared.netlist.Def.{Def}
use Rattle.rowed.specs.declared.source.Source.{Source}
use Rattle.rowed.specs.declared.row_cell.RowCell.{RowCell}
use Rattle.rowed.specs.RowNets.{RowView}
use Rattle.rowed.specs.MadeCells.{source}
use Rattle.cell_netlist.specs.Kinds.{operands_of}
use Rattle.cell_netlist.specs.Uses.{CellView, uses, is_input, is_name, is_buffer, with_gates}
use Rattle.cell_netlist.specs.Told.{IsNetOfCells}
use Rattle.cell_netlist.proofs.OneGate.{gates_one}
use Rattle.cell_netlist.proofs.OneFault.{last_one}
use Rattle.cell_rows.specs.Laws.{AreCells, AreRowsOf}
use Rattle.cell_rows.specs.Members.{passing_below, stands_in, members, place_of, uses_before}
use Rattle.cell_rows.specs.CellRows.{source_of, kind_of, fed_by, input_of, output_of, cell_of}
use Rattle.cell_rows.specs.CellRows.{row_cell, row_of, rows_of}
use Rattle.cell_rows.proofs.Listed.{listed_same, passing_is}
use Rattle.cell_rows.proofs.Counted.{Use, use_of}
use Rattle.cell_rows.proofs.Defined.{Defined, defined, past_inputs, one_signal, unused_is, reads_input, reads_cell}
use Rattle.cell_rows.proofs.Defined.{shows_named, IsCell, names_cell}
use Rattle.cell_rows.proofs.Rows.{level_low, standing}
use Rattle.cell_rows.proofs.Standing.{cell_is, reads_none}

passing_same : (p q : ℕ → Bool) (n : ℕ) → ((j : ℕ) → j < n → p j ≡ q j) → passing_below p n ≡ passing_below q n
passing_same p q zero same = refl
passing_same p q (suc n) same =
    ap (λ (xs : List ℕ). cond (p n) (xs ++ n ∷ []) xs) (passing_same p q n (λ j lt. same j (omega (arith, lt))))
    ∙ ap (λ (b : Bool). cond b (passing_below q n ++ n ∷ []) (passing_below q n)) (same n (omega arith))

map_same : {A : Type 0} (f g : ℕ → A) (xs : List ℕ) → ((i x : ℕ) → slice_get xs i ≡ Some x → f x ≡ g x)
    → map f xs ≡ map g xs
map_same f g [] same = refl
map_same f g (x ∷ xs) same =
    ap (λ y. y ∷ map f xs) (same 0 x refl)
    ∙ ap (λ ys. g x ∷ ys) (map_same f g xs (λ i y at. same (suc i) y at))

-- two lists tell the levels of the cells
module _ {d : CellView} {levels others : List ℕ} {last : ℕ} (a : AreCells d levels last)
    (b : AreCells d others last) where
  -- a cell is on the level of a list where its user is
  by_use : (j : ℕ) → Use d.net.defs (d.net.inputs + j)
      → ((m : ℕ) → IsCell d m → slice_index levels m ≡ suc (slice_index levels j)
      → slice_index levels m ≡ slice_index others m)
      → slice_index levels j ≡ slice_index others j
  by_use j user above = by (is_name d (d.net.inputs + user.j)) refl
    where
      below : user.j < length d.net.defs
      below = slice_get_within d.net.defs user.j user.def user.here

      at : slice_get (defined a user.j below).def.inputs user.i ≡ Some (d.net.inputs + j)
      at = ap (λ (def : Def). slice_get def.inputs user.i)
          (same_Some (defined a user.j below).def user.def (sym (defined a user.j below).here ∙ user.here)) ∙ user.at

      by : (t : Bool) → is_name d (d.net.inputs + user.j) ≡ t → slice_index levels j ≡ slice_index others j
      by true e =
          (shows_named a (defined a user.j below) e user.i j at).level
          ∙ sym (shows_named b (defined a user.j below) e user.i j at).level
      by false e =
          let up = reads_cell a (defined a user.j below) e user.i (d.net.inputs + j) at j refl in
          let rise = reads_cell b (defined a user.j below) e user.i (d.net.inputs + j) at j refl in
          let same = above user.j (record { below = below; no_name = e }) up in
          omega (arith, up, rise, same)

  levels_from : (fuel j : ℕ) → IsCell d j → last < slice_index levels j + fuel
      → slice_index levels j ≡ slice_index others j
  levels_from zero j cell high = let low = level_low a j cell in absurd (omega (arith, low, high))
  levels_from (suc fuel) j cell high = elim (cases_eq (uses d (d.net.inputs + j)) 0) [
    | inl none ↦
        let x = defined a j cell.below in
        let buffer = unused_is x cell.no_name none in
        let at : slice_get x.def.inputs 0 ≡ Some buffer.0 =
        ap (λ (xs : List ℕ). slice_get xs 0) (x.computes.named ∙ ap operands_of buffer.1) in
        reads_input a x cell.no_name 0 buffer.0 at buffer.2 ∙ sym (reads_input b x cell.no_name 0 buffer.0 at buffer.2)
    | inr some ↦
        by_use j (use_of d.net.defs (d.net.inputs + j) (omega (arith, some)))
        (λ m above up. levels_from fuel m above (omega (arith, up, high)))
  ]

  levels_same : (j : ℕ) → IsCell d j → slice_index levels j ≡ slice_index others j
  levels_same j cell = levels_from (suc last) j cell (omega arith)

  -- so the same cells stand in each row
  stands_same : (r j : ℕ) → j < length d.net.defs → stands_in d levels r j ≡ stands_in d others r j
  stands_same r j lt = by (is_name d (d.net.inputs + j)) refl
    where
      by : (t : Bool) → is_name d (d.net.inputs + j) ≡ t → stands_in d levels r j ≡ stands_in d others r j
      by true e =
          ap (λ (t : Bool). not t && eqb (slice_index levels j) r) e
          ∙ sym (ap (λ (t : Bool). not t && eqb (slice_index others j) r) e)
      by false e =
          ap (λ (n : ℕ). not (is_name d (d.net.inputs + j)) && eqb n r)
          (levels_same j (record { below = lt; no_name = e }))

  place_same : (k : ℕ) → IsCell d k → place_of d levels k ≡ place_of d others k
  place_same k cell =
      ap (λ (n : ℕ). length (passing_below (stands_in d levels n) k)) (levels_same k cell)
      ∙ ap length
      (passing_same (stands_in d levels (slice_index others k)) (stands_in d others (slice_index others k)) k
      (λ j lt. stands_same (slice_index others k) j (let low = cell.below in omega (arith, lt, low))))

  source_same : (j s : ℕ) → IsCell d (s - d.net.inputs) → source_of d levels j s ≡ source_of d others j s
  source_same j s cell = ap (λ (n : ℕ). source n (uses_before d j s)) (place_same (s - d.net.inputs) cell)

  -- what feeds a cell is a cell
  fed_cell : {j : ℕ} → (x : Defined d j) → (i s : ℕ) → slice_get (fed_by d x.gate) i ≡ Some s
      → IsCell d (s - d.net.inputs)
  fed_cell {j} x i s here = by x.gate refl here
    where
      names : (g : Gate) → x.gate ≡ g → slice_get (operands_of g) i ≡ Some s → is_input d s ≡ false
          → IsCell d (s - d.net.inputs)
      names g e at past =
          names_cell a x i (s - d.net.inputs)
          (ap (λ (xs : List ℕ). slice_get xs i) (x.computes.named ∙ ap operands_of e) ∙ at
          ∙ ap (λ (n : ℕ). Some n) (past_inputs d s past))

      other : (g : Gate) → x.gate ≡ g → is_buffer (Some g) ≡ false → slice_get (operands_of g) i ≡ Some s
          → IsCell d (s - d.net.inputs)
      other g e none at =
          names g e at
          (reads_none x (ap (λ (g : Gate). is_buffer (Some g)) e ∙ none) i s
          (ap (λ (xs : List ℕ). slice_get xs i) (x.computes.named ∙ ap operands_of e) ∙ at))

      buffer : (k : ℕ) → x.gate ≡ Buf k → (t : Bool) → is_input d k ≡ t
          → slice_get (cond t [] (k ∷ [])) i ≡ Some s → IsCell d (s - d.net.inputs)
      buffer k e true q at = absurd (none-some s at)
      buffer k e false q at = names (Buf k) e at (ap (is_input d) (one_signal (k ∷ []) k i s refl at).1 ∙ q)

      by : (g : Gate) → x.gate ≡ g → slice_get (fed_by d g) i ≡ Some s → IsCell d (s - d.net.inputs)
      by (Input k) e at = absurd (none-some s at)
      by Zero e at = absurd (none-some s at)
      by One e at = absurd (none-some s at)
      by (Buf k) e at = buffer k e (is_input d k) refl at
      by (Inv k) e at = other (Inv k) e refl at
      by (Maj p q r) e at = other (Maj p q r) e refl at

  with_sources : ℕ → Gate → List Source → RowCell
  with_sources j gate ss = record {
    kind = kind_of (uses d (d.net.inputs + j)) gate;
    source0 = slice_get ss 0;
    source1 = slice_get ss 1;
    source2 = slice_get ss 2;
    input = input_of d gate;
    output = output_of d (d.net.inputs + j);
  }

  cell_same : (j : ℕ) → IsCell d j → row_cell d levels j ≡ row_cell d others j
  unfolding with_sources
  cell_same j cell =
      let x = defined a j cell.below in
      let fed : cell_of d levels j x.gate ≡ cell_of d others j x.gate =
      ap (with_sources j x.gate)
      (map_same (source_of d levels j) (source_of d others j) (fed_by d x.gate)
      (λ i s at. source_same j s (fed_cell x i s at))) in
      cell_is levels x ∙ fed ∙ sym (cell_is others x)

  row_same : (r : ℕ) → row_of d levels r ≡ row_of d others r
  row_same r =
      map_same (row_cell d levels) (row_cell d others) (members d levels r)
      (λ c j at. let is = passing_is (stands_in d levels r) (length d.net.defs) c j at in
      cell_same j (record { below = is.below; no_name = (standing d levels r j is.passes).no_name }))
      ∙ ap (map (row_cell d others))
      (passing_same (stands_in d levels r) (stands_in d others r) (length d.net.defs) (stands_same r))

  with_rows : List (List RowCell) → RowView
  with_rows rows = record { inputs = d.net.inputs; outputs = length d.net.outputs; rows = rows }

  rows_same : rows_of d levels last ≡ rows_of d others last
  unfolding with_rows
  rows_same = ap with_rows (sym (listed_same (row_of d others) (row_of d levels) (suc last) (λ r lt. row_same r)))

-- levels with the gates of the netlist
pub cells_of : {net : NetView} {three : Bool} {levels : List ℕ} {last : ℕ} {rows : RowView}
    → AreRowsOf net three levels last rows → IsNetOfCells net three levels last
cells_of a = record { gates = a.gates; gates_are = a.cells.gates_are; cells = a.cells.cells }

pub one_net : (net : NetView) (three : Bool) (levels others : List ℕ) (m n : ℕ) (rows rows' : RowView)
    → AreRowsOf net three levels m rows → AreRowsOf net three others n rows' → rows ≡ rows'
one_net net three levels others m n rows rows' a b =
    let gates : a.gates ≡ b.gates = gates_one net.defs a.gates b.gates a.cells.gates_are b.cells.gates_are in
    let last = last_one net three levels others m n (cells_of a) (cells_of b) in
    let d = with_gates net b.gates three in
    let first : AreCells d levels n =
    subst (AreCells d levels) last
    (subst (λ (gs : List (Option Gate)). AreCells (with_gates net gs three) levels m) gates a.cells) in
    a.rows_are ∙ ap (λ (gs : List (Option Gate)). rows_of (with_gates net gs three) levels m) gates
    ∙ ap (rows_of d levels) last ∙ rows_same first b.cells ∙ sym b.rows_are
