-- A wider net answers as the net: each of its cells has the value of the cell that its mark names.
use Rattle.std.proofs.Common.{◌≡◌, ◌+◌, ◌-◌, ℕ, zero, suc, Bool, true, false, cond, List, [], ◌∷◌, Option}
use Rattle.std.proofs.Common.{Some, None, length, refl, sym, ap, subst, ◌∙◌, arith}
use Rattle.std.specs.Prelude.{◌&&◌, ◌||◌, ◌==◌, pred, is_some, slice_get, slice_index_or}
use Rattle.std.proofs.lemmas.Bool.{and_parts, eqb-true}
use Rattle.std.proofs.lemmas.Option.{same_Some, none-some}
use Rattle.circuit.specs.CellKinds.{number_of}
use Rattle.circuit.specs.Function.{value_of}
use Rattle.circuit.specs.SameAnswers.{SameAnswers}
use Rattle.circuit.specs.declared.cell_kind.CellKind.{CellKind}
use Rattle.circuit.specs.declared.cell_kind.CellKind.TheVariants.{Buffer, Inverter, Zero, One, Split2, Split3, Majority}
use Rattle.rowed.specs.declared.source.Source.{Source}
use Rattle.rowed.specs.declared.row_cell.RowCell.{RowCell}
use Rattle.rowed.specs.RowCells.{source_value, bit_or, cell_value}
use Rattle.rowed.specs.RowNets.{RowView, IsRowNet, FitsRows, IsAnswer, cell_at, output_at, last_of}
use Rattle.rowed.proofs.RowAnswers.{some_answer, one_answer}
use Rattle.placement_check.specs.declared.marks.Mark.{Mark}
use Rattle.placement_check.specs.declared.marks.Place.{Place}
use Rattle.placement_check.specs.Wider.{given_by, leads_at, is_pin, is_same, is_constant, is_cell, is_row}
use Rattle.placement_check.specs.Wider.{is_kept, is_added, item_at, is_marked, has_place, fits_mark, row_marked}
use Rattle.placement_check.specs.Wider.{rows_marked, rows_stand, IsWider}
use Rattle.placement_check.proofs.Labelled.{no_sources}

-- numbers and kinds that pass a test of equality are equal

same_number : (a b : Option ℕ) → is_same a b ≡ true → a ≡ b
same_number None None e = refl
same_number None (Some b) e = absurd (cc)
same_number (Some a) None e = absurd (cc)
same_number (Some a) (Some b) e = ap Some (eqb-true a b e)

abbrev numbered : ℕ → CellKind
numbered n =
    cond (n == 1) Buffer (cond (n == 2) Inverter (cond (n == 3) Zero (cond (n == 4) One
    (cond (n == 5) Split2 (cond (n == 6) Split3 Majority)))))

numbered_is : (k : CellKind) → numbered (number_of k) ≡ k
numbered_is Buffer = refl
numbered_is Inverter = refl
numbered_is Zero = refl
numbered_is One = refl
numbered_is Split2 = refl
numbered_is Split3 = refl
numbered_is Majority = refl

same_kind : (a b : CellKind) → (number_of a == number_of b) ≡ true → a ≡ b
same_kind a b e = sym (numbered_is a) ∙ ap numbered (eqb-true (number_of a) (number_of b) e) ∙ numbered_is b

-- the value of what a mark names

abbrev value_by : (ℕ → ℕ → Bool) → Option Mark → Bool
value_by v None = false
value_by v (Some mark) = v mark.row mark.cell

leads_value : (v : ℕ → ℕ → Bool) (row : ℕ) (target : Source) (o : Option Mark) (own : ℕ)
    → leads_at row target o own ≡ true → value_by v o ≡ v row target.cell
leads_value v row target None own e = absurd (cc)
leads_value v row target (Some mark) own e =
    let both = and_parts ((mark.row == row) && (mark.cell == target.cell))
    (given_by mark.carried own == target.output) e in
    let two = and_parts (mark.row == row) (mark.cell == target.cell) both.0 in
    ap (λ (r : ℕ). v r mark.cell) (eqb-true mark.row row two.0)
    ∙ ap (v row) (eqb-true mark.cell target.cell two.1)

pin_value : (v : ℕ → ℕ → Bool) (row : ℕ) (below : List Mark) (a b : Option Source) → is_pin row below a b ≡ true
    → source_value (λ (c : ℕ). value_by v (slice_get below c)) a ≡ source_value (v row) b
pin_value v row below None None e = refl
pin_value v row below None (Some t) e = absurd (cc)
pin_value v row below (Some s) None e = absurd (cc)
pin_value v row below (Some s) (Some t) e = leads_value v row t (slice_get below s.cell) s.output e

-- what a cell that is one of the net keeps of it
record Keeps (row : ℕ) (below : List Mark) (cell own : RowCell) : Type 0 where
  kind : cell.kind ≡ own.kind
  input : cell.input ≡ own.input
  output : cell.output ≡ own.output
  pin0 : is_pin row below cell.source0 own.source0 ≡ true
  pin1 : is_pin row below cell.source1 own.source1 ≡ true
  pin2 : is_pin row below cell.source2 own.source2 ≡ true

keeps : (row : ℕ) (below : List Mark) (cell own : RowCell) → is_cell row below cell own ≡ true
    → Keeps row below cell own
keeps row below cell own e =
    let k = number_of cell.kind == number_of own.kind in
    let i = is_same cell.input own.input in
    let o = is_same cell.output own.output in
    let a = is_pin row below cell.source0 own.source0 in
    let b = is_pin row below cell.source1 own.source1 in
    let c = is_pin row below cell.source2 own.source2 in
    let five = and_parts (k && i && o && a && b) c e in
    let four = and_parts (k && i && o && a) b five.0 in
    let three = and_parts (k && i && o) a four.0 in
    let two = and_parts (k && i) o three.0 in
    let one = and_parts k i two.0 in
    record {
      kind = same_kind cell.kind own.kind one.0;
      input = same_number cell.input own.input one.1;
      output = same_number cell.output own.output two.1;
      pin0 = three.1;
      pin1 = four.1;
      pin2 = five.1;
    }

-- so it has its value
kept_value : (word : List Bool) (v : ℕ → ℕ → Bool) (row : ℕ) (below : List Mark) (cell own : RowCell)
    → Keeps row below cell own
    → cell_value word (λ (c : ℕ). value_by v (slice_get below c)) cell ≡ cell_value word (v row) own
kept_value word v row below cell own known =
    let w = λ (o : Option Source). source_value (λ (c : ℕ). value_by v (slice_get below c)) o in
    let u = λ (o : Option Source). source_value (v row) o in
    ap (λ (i : Option ℕ). bit_or word i
    (value_of cell.kind (w cell.source0) (w cell.source1) (w cell.source2))) known.input
    ∙ ap (λ (k : CellKind). bit_or word own.input
    (value_of k (w cell.source0) (w cell.source1) (w cell.source2))) known.kind
    ∙ ap (λ (x : Bool). bit_or word own.input (value_of own.kind x (w cell.source1) (w cell.source2)))
    (pin_value v row below cell.source0 own.source0 known.pin0)
    ∙ ap (λ (y : Bool). bit_or word own.input (value_of own.kind (u own.source0) y (w cell.source2)))
    (pin_value v row below cell.source1 own.source1 known.pin1)
    ∙ ap (λ (z : Bool). bit_or word own.input (value_of own.kind (u own.source0) (u own.source1) z))
    (pin_value v row below cell.source2 own.source2 known.pin2)

-- what an added buffer keeps
record Adds (below : List Mark) (cell : RowCell) (row : ℕ) (target : Source) : Type 0 where
  kind : cell.kind ≡ Buffer
  input : cell.input ≡ None
  output : cell.output ≡ None
  pin : is_pin row below cell.source0 (Some target) ≡ true

adds : (below : List Mark) (cell : RowCell) (row : ℕ) (target : Source) → is_added below cell row target ≡ true
    → Adds below cell row target
adds below cell row target e =
    let k = number_of cell.kind == number_of Buffer in
    let i = is_same cell.input None in
    let o = is_same cell.output None in
    let three = and_parts (k && i && o) (is_pin row below cell.source0 (Some target)) e in
    let two = and_parts (k && i) o three.0 in
    let one = and_parts k i two.0 in
    record {
      kind = same_kind cell.kind Buffer one.0;
      input = same_number cell.input None one.1;
      output = same_number cell.output None two.1;
      pin = three.1;
    }

added_value : (word : List Bool) (v : ℕ → ℕ → Bool) (row : ℕ) (below : List Mark) (cell : RowCell) (target : Source)
    → Adds below cell row target
    → cell_value word (λ (c : ℕ). value_by v (slice_get below c)) cell ≡ v row target.cell
added_value word v row below cell target known =
    let w = λ (o : Option Source). source_value (λ (c : ℕ). value_by v (slice_get below c)) o in
    ap (λ (i : Option ℕ). bit_or word i
    (value_of cell.kind (w cell.source0) (w cell.source1) (w cell.source2))) known.input
    ∙ ap (λ (k : CellKind). value_of k (w cell.source0) (w cell.source1) (w cell.source2)) known.kind
    ∙ pin_value v row below cell.source0 (Some target) known.pin

-- the marks of the row below row d
abbrev below_of : List Mark → List (List Mark) → ℕ → List Mark
below_of below marks zero = below
below_of below marks (suc d) = slice_index_or marks d []

-- the mark of a cell, and its test
record Marked (net : List (List RowCell)) (became : List ℕ) (d : ℕ) (below : List Mark) (cell : RowCell)
    (o : Option Mark) : Type 0 where
  mark : Mark
  is : o ≡ Some mark
  test : is_marked net became d below cell mark.row mark.cell mark.carried ≡ true

module _ (net : List (List RowCell)) (became : List ℕ) (places : List (List Place)) where
  marked_by : (d : ℕ) (below : List Mark) (c : ℕ) (cell : RowCell) (mark : Mark)
      → fits_mark net became places d below c cell mark ≡ true
      → is_marked net became d below cell mark.row mark.cell mark.carried ≡ true
  unfolding fits_mark
  marked_by d below c cell mark e =
      (and_parts (is_marked net became d below cell mark.row mark.cell mark.carried) (has_place places d c mark) e).0

  row_at_mark : (d : ℕ) (below : List Mark) (c : ℕ) (cells : List RowCell) (marks : List Mark)
      → row_marked net became places d below c cells marks ≡ true
      → (k : ℕ) (cell : RowCell) → slice_get cells k ≡ Some cell
      → Marked net became d below cell (slice_get marks k)
  row_at_mark d below c [] marks e k cell is = absurd (none-some cell is)
  row_at_mark d below c (x ∷ cells) [] e k cell is = absurd (cc)
  row_at_mark d below c (x ∷ cells) (m ∷ marks) e zero cell is =
      let here = and_parts (fits_mark net became places d below c x m)
      (row_marked net became places d below (c + 1) cells marks) e in
      subst (λ (y : RowCell). Marked net became d below y (Some m)) (same_Some x cell is)
      (record { mark = m; is = refl; test = marked_by d below c x m here.0 })
  row_at_mark d below c (x ∷ cells) (m ∷ marks) e (suc k) cell is =
      let here = and_parts (fits_mark net became places d below c x m)
      (row_marked net became places d below (c + 1) cells marks) e in
      row_at_mark d below (c + 1) cells marks here.1 k cell is

  at_mark : (n : ℕ) (below : List Mark) (rows : List (List RowCell)) (marks : List (List Mark))
      → rows_marked net became places n below rows marks ≡ true
      → (d k : ℕ) (cell : RowCell) → cell_at rows d k ≡ Some cell
      → Marked net became (n + d) (below_of below marks d) cell (item_at marks d k)
  at_mark n below [] marks e d k cell is = absurd (none-some cell is)
  at_mark n below (x ∷ rows) [] e d k cell is = absurd (cc)
  at_mark n below (x ∷ rows) (m ∷ marks) e zero k cell is =
      let parts = and_parts (row_marked net became places n below 0 x m)
      (rows_marked net became places (n + 1) m rows marks) e in
      let at : n ≡ n + 0 = omega arith in
      subst (λ (d : ℕ). Marked net became d below cell (slice_get m k)) at
      (row_at_mark n below 0 x m parts.0 k cell is)
  at_mark n below (x ∷ rows) (m ∷ marks) e (suc zero) k cell is =
      let parts = and_parts (row_marked net became places n below 0 x m)
      (rows_marked net became places (n + 1) m rows marks) e in
      let at : n + 1 + 0 ≡ n + 1 = omega arith in
      subst (λ (d : ℕ). Marked net became d m cell (item_at marks 0 k)) at
      (at_mark (n + 1) m rows marks parts.1 0 k cell is)
  at_mark n below (x ∷ rows) (m ∷ marks) e (suc (suc d)) k cell is =
      let parts = and_parts (row_marked net became places n below 0 x m)
      (rows_marked net became places (n + 1) m rows marks) e in
      let at : n + 1 + suc d ≡ n + suc (suc d) = omega arith in
      subst (λ (j : ℕ). Marked net became j (slice_index_or marks d []) cell (item_at marks (suc d) k)) at
      (at_mark (n + 1) m rows marks parts.1 (suc d) k cell is)

-- a cell of the net that is found
record Owns (net : List (List RowCell)) (row : ℕ) (below : List Mark) (cell : RowCell) (r c : ℕ) : Type 0 where
  own : RowCell
  there : item_at net r c ≡ Some own
  keeps : Keeps row below cell own

owns_at : (became : List ℕ) (d : ℕ) (below : List Mark) (cell : RowCell) (r : ℕ) (o : Option RowCell)
    → is_kept became d below cell r o ≡ true
    → (own : RowCell) × (o ≡ Some own) × Keeps (r - 1) below cell own
owns_at became d below cell r None e = absurd (cc)
owns_at became d below cell r (Some own) e = (
  own,
  refl,
  keeps (r - 1) below cell own
      (and_parts (is_cell (r - 1) below cell own) (is_constant cell.kind || is_row d (slice_get became r)) e).0,
)

pred_is : (r : ℕ) → r - 1 ≡ pred r
pred_is zero = refl
pred_is (suc r) = omega arith

-- a marked cell has the value of what its mark names
marked_value : (word : List Bool) (v : ℕ → ℕ → Bool) (net : List (List RowCell)) → FitsRows word v net
    → (became : List ℕ) (d : ℕ) (below : List Mark) (cell : RowCell) (r c : ℕ) (carried : Option ℕ)
    → is_marked net became d below cell r c carried ≡ true
    → v r c ≡ cell_value word (λ (k : ℕ). value_by v (slice_get below k)) cell
marked_value word v net fit became d below cell r c None e =
    let own = owns_at became d below cell r (item_at net r c) e in
    fit r c own.0 own.1
    ∙ ap (λ (p : ℕ). cell_value word (v p) own.0) (sym (pred_is r))
    ∙ sym (kept_value word v (r - 1) below cell own.0 own.2)
marked_value word v net fit became d below cell r c (Some output) e =
    let target : Source = record { cell = c; output = output } in
    sym (added_value word v r below cell target (adds below cell r target e))

-- a marked cell that shows an output is one of the net that shows it
shown_own : (net : List (List RowCell)) (became : List ℕ) (d : ℕ) (below : List Mark) (cell : RowCell) (r c i : ℕ)
    (carried : Option ℕ) → is_marked net became d below cell r c carried ≡ true → cell.output ≡ Some i
    → (own : RowCell) × (item_at net r c ≡ Some own) × (own.output ≡ Some i)
shown_own net became d below cell r c i None e shows =
    let own = owns_at became d below cell r (item_at net r c) e in
    (own.0, own.1, sym own.2.output ∙ shows)
shown_own net became d below cell r c i (Some output) e shows =
    let target : Source = record { cell = c; output = output } in
    absurd (none-some i (sym (adds below cell r target e).output ∙ shows))

output_cell : (o : Option RowCell) (i : ℕ) → output_at o ≡ Some i
    → (cell : RowCell) × (o ≡ Some cell) × (cell.output ≡ Some i)
output_cell None i e = absurd (none-some i e)
output_cell (Some cell) i e = (cell, refl, e)

-- a cell that shows an output stands in the last row
last_row : (net : RowView) (r c i : ℕ) (cell : RowCell) → IsRowNet net → cell_at net.rows r c ≡ Some cell
    → cell.output ≡ Some i → r ≡ last_of net.rows
last_row net r c i cell known is shows =
    let same : (suc r == length net.rows) ≡ true = sym ((known.stands r c cell is).output) ∙ ap is_some shows in
    ap pred (eqb-true (suc r) (length net.rows) same)

module _ (net wide : RowView) (known : IsRowNet net) (keeps_wide : IsRowNet wide) (wider : IsWider net wide) where
  tests : rows_marked net.rows wider.became wider.places 0 [] wide.rows wider.marks ≡ true
  tests =
      (and_parts (rows_marked net.rows wider.became wider.places 0 [] wide.rows wider.marks)
      (rows_stand wider.places wider.marks 0 net.rows) wider.widened).0

  abbrev value : (ℕ → ℕ → Bool) → ℕ → ℕ → Bool
  value v d k = value_by v (item_at wider.marks d k)

  fit_wide : (word : List Bool) (v : ℕ → ℕ → Bool) → FitsRows word v net.rows → FitsRows word (value v) wide.rows
  fit_wide word v fit zero k cell is =
      let m = at_mark net.rows wider.became wider.places 0 [] wide.rows wider.marks tests 0 k cell is in
      let may = keeps_wide.stands 0 k cell is in
      let empty : List Mark = [] in
      ap (value_by v) m.is
      ∙ marked_value word v net.rows fit wider.became 0 [] cell m.mark.row m.mark.cell m.mark.carried m.test
      ∙ no_sources word (λ (c : ℕ). value_by v (slice_get empty c)) (value v 0) cell
      (may.before 0) (may.before 1) (may.before 2)
  fit_wide word v fit (suc d) k cell is =
      let m = at_mark net.rows wider.became wider.places 0 [] wide.rows wider.marks tests (suc d) k cell is in
      ap (value_by v) m.is
      ∙ marked_value word v net.rows fit wider.became (0 + suc d) (slice_index_or wider.marks d []) cell
      m.mark.row m.mark.cell m.mark.carried m.test

  answer_there : (word answer : List Bool) → IsAnswer net word answer → IsAnswer wide word answer
  answer_there word answer a = record {
    values = value a.values;
    fit = fit_wide word a.values a.fit;
    long = a.long ∙ sym wider.same_outputs;
    shown = λ c i e.
        let last = last_of wide.rows in
        let cell = output_cell (cell_at wide.rows last c) i e in
        let m = at_mark net.rows wider.became wider.places 0 [] wide.rows wider.marks tests last c cell.0 cell.1 in
        let own = shown_own net.rows wider.became (0 + last) (below_of [] wider.marks last) cell.0
        m.mark.row m.mark.cell i m.mark.carried m.test cell.2 in
        let at = last_row net m.mark.row m.mark.cell i own.0 known own.1 own.2 in
        let shows : output_at (cell_at net.rows (last_of net.rows) m.mark.cell) ≡ Some i =
        ap (λ (r : ℕ). output_at (cell_at net.rows r m.mark.cell)) (sym at) ∙ ap output_at own.1 ∙ own.2 in
        a.shown m.mark.cell i shows
        ∙ ap (λ (r : ℕ). Some (a.values r m.mark.cell)) (sym at)
        ∙ sym (ap (λ (o : Option Mark). Some (value_by a.values o)) m.is);
  }

  pub same_answers : SameAnswers net.inputs wide.inputs net.outputs wide.outputs (IsAnswer net) (IsAnswer wide)
  same_answers = record {
    same_inputs = wider.same_inputs;
    same_outputs = wider.same_outputs;
    there = λ x y long a. answer_there x y a;
    back = λ x y long a.
        let some = some_answer net x known in
        subst (λ (z : List Bool). IsAnswer net x z)
        (one_answer wide x some.0 y keeps_wide (answer_there x some.0 some.1) a) some.1;
  }
