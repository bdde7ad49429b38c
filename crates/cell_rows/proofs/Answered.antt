-- The rows of a netlist of cells answer each word as the netlist does.
use Rattle.std.proofs.Common.{◌≡◌, ℕ, suc, ◌+◌, ◌-◌, Bool, true, false, cond, List, [], ◌∷◌}
use Rattle.std.proofs.Common.{length, map, Option, Some, None, refl, ap, sym, ◌∙◌, subst, arith}
use Rattle.std.specs.Prelude.{pred, slice_get, slice_index, slice_index_or, eqb, option_map}
use Rattle.std.proofs.lemmas.Bool.{ltb-true}
use Rattle.std.proofs.lemmas.Option.{none-some, slice_get-map, get_or_from_slice_get}
use Rattle.std.proofs.lemmas.List.{length-map}
use Rattle.circuit.specs.Function.{value_of}
use Rattle.circuit.specs.Gates.{gate_value}
use Rattle.circuit.specs.SameAnswers.{SameAnswers}
use Rattle.circuit.specs.declared.gate.Gate.{Gate}
use Rattle.circuit.specs.declared.gate.Gate.TheVariants.{Input, Zero, One, Buf, Inv, Maj}
use Rattle.circuit.specs.declared.cell_kind.CellKind.TheVariants as kinds
use Rattle.blif_read.specs.Equations.{Fits}
use Rattle.blif_read.specs.Equations.{IsAnswer as IsNetlistAnswer}
use Rattle.blif_read.proofs.OneAnswer.{netlist_once}
use Rattle.rowed.specs.declared.source.Source.{Source}
use Rattle.rowed.specs.declared.row_cell.RowCell.{RowCell}
use Rattle.rowed.specs.RowCells.{source_value, bit_or, cell_value}
use Rattle.rowed.specs.RowNets.{cell_at, output_at, last_of, FitsRows, IsAnswer}
use Rattle.rowed.proofs.RowAnswers.{rows_once}
use Rattle.cell_netlist.specs.Kinds.{operands_of, IsCellGate}
use Rattle.cell_netlist.specs.Uses.{CellView, uses, is_input, is_buffer, gate_of}
use Rattle.cell_netlist.specs.Levels.{shown_by}
use Rattle.cell_rows.specs.Laws.{AreCells}
use Rattle.cell_rows.specs.Members.{stands_in, members, place_of}
use Rattle.cell_rows.specs.CellRows.{kind_giving, source_of, cell_of}
use Rattle.cell_rows.specs.CellRows.{row_of, rows_of}
use Rattle.cell_rows.proofs.Listed.{listed_long, passing_at}
use Rattle.cell_rows.proofs.Defined.{Defined, defined, gate_is, past_inputs, IsCell, names_cell}
use Rattle.cell_rows.proofs.Defined.{reads_cell}
use Rattle.cell_rows.proofs.Defined.{name_is, shown_is, output_below, same_gate}
use Rattle.cell_rows.proofs.Rows.{stands, shown_of, gate_past_inputs}
use Rattle.cell_rows.proofs.Standing.{cell_is, at_cell, reads_none}
use Rattle.cell_rows.proofs.Ends.{output_is}
use Rattle.cell_rows.proofs.Netted.{row_net}

-- the values of a row's cells are those of their definitions
values_of : CellView → List ℕ → (ℕ → Bool) → ℕ → ℕ → Bool
values_of d levels v r c = v (d.net.inputs + slice_index (members d levels r) c)

value_there : {d : CellView} (levels : List ℕ) (v : ℕ → Bool) (j : ℕ) → IsCell d j
    → values_of d levels v (slice_index levels j) (place_of d levels j) ≡ v (d.net.inputs + j)
unfolding values_of
value_there {d} levels v j cell =
    let r = slice_index levels j in
    ap (λ (k : ℕ). v (d.net.inputs + k))
    (get_or_from_slice_get (members d levels r) (place_of d levels j) j 0
    (passing_at (stands_in d levels r) (length d.net.defs) j cell.below (stands levels cell refl)))

-- a definition has the value of its gate
gate_valued : {d : CellView} {j : ℕ} (word : List Bool) (v : ℕ → Bool) → Fits d.net.inputs d.net.defs word v
    → (x : Defined d j) → v (d.net.inputs + j) ≡ gate_value [] v x.gate
gate_valued {d} {j} word v fit x = fit.covers j x.def x.here ∙ x.computes.valued v

-- the value that a pin gets is that of its signal
pin_value : {d : CellView} {levels : List ℕ} {last : ℕ} → AreCells d levels last → (v : ℕ → Bool) → (j : ℕ)
    → IsCell d j → (x : Defined d j) → (i s : ℕ) → slice_get x.def.inputs i ≡ Some s → is_input d s ≡ false
    → values_of d levels v (pred (slice_index levels j)) (place_of d levels (s - d.net.inputs)) ≡ v s
pin_value {d} {levels} known v j cell x i s at e =
    let past = past_inputs d s e in
    let k = s - d.net.inputs in
    let up = reads_cell known x cell.no_name i s at k past in
    let lower = names_cell known x i k (at ∙ ap (λ (n : ℕ). Some n) past) in
    ap (λ (r : ℕ). values_of d levels v (pred r) (place_of d levels k)) up
    ∙ value_there levels v k lower ∙ ap v (sym past)

giving_value : (n : ℕ) (a b c : Bool) → value_of (kind_giving n) a b c ≡ a
giving_value n a b c = by (eqb n 2) (eqb n 3)
  where
    by : (p q : Bool) → value_of (cond p kinds.Split2 (cond q kinds.Split3 kinds.Buffer)) a b c ≡ a
    by true q = refl
    by false true = refl
    by false false = refl

-- a buffer has the value of what it names: the bit of an input, or the value that its pin gets
buffer_value : (b : Bool) (word : List Bool) (below : ℕ → Bool) (n : ℕ) (f : ℕ → Source) (s : ℕ) (v : ℕ → Bool)
    → (b ≡ true → v s ≡ slice_index_or word s false) → (b ≡ false → below (f s).cell ≡ v s)
    → v s ≡ bit_or word (cond b (Some s) None)
    (value_of (kind_giving n) (source_value below (slice_get (map f (cond b [] (s ∷ []))) 0))
    (source_value below (slice_get (map f (cond b [] (s ∷ []))) 1))
    (source_value below (slice_get (map f (cond b [] (s ∷ []))) 2)))
buffer_value true word below n f s v bit pin = bit refl
buffer_value false word below n f s v bit pin =
    sym (pin refl) ∙ sym (giving_value n (below (f s).cell) false false)

-- the cell of this gate has its value, from the values of the row below
abbrev IsValued : CellView → List ℕ → List Bool → (ℕ → Bool) → ℕ → Gate → Type 0
IsValued d levels word v j g =
    gate_value [] v g ≡ cell_value word (values_of d levels v (pred (slice_index levels j))) (cell_of d levels j g)

cell_valued : {d : CellView} {levels : List ℕ} {last : ℕ} → AreCells d levels last → (word : List Bool)
    → (v : ℕ → Bool) → Fits d.net.inputs d.net.defs word v → (j : ℕ) → IsCell d j → (x : Defined d j)
    → IsValued d levels word v j x.gate
cell_valued {d} {levels} known word v fit j cell x = by x.gate refl
  where
    named : (g : Gate) → x.gate ≡ g → (i s : ℕ) → slice_get (operands_of g) i ≡ Some s
        → slice_get x.def.inputs i ≡ Some s
    named g e i s at = ap (λ (xs : List ℕ). slice_get xs i) (x.computes.named ∙ ap operands_of e) ∙ at

    pin : (g : Gate) → x.gate ≡ g → is_buffer (Some g) ≡ false → (i s : ℕ) → slice_get (operands_of g) i ≡ Some s
        → values_of d levels v (pred (slice_index levels j)) (place_of d levels (s - d.net.inputs)) ≡ v s
    pin g e other i s at =
        pin_value known v j cell x i s (named g e i s at)
        (reads_none x (ap (λ (g : Gate). is_buffer (Some g)) e ∙ other) i s (named g e i s at))

    buffer : (s : ℕ) → x.gate ≡ Buf s → IsValued d levels word v j (Buf s)
    buffer s e =
        buffer_value (is_input d s) word (values_of d levels v (pred (slice_index levels j)))
        (uses d (d.net.inputs + j)) (source_of d levels j) s v
        (λ t. fit.bits s (ltb-true s d.net.inputs t))
        (λ t. pin_value known v j cell x 0 s (named (Buf s) e 0 s refl) t)

    turned : (g : Gate) → x.gate ≡ g → IsValued d levels word v j g → IsValued d levels word v j x.gate
    turned g e is = subst (IsValued d levels word v j) (sym e) is

    by : (g : Gate) → x.gate ≡ g → IsValued d levels word v j x.gate
    by (Input i) e = absurd (subst IsCellGate e x.computes.cell)
    by Zero e = turned Zero e refl
    by One e = turned One e refl
    by (Buf s) e = turned (Buf s) e (buffer s e)
    by (Inv s) e = turned (Inv s) e (rw (pin (Inv s) e refl 0 s refl) refl)
    by (Maj a b c) e =
        let read = pin (Maj a b c) e refl in
        turned (Maj a b c) e (rw (read 0 a refl, read 1 b refl, read 2 c refl) refl)

rows_fit : {d : CellView} {levels : List ℕ} {last : ℕ} → AreCells d levels last → (word : List Bool)
    → (v : ℕ → Bool) → Fits d.net.inputs d.net.defs word v
    → FitsRows word (values_of d levels v) (rows_of d levels last).rows
rows_fit {d} {levels} {last} known word v fit r c cell e =
    let at = at_cell known r c cell e in
    let x = defined known at.j at.is_cell.below in
    ap (λ (r : ℕ). values_of d levels v r c) (sym at.level)
    ∙ ap (values_of d levels v (slice_index levels at.j)) at.place
    ∙ value_there levels v at.j at.is_cell
    ∙ gate_valued word v fit x
    ∙ cell_valued known word v fit at.j at.is_cell x
    ∙ ap (cell_value word (values_of d levels v (pred (slice_index levels at.j)))) (sym (at.cell_is ∙ cell_is levels x))
    ∙ ap (λ (r : ℕ). cell_value word (values_of d levels v (pred r)) cell) at.level

-- an output has the value of the buffer that it shows
output_valued : {d : CellView} {levels : List ℕ} {last : ℕ} → AreCells d levels last → (word : List Bool)
    → (v : ℕ → Bool) → Fits d.net.inputs d.net.defs word v → (k s j : ℕ) → slice_get d.net.outputs k ≡ Some s
    → shown_by d s ≡ d.net.inputs + j → v s ≡ v (d.net.inputs + j)
output_valued {d} known word v fit k s j at shown =
    let name = name_is d s (shown_of known k s at).output_name in
    let past = past_inputs d s (gate_past_inputs d s (Buf name.reads) name.buffers) in
    let low = output_below known k s at in
    let x = defined known (s - d.net.inputs) (omega (arith, low, past)) in
    let gate : x.gate ≡ Buf name.reads = same_gate (gate_is x) (ap (gate_of d) (sym past) ∙ name.buffers) in
    ap v past ∙ gate_valued word v fit x ∙ ap (gate_value [] v) gate ∙ ap v (sym (shown_is d s name) ∙ shown)

pub rows_answer : {d : CellView} {levels : List ℕ} {last : ℕ} → AreCells d levels last → (word answer : List Bool)
    → IsNetlistAnswer d.net word answer → IsAnswer (rows_of d levels last) word answer
rows_answer {d} {levels} {last} known word answer known_answer =
    let v = known_answer.values in
    let long = listed_long (row_of d levels) (suc last) in
    let top : last_of (rows_of d levels last).rows ≡ last = ap pred long in
    record {
      values = values_of d levels v;
      fit = rows_fit known word v known_answer.fit;
      long = ap length known_answer.shown ∙ length-map d.net.outputs v;
      shown = λ c i e.
          let there = some_output (cell_at (rows_of d levels last).rows (last_of (rows_of d levels last).rows) c) i e in
          let at = at_cell known (last_of (rows_of d levels last).rows) c there.0 there.1 in
          let x = defined known at.j at.is_cell.below in
          let is = output_is d (d.net.inputs + at.j) i
          (ap (λ (c : RowCell). c.output) (sym (at.cell_is ∙ cell_is levels x)) ∙ there.2) in
          ap (λ (xs : List Bool). slice_get xs i) known_answer.shown
          ∙ slice_get-map v d.net.outputs i ∙ ap (option_map v) is.here
          ∙ ap (λ (b : Bool). Some b)
          (output_valued known word v known_answer.fit i is.output at.j is.here is.shown
          ∙ sym (value_there levels v at.j at.is_cell)
          ∙ ap (λ (r : ℕ). values_of d levels v r (place_of d levels at.j)) at.level
          ∙ ap (values_of d levels v (last_of (rows_of d levels last).rows)) (sym at.place));
    }
  where
    some_output : (o : Option RowCell) (i : ℕ) → output_at o ≡ Some i
        → (cell : RowCell) × (o ≡ Some cell) × (cell.output ≡ Some i)
    some_output None i e = absurd (none-some i e)
    some_output (Some cell) i e = (cell, refl, e)

pub same_answers : {d : CellView} {levels : List ℕ} {last : ℕ} → AreCells d levels last
    → SameAnswers d.net.inputs d.net.inputs (length d.net.outputs) (length d.net.outputs) (IsNetlistAnswer d.net)
    (IsAnswer (rows_of d levels last))
same_answers {d} {levels} {last} known =
    let netlist = netlist_once d.net known.net_keeps in
    let rows = rows_once (rows_of d levels last) (row_net known) in
    record {
      same_inputs = refl;
      same_outputs = refl;
      there = λ x y long answer. rows_answer known x y answer;
      back = λ x y long answer.
          let some = netlist.some x long in
          subst (IsNetlistAnswer d.net x)
          (rows.only x some.0 y long (rows_answer known x some.0 some.1) answer) some.1;
    }
