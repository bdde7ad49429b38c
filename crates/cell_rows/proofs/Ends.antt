-- The inputs and outputs of rows of cells: each is shown by one cell.
use Rattle.std.proofs.Common.{◌≡◌, ℕ, zero, suc, ◌+◌, ◌-◌, ◌<◌, Bool, true, false, not, List, [], ◌∷◌}
use Rattle.std.proofs.Common.{length, take, get_or, Option, Some, None, refl, ap, sym, ◌∙◌, subst, arith, inl, inr}
use Rattle.std.specs.Prelude.{◌&&◌, ◌||◌, slice_get, slice_index_or, nat_lt, nat_eq, eqb}
use Rattle.std.specs.List.{count_by, list_any, position_or_len}
use Rattle.std.proofs.lemmas.Bool.{cases_eq, cases_lt, cond-true, cond-false, and_parts, eqb-true, eq-eqb, ltb-true}
use Rattle.std.proofs.lemmas.Bool.{lt-ltb}
use Rattle.std.proofs.lemmas.Option.{slice_get_within, same_Some, none-some, slice_get-get_or, get_or_from_slice_get}
use Rattle.std.proofs.lemmas.List.Sums.{fails_before_first}
use Rattle.std.proofs.lemmas.List.Quantifiers.{position-Some}
use Rattle.std.proofs.lemmas.Map.Keys.{any_passes_from_place}
use Rattle.circuit.specs.declared.gate.Gate.{Gate}
use Rattle.circuit.specs.declared.gate.Gate.TheVariants.{Input, Zero, One, Buf, Inv, Maj}
use Rattle.rowed.specs.declared.row_cell.RowCell.{RowCell}
use Rattle.rowed.specs.RowNets.{cell_at, input_at, output_at, ExactlyOne}
use Rattle.blif_read.specs.declared.netlist.Def.{Def}
use Rattle.cell_netlist.specs.Kinds.{operands_of}
use Rattle.cell_netlist.specs.Uses.{CellView, named, uses, is_input, is_name, is_buffer, gate_of, may_have}
use Rattle.cell_netlist.specs.Uses.{shares_input}
use Rattle.cell_netlist.specs.Levels.{shown_by}
use Rattle.cell_rows.specs.Laws.{AreCells}
use Rattle.cell_rows.specs.Members.{place_of}
use Rattle.cell_rows.specs.CellRows.{input_of, output_of, rows_of}
use Rattle.cell_rows.proofs.Counted.{Use, use_of, count_some, count_first, count_place, before_more, one_user}
use Rattle.cell_rows.proofs.Defined.{Defined, defined, gate_is, past_inputs, IsCell, some_at, one_signal}
use Rattle.cell_rows.proofs.Defined.{name_is, shown_is, reads_input, output_below}
use Rattle.cell_rows.proofs.Defined.{same_gate}
use Rattle.cell_rows.proofs.Rows.{buffer_of, shown_of, gate_past_inputs}
use Rattle.cell_rows.proofs.Standing.{cell_is, cell_there, at_cell, reads_buffer}

-- the cell of an input

pub buffer_gate : (g : Gate) → is_buffer (Some g) ≡ true → (x : ℕ) × (g ≡ Buf x)
buffer_gate g e = let buffer = buffer_of (Some g) e in (buffer.0, same_Some g (Buf buffer.0) buffer.1)

record ReadsInput (d : CellView) (j i : ℕ) : Type 0 where
  x : Defined d j
  gate : x.gate ≡ Buf i
  input : is_input d i ≡ true

reads_of : {d : CellView} {levels : List ℕ} {last : ℕ} → AreCells d levels last → (i : ℕ) → i < d.net.inputs
    → (user : Use d.net.defs i) → ReadsInput d user.j i
reads_of {d} known i lt user =
    let x = defined known user.j (slice_get_within d.net.defs user.j user.def user.here) in
    let input : is_input d i ≡ true = lt-ltb i d.net.inputs lt in
    let at : slice_get x.def.inputs user.i ≡ Some i =
    ap (λ (o : Option Def). at_def o user.i) (sym x.here ∙ user.here) ∙ user.at in
    let buffer = reads_buffer x user.i i at input in
    let gate = buffer_gate x.gate buffer.0 in
    let one = one_signal x.def.inputs gate.0 user.i i (x.computes.named ∙ ap operands_of gate.1) at in
    record { x = x; gate = gate.1 ∙ ap (λ (n : ℕ). Buf n) (sym one.1); input = input }
  where
    at_def : Option Def → ℕ → Option ℕ
    at_def None i = None
    at_def (Some def) i = slice_get def.inputs i

-- a buffer of an input is no name
input_cell : {d : CellView} {j i : ℕ} → j < length d.net.defs → (r : ReadsInput d j i) → IsCell d j
input_cell {d} {j} {i} lt r = record { below = lt; no_name = by (is_name d (d.net.inputs + j)) refl }
  where
    none_of : is_buffer (gate_of d i) ≡ false
    none_of = ap is_buffer (cond-true (is_input d i) None (slice_index_or d.gates (i - d.net.inputs) None) r.input)

    by : (b : Bool) → is_name d (d.net.inputs + j) ≡ b → is_name d (d.net.inputs + j) ≡ false
    by false e = e
    by true e =
        let name = name_is d (d.net.inputs + j) e in
        let same : Buf i ≡ Buf name.reads = sym r.gate ∙ same_gate (gate_is r.x) name.buffers in
        let reads : i ≡ name.reads = cc in
        absurd
        (let h : false ≡ true = sym none_of ∙ ap (λ (s : ℕ). is_buffer (gate_of d s)) reads ∙ name.of_buffer in cc)

shows_of : (d : CellView) (i : ℕ) → is_input d i ≡ true → input_of d (Buf i) ≡ Some i
shows_of d i e = cond-true (is_input d i) (Some i) None e

input_is : (d : CellView) (g : Gate) (i : ℕ) → input_of d g ≡ Some i → (g ≡ Buf i) × (is_input d i ≡ true)
input_is d (Input k) i e = absurd (none-some i e)
input_is d Zero i e = absurd (none-some i e)
input_is d One i e = absurd (none-some i e)
input_is d (Inv k) i e = absurd (none-some i e)
input_is d (Maj a b c) i e = absurd (none-some i e)
input_is d (Buf x) i e = by (is_input d x) refl
  where
    by : (b : Bool) → is_input d x ≡ b → (Buf x ≡ Buf i) × (is_input d i ≡ true)
    by true t =
        let same : x ≡ i = same_Some x i (sym (cond-true (is_input d x) (Some x) None t) ∙ e) in
        (ap (λ (n : ℕ). Buf n) same, ap (is_input d) (sym same) ∙ t)
    by false t = absurd (none-some i (sym (cond-false (is_input d x) (Some x) None t) ∙ e))

pub input_below : (d : CellView) (g : Gate) (i : ℕ) → input_of d g ≡ Some i → i < d.net.inputs
input_below d g i e = let is = input_is d g i e in ltb-true i d.net.inputs is.1

-- no later definition names the input that one names

not_true : (b : Bool) → not b ≡ true → b ≡ true → ⊥
not_true true e f = cc
not_true false e f = cc

apart : {d : CellView} {j i : ℕ} → (m : ℕ) → m < j → (x : Defined d j) → (y : Defined d m) → x.gate ≡ Buf i
    → y.gate ≡ Buf i → is_input d i ≡ true → ⊥
apart {d} {j} {i} m lt x y gate other input =
    let first : slice_get x.def.inputs 0 ≡ Some i =
    ap (λ (xs : List ℕ). slice_get xs 0) (x.computes.named ∙ ap operands_of gate) in
    let second : slice_get y.def.inputs 0 ≡ Some i =
    ap (λ (xs : List ℕ). slice_get xs 0) (y.computes.named ∙ ap operands_of other) in
    let before = named (take j d.net.defs) in
    let some = before_more d.net.defs i m 0 j y.def y.here second lt in
    let place = count_place i before (omega (arith, some)) in
    let taken = any_passes_from_place (nat_eq i) before place.0 i place.1 (eq-eqb i i refl) in
    let shares = any_passes_from_place (λ s. is_input d s && list_any (nat_eq s) before) x.def.inputs 0 i first
    (ap (λ (b : Bool). b && list_any (nat_eq i) before) input ∙ taken) in
    let fine = and_parts (is_name d (d.net.inputs + j) || may_have d x.gate (uses d (d.net.inputs + j)))
    (not (shares_input d x.def.inputs before)) x.used in
    not_true (shares_input d x.def.inputs before) fine.1 shares

same_reader : {d : CellView} {j k i : ℕ} → (x : Defined d j) → (y : Defined d k) → x.gate ≡ Buf i → y.gate ≡ Buf i
    → is_input d i ≡ true → j ≡ k
same_reader {d} {j} {k} {i} x y gate other input = elim (cases_eq j k) [
  | inl e ↦ e
  | inr ne ↦ elim (cases_lt j k) [
    | inl lt ↦ absurd (apart j lt y x other gate input)
    | inr le ↦ absurd (apart k (omega (arith, ne, le)) x y gate other input)
  ]
]

pub each_input : {d : CellView} {levels : List ℕ} {last : ℕ} → AreCells d levels last → (i : ℕ) → i < d.net.inputs
    → ExactlyOne (λ c. input_at (cell_at (rows_of d levels last).rows 0 c) ≡ Some i)
each_input {d} {levels} {last} known i lt =
    let user = use_of d.net.defs i (known.cells.fed.each_input i lt) in
    let reads = reads_of known i lt user in
    let cell = input_cell (slice_get_within d.net.defs user.j user.def user.here) reads in
    let first : slice_get reads.x.def.inputs 0 ≡ Some i =
    ap (λ (xs : List ℕ). slice_get xs 0) (reads.x.computes.named ∙ ap operands_of reads.gate) in
    let level = reads_input known reads.x cell.no_name 0 i first reads.input in
    record {
      which = place_of d levels user.j;
      there =
          subst (λ (r : ℕ). input_at (cell_at (rows_of d levels last).rows r (place_of d levels user.j)) ≡ Some i) level
          (ap input_at (cell_there known user.j cell ∙ ap (λ (c : RowCell). Some c) (cell_is levels reads.x))
          ∙ ap (input_of d) reads.gate ∙ shows_of d i reads.input);
      only = λ c shown.
          let there = some_input (cell_at (rows_of d levels last).rows 0 c) i shown in
          let at = at_cell known 0 c there.0 there.1 in
          let y = defined known at.j at.is_cell.below in
          let is = input_is d y.gate i
          (ap (λ (c : RowCell). c.input) (sym (at.cell_is ∙ cell_is levels y)) ∙ there.2) in
          let same = same_reader y reads.x is.0 reads.gate reads.input in
          at.place ∙ ap (place_of d levels) same;
    }
  where
    some_input : (o : Option RowCell) (i : ℕ) → input_at o ≡ Some i
        → (cell : RowCell) × (o ≡ Some cell) × (cell.input ≡ Some i)
    some_input None i e = absurd (none-some i e)
    some_input (Some cell) i e = (cell, refl, e)

-- the cell of an output

-- an element that is counted once stands at one place
count_once : (s : ℕ) (xs : List ℕ) → count_by (nat_eq s) xs ≡ 1 → (i k : ℕ) → slice_get xs i ≡ Some s
    → slice_get xs k ≡ Some s → i ≡ k
count_once s [] one i k p q = absurd (none-some s p)
count_once s (x ∷ xs) one zero zero p q = refl
count_once s (x ∷ xs) one zero (suc k) p q =
    let first = count_first s x xs in
    let here = cond-true {A = ℕ} (nat_eq s x) 1 0 (eq-eqb s x (sym (same_Some x s p))) in
    let more = count_some s k xs q in
    absurd (omega (arith, one, first, here, more))
count_once s (x ∷ xs) one (suc i) zero p q =
    let first = count_first s x xs in
    let here = cond-true {A = ℕ} (nat_eq s x) 1 0 (eq-eqb s x (sym (same_Some x s q))) in
    let more = count_some s i xs p in
    absurd (omega (arith, one, first, here, more))
count_once s (x ∷ xs) one (suc i) (suc k) p q = ap suc (count_once s xs (by (nat_eq s x) refl) i k p q)
  where
    by : (b : Bool) → nat_eq s x ≡ b → count_by (nat_eq s) xs ≡ 1
    by true e =
        let first = count_first s x xs in
        let here = cond-true {A = ℕ} (nat_eq s x) 1 0 e in
        let more = count_some s i xs p in
        absurd (omega (arith, one, first, here, more))
    by false e =
        let first = count_first s x xs in
        let here = cond-false {A = ℕ} (nat_eq s x) 1 0 e in
        omega (arith, one, first, here)

-- the definition of an output names the buffer that it shows
shown_use : {d : CellView} {levels : List ℕ} {last : ℕ} → AreCells d levels last → (k s : ℕ)
    → slice_get d.net.outputs k ≡ Some s → (j : ℕ) → shown_by d s ≡ d.net.inputs + j
    → (user : Use d.net.defs (d.net.inputs + j)) × (s ≡ d.net.inputs + user.j)
shown_use {d} known k s at j shown =
    let names = (shown_of known k s at).output_name in
    let name = name_is d s names in
    let low = output_below known k s at in
    let m = s - d.net.inputs in
    let past = past_inputs d s (gate_past_inputs d s (Buf name.reads) name.buffers) in
    let x = defined known m (omega (arith, low, past)) in
    let gate : x.gate ≡ Buf name.reads = same_gate (gate_is x) (ap (gate_of d) (sym past) ∙ name.buffers) in
    let reads : name.reads ≡ d.net.inputs + j = sym (shown_is d s name) ∙ shown in (
      record {
        j = m;
        i = 0;
        def = x.def;
        here = x.here;
        at = ap (λ (xs : List ℕ). slice_get xs 0) (x.computes.named ∙ ap operands_of gate)
            ∙ ap (λ (n : ℕ). Some n) reads;
      },
      past,
    )

-- so no two outputs show one buffer
pub one_output : {d : CellView} {levels : List ℕ} {last : ℕ} → AreCells d levels last → (i k s t j : ℕ)
    → slice_get d.net.outputs i ≡ Some s → slice_get d.net.outputs k ≡ Some t → shown_by d s ≡ d.net.inputs + j
    → shown_by d t ≡ d.net.inputs + j → i ≡ k
one_output {d} known i k s t j p q first second =
    let shown = shown_of known i s p in
    let a = shown_use known i s p j first in
    let b = shown_use known k t q j second in
    let once : uses d (d.net.inputs + j) ≡ 1 = ap (uses d) (sym first ∙ shown.shown) ∙ shown.once in
    let same : s ≡ t =
    a.1 ∙ ap (λ (m : ℕ). d.net.inputs + m) (one_user d.net.defs (d.net.inputs + j) once a.0 b.0) ∙ sym b.1 in
    count_once s d.net.outputs (name_is d s shown.output_name).once i k p (q ∙ ap (λ (n : ℕ). Some n) (sym same))

-- the output that a signal is told to be

pub record IsOutput (d : CellView) (s k : ℕ) : Type 0 where
  pub output : ℕ
  pub here : slice_get d.net.outputs k ≡ Some output
  pub shown : shown_by d output ≡ s

pub output_is : (d : CellView) (s k : ℕ) → output_of d s ≡ Some k → IsOutput d s k
output_is d s k e =
    let is = position-Some (λ o. eqb (shown_by d o) s) d.net.outputs k 0 e in
    record {
      output = get_or d.net.outputs k 0;
      here = slice_get-get_or d.net.outputs k 0 is.0;
      shown = eqb-true (shown_by d (get_or d.net.outputs k 0)) s is.1;
    }

-- where an output shows it, one is told
pub output_some : (d : CellView) (s k o : ℕ) → slice_get d.net.outputs k ≡ Some o → shown_by d o ≡ s
    → (m : ℕ) × (output_of d s ≡ Some m)
output_some d s k o at shown =
    let p = λ (o : ℕ). eqb (shown_by d o) s in
    let m = position_or_len p d.net.outputs in
    let within = slice_get_within d.net.outputs k o at in
    let passes : p (get_or d.net.outputs k 0) ≡ true =
    ap p (get_or_from_slice_get d.net.outputs k o 0 at) ∙ eq-eqb (shown_by d o) s shown in
    elim (cases_lt k m) [
      | inl lt ↦
          absurd (let h : true ≡ false = sym passes ∙ fails_before_first p d.net.outputs k 0 lt in cc)
      | inr le ↦ (
        m,
        cond-true (nat_lt m (length d.net.outputs)) (Some m) None
            (lt-ltb m (length d.net.outputs) (omega (arith, le, within))),
      )
    ]

pub output_told : {d : CellView} {levels : List ℕ} {last : ℕ} → AreCells d levels last → (j k o : ℕ)
    → slice_get d.net.outputs k ≡ Some o → shown_by d o ≡ d.net.inputs + j → output_of d (d.net.inputs + j) ≡ Some k
output_told {d} known j k o at shown =
    let some = output_some d (d.net.inputs + j) k o at shown in
    let is = output_is d (d.net.inputs + j) some.0 some.1 in
    some.1 ∙ ap (λ (n : ℕ). Some n) (one_output known some.0 k is.output o j is.here at is.shown shown)

pub each_output : {d : CellView} {levels : List ℕ} {last : ℕ} → AreCells d levels last → (i : ℕ)
    → i < length d.net.outputs
    → ExactlyOne (λ c. output_at (cell_at (rows_of d levels last).rows last c) ≡ Some i)
each_output {d} {levels} {last} known i lt =
    let output = some_at d.net.outputs i lt in
    let shown = shown_of known i output.0 output.1 in
    let x = defined known shown.j shown.cell.below in
    record {
      which = place_of d levels shown.j;
      there =
          subst (λ (r : ℕ). output_at (cell_at (rows_of d levels last).rows r (place_of d levels shown.j)) ≡ Some i)
          shown.level
          (ap output_at (cell_there known shown.j shown.cell ∙ ap (λ (c : RowCell). Some c) (cell_is levels x))
          ∙ output_told known shown.j i output.0 output.1 shown.shown);
      only = λ c shows.
          let there = some_output (cell_at (rows_of d levels last).rows last c) i shows in
          let at = at_cell known last c there.0 there.1 in
          let y = defined known at.j at.is_cell.below in
          let is = output_is d (d.net.inputs + at.j) i
          (ap (λ (c : RowCell). c.output) (sym (at.cell_is ∙ cell_is levels y)) ∙ there.2) in
          let one : output.0 ≡ is.output = same_Some output.0 is.output (sym output.1 ∙ is.here) in
          let same : d.net.inputs + shown.j ≡ d.net.inputs + at.j =
          sym shown.shown ∙ ap (shown_by d) one ∙ is.shown in
          at.place ∙ ap (place_of d levels) (omega (arith, same));
    }
  where
    some_output : (o : Option RowCell) (i : ℕ) → output_at o ≡ Some i
        → (cell : RowCell) × (o ≡ Some cell) × (cell.output ≡ Some i)
    some_output None i e = absurd (none-some i e)
    some_output (Some cell) i e = (cell, refl, e)
