-- The rows of a netlist of cells are a net in rows.
use Rattle.std.proofs.Common.{◌≡◌, ℕ, zero, suc, ◌+◌, ◌-◌, ◌<◌, ◌≤◌, ◌^◌, Bool, true, false, cond, List, [], ◌∷◌}
use Rattle.std.proofs.Common.{length, Option, Some, None, refl, ap, sym, ◌∙◌, subst, arith, inl, inr}
use Rattle.std.specs.Prelude.{pred, slice_get, slice_index, eqb, ltb, is_some, option_map}
use Rattle.std.proofs.lemmas.Bool.{cases_eq, cases_lt, cond-true, cond-false, eq-eqb, eqb-true, lt-ltb, le-ltb}
use Rattle.std.proofs.lemmas.Bool.{ltb-true}
use Rattle.std.proofs.lemmas.Bool.{ltb-false}
use Rattle.std.proofs.lemmas.List.{length-map}
use Rattle.std.proofs.lemmas.Bool.Decides.{eqb_tells}
use Rattle.std.proofs.lemmas.Option.{slice_get_within, same_Some, none-some}
use Rattle.circuit.specs.declared.gate.Gate.{Gate}
use Rattle.circuit.specs.declared.gate.Gate.TheVariants.{Input, Zero, One, Buf, Inv, Maj}
use Rattle.circuit.specs.declared.cell_kind.CellKind.{CellKind}
use Rattle.circuit.specs.declared.cell_kind.CellKind.TheVariants as kinds
use Rattle.rowed.specs.declared.source.Source.{Source}
use Rattle.rowed.specs.declared.row_cell.RowCell.{RowCell}
use Rattle.rowed.specs.RowCells.{source_at}
use Rattle.rowed.specs.RowNets.{row_at, cell_at, fed_at, pins_at, MayStand, EachFeedsOne, last_of, IsRowNet}
use Rattle.rowed.specs.RowNets.{output_at, ExactlyOne}
use Rattle.rowed.specs.RowNets.{is_input as shows_input}
use Rattle.cell_netlist.specs.Kinds.{operands_of, IsCellGate}
use Rattle.cell_netlist.specs.Uses.{CellView, uses, is_input, is_buffer, gate_of}
use Rattle.cell_rows.specs.Laws.{AreCells}
use Rattle.cell_rows.specs.Members.{members, place_of, uses_before}
use Rattle.cell_rows.specs.CellRows.{kind_giving, source_of, kind_of, fed_by, input_of, output_of, cell_of, row_cell}
use Rattle.cell_rows.specs.CellRows.{row_of, rows_of}
use Rattle.cell_rows.proofs.Listed.{listed_long}
use Rattle.cell_rows.proofs.Counted.{before_more}
use Rattle.cell_rows.proofs.Defined.{Defined, defined, gate_is, past_inputs, reads_input, reads_cell, IsCell}
use Rattle.cell_rows.proofs.Defined.{output_level, same_gate}
use Rattle.cell_rows.proofs.Rows.{last_shows, shown_of, row_some, row_few, rows_few}
use Rattle.cell_rows.proofs.Standing.{row_there, row_past, cell_is, at_cell, same_cell, reads_buffer}
use Rattle.cell_rows.proofs.Standing.{Fed, fed_is}
use Rattle.cell_rows.proofs.Standing.{source_is, Below, below_pin}
use Rattle.cell_rows.proofs.Ends.{buffer_gate, input_below, each_input, output_is, output_some, each_output}

-- a cell has as many pins that are fed as its kind says; a buffer of an input has none, and stands in the first row

record HasPins (d : CellView) (r n : ℕ) (g : Gate) : Type 0 where
  fed : length (fed_by d g) ≡ pins_at r (kind_of n g)
  input : is_some (input_of d g) ≡ shows_input r (kind_of n g)

-- of a gate that is no buffer
plain_pins : (d : CellView) (r n : ℕ) (g : Gate) → is_buffer (Some g) ≡ false → IsCellGate g → HasPins d r n g
plain_pins d r n (Input i) e cell = absurd cell
plain_pins d r n (Buf x) e cell = absurd (cc)
plain_pins d zero n Zero e cell = record { fed = refl; input = refl }
plain_pins d zero n One e cell = record { fed = refl; input = refl }
plain_pins d zero n (Inv x) e cell = record { fed = refl; input = refl }
plain_pins d zero n (Maj x y z) e cell = record { fed = refl; input = refl }
plain_pins d (suc r) n Zero e cell = record { fed = refl; input = refl }
plain_pins d (suc r) n One e cell = record { fed = refl; input = refl }
plain_pins d (suc r) n (Inv x) e cell = record { fed = refl; input = refl }
plain_pins d (suc r) n (Maj x y z) e cell = record { fed = refl; input = refl }

giving_pins : (r n : ℕ) → 1 ≡ pins_at (suc r) (kind_giving n)
giving_pins r n = by (eqb n 2) (eqb n 3)
  where
    by : (a b : Bool) → 1 ≡ pins_at (suc r) (cond a kinds.Split2 (cond b kinds.Split3 kinds.Buffer))
    by true b = refl
    by false true = refl
    by false false = refl

-- a buffer with one use at most is no splitter
pub giving_one : (n : ℕ) → n ≤ 1 → kind_giving n ≡ kinds.Buffer
giving_one zero le = refl
giving_one (suc zero) le = refl
giving_one (suc (suc n)) le = absurd (omega (arith, le))

-- of a buffer of an input, and of another buffer
input_pins : (d : CellView) (r n x : ℕ) → is_input d x ≡ true → r ≡ 0 → n ≤ 1 → HasPins d r n (Buf x)
input_pins d r n x e flat few =
    let kind : kind_of n (Buf x) ≡ kinds.Buffer = giving_one n few in
    record {
      fed =
          ap length (cond-true (is_input d x) [] (x ∷ []) e)
          ∙ ap (λ (k : CellKind). pins_at 0 k) (sym kind) ∙ ap (λ (r : ℕ). pins_at r (kind_of n (Buf x))) (sym flat);
      input =
          ap is_some (cond-true (is_input d x) (Some x) None e)
          ∙ ap (λ (k : CellKind). shows_input 0 k) (sym kind)
          ∙ ap (λ (r : ℕ). shows_input r (kind_of n (Buf x))) (sym flat);
    }

buffer_pins : (d : CellView) (r n x k : ℕ) → is_input d x ≡ false → r ≡ suc k → HasPins d r n (Buf x)
buffer_pins d r n x k e up = record {
  fed =
      ap length (cond-false (is_input d x) [] (x ∷ []) e)
      ∙ giving_pins k n ∙ ap (λ (r : ℕ). pins_at r (kind_of n (Buf x))) (sym up);
  input =
      ap is_some (cond-false (is_input d x) (Some x) None e)
      ∙ ap (λ (r : ℕ). shows_input r (kind_of n (Buf x))) (sym up);
}

has_pins : {d : CellView} {levels : List ℕ} {last : ℕ} → AreCells d levels last → (j : ℕ) → IsCell d j
    → (x : Defined d j) → HasPins d (slice_index levels j) (uses d (d.net.inputs + j)) x.gate
has_pins {d} {levels} {last} known j cell x = by (is_buffer (Some x.gate)) refl
  where
    first : (s : ℕ) → x.gate ≡ Buf s → slice_get x.def.inputs 0 ≡ Some s
    first s e = ap (λ (xs : List ℕ). slice_get xs 0) (x.computes.named ∙ ap operands_of e)

    buffer : (s : ℕ) → x.gate ≡ Buf s → (b : Bool) → is_input d s ≡ b
        → HasPins d (slice_index levels j) (uses d (d.net.inputs + j)) (Buf s)
    buffer s e true t =
        input_pins d (slice_index levels j) (uses d (d.net.inputs + j)) s t
        (reads_input known x cell.no_name 0 s (first s e) t) (reads_buffer x 0 s (first s e) t).1
    buffer s e false t =
        let past = past_inputs d s t in
        buffer_pins d (slice_index levels j) (uses d (d.net.inputs + j)) s (slice_index levels (s - d.net.inputs)) t
        (reads_cell known x cell.no_name 0 s (first s e) (s - d.net.inputs) past)

    by : (b : Bool) → is_buffer (Some x.gate) ≡ b
        → HasPins d (slice_index levels j) (uses d (d.net.inputs + j)) x.gate
    by true e =
        let gate = buffer_gate x.gate e in
        subst (HasPins d (slice_index levels j) (uses d (d.net.inputs + j))) (sym gate.1)
        (buffer gate.0 gate.1 (is_input d gate.0) refl)
    by false e = plain_pins d (slice_index levels j) (uses d (d.net.inputs + j)) x.gate e x.computes.cell

-- an element is there below the length, and nowhere else
some_below : {A : Type 0} (f : ℕ → A) (xs : List ℕ) (i : ℕ)
    → is_some (option_map f (slice_get xs i)) ≡ ltb i (length xs)
some_below f [] i = sym (le-ltb i 0 (omega arith))
some_below f (x ∷ xs) zero = sym (lt-ltb 0 (length (x ∷ xs)) (omega arith))
some_below f (x ∷ xs) (suc i) = some_below f xs i ∙ next (ltb i (length xs)) refl
  where
    next : (b : Bool) → ltb i (length xs) ≡ b → ltb i (length xs) ≡ ltb (suc i) (length (x ∷ xs))
    next true e =
        let lt = ltb-true i (length xs) e in e ∙ sym (lt-ltb (suc i) (length (x ∷ xs)) (omega (arith, lt)))
    next false e =
        let le = ltb-false i (length xs) e in e ∙ sym (le-ltb (suc i) (length (x ∷ xs)) (omega (arith, le)))

-- the cells of the last row show outputs, and no others do

shows_output : {d : CellView} {levels : List ℕ} {last : ℕ} → AreCells d levels last → (j : ℕ) → IsCell d j
    → is_some (output_of d (d.net.inputs + j)) ≡ eqb (slice_index levels j) last
shows_output {d} {levels} {last} known j cell = elim (eqb_tells (slice_index levels j) last) [
  | inl p ↦
      let shows = last_shows known j cell p.1 in
      let some = output_some d (d.net.inputs + j) shows.k shows.output shows.here shows.shown in
      ap is_some some.1 ∙ sym p.0
  | inr p ↦ by (output_of d (d.net.inputs + j)) refl p.0 p.1
]
  where
    by : (o : Option ℕ) → output_of d (d.net.inputs + j) ≡ o → eqb (slice_index levels j) last ≡ false
        → (slice_index levels j ≡ last → ⊥)
        → is_some (output_of d (d.net.inputs + j)) ≡ eqb (slice_index levels j) last
    by None e other ne = ap is_some e ∙ sym other
    by (Some k) e other ne =
        let is = output_is d (d.net.inputs + j) k e in
        absurd (ne (output_level known k is.output j is.here is.shown))

last_kind : {d : CellView} {levels : List ℕ} {last : ℕ} → AreCells d levels last → (j : ℕ) → IsCell d j
    → (x : Defined d j) → slice_index levels j ≡ last
    → kind_of (uses d (d.net.inputs + j)) x.gate ≡ kinds.Buffer
last_kind {d} known j cell x is =
    let shows = last_shows known j cell is in
    let shown = shown_of known shows.k shows.output shows.here in
    let same : d.net.inputs + shown.j ≡ d.net.inputs + j = sym shown.shown ∙ shows.shown in
    let gate : x.gate ≡ Buf shown.reads = same_gate (gate_is x) (ap (gate_of d) (sym same) ∙ shown.buffers) in
    let once : uses d (d.net.inputs + j) ≡ 1 = ap (uses d) (sym same) ∙ shown.once in
    ap (kind_of (uses d (d.net.inputs + j))) gate ∙ giving_one (uses d (d.net.inputs + j)) (omega (arith, once))

-- so each cell may stand where it does

may_stand : {d : CellView} {levels : List ℕ} {last : ℕ} → AreCells d levels last → (j : ℕ) → (cell : IsCell d j)
    → (x : Defined d j) → MayStand (rows_of d levels last) (slice_index levels j) (cell_of d levels j x.gate)
may_stand {d} {levels} {last} known j cell x =
    let long = listed_long (row_of d levels) (suc last) in
    let pins = has_pins known j cell x in
    record {
      fed = λ i.
          ap is_some (source_is d levels j x.gate i) ∙ some_below (source_of d levels j) (fed_by d x.gate) i
          ∙ ap (ltb i) pins.fed;
      before = λ i s at. (below_pin known j cell x i s (fed_is x i s at)).before;
      input = pins.input;
      input_below = λ i e. input_below d x.gate i e;
      output =
          shows_output known j cell ∙ same_test (slice_index levels j) last
          ∙ ap (λ (n : ℕ). eqb (suc (slice_index levels j)) n) (sym long);
      output_below = λ k e.
          let is = output_is d (d.net.inputs + j) k e in slice_get_within d.net.outputs k is.output is.here;
      last_kind = λ e. last_kind known j cell x (omega (arith, e, long));
    }
  where
    same_test : (a b : ℕ) → eqb a b ≡ eqb (suc a) (suc b)
    same_test a b = elim (eqb_tells a b) [
      | inl p ↦ p.0 ∙ sym (eq-eqb (suc a) (suc b) (ap suc p.1))
      | inr p ↦ p.0 ∙ sym (by (eqb (suc a) (suc b)) refl p.1)
    ]
      where
        by : (b' : Bool) → eqb (suc a) (suc b) ≡ b' → (a ≡ b → ⊥) → eqb (suc a) (suc b) ≡ false
        by false e ne = e
        by true e ne = let same = eqb-true (suc a) (suc b) e in absurd (ne (omega (arith, same)))

-- no output feeds two pins

distinct_pins : (g : Gate) → IsCellGate g → (i k s : ℕ) → slice_get (operands_of g) i ≡ Some s
    → slice_get (operands_of g) k ≡ Some s → i ≡ k
distinct_pins (Input x) cell i k s p q = absurd cell
distinct_pins Zero cell i k s p q = absurd (none-some s p)
distinct_pins One cell i k s p q = absurd (none-some s p)
distinct_pins (Buf x) cell zero zero s p q = refl
distinct_pins (Buf x) cell zero (suc k) s p q = absurd (none-some s q)
distinct_pins (Buf x) cell (suc i) k s p q = absurd (none-some s p)
distinct_pins (Inv x) cell zero zero s p q = refl
distinct_pins (Inv x) cell zero (suc k) s p q = absurd (none-some s q)
distinct_pins (Inv x) cell (suc i) k s p q = absurd (none-some s p)
distinct_pins (Maj x y z) cell zero zero s p q = refl
distinct_pins (Maj x y z) cell zero (suc zero) s p q = absurd (cell.0 (same_Some x y (p ∙ sym q)))
distinct_pins (Maj x y z) cell zero (suc (suc zero)) s p q = absurd (cell.1 (same_Some x z (p ∙ sym q)))
distinct_pins (Maj x y z) cell (suc zero) zero s p q = absurd (cell.0 (same_Some x y (q ∙ sym p)))
distinct_pins (Maj x y z) cell (suc zero) (suc zero) s p q = refl
distinct_pins (Maj x y z) cell (suc zero) (suc (suc zero)) s p q = absurd (cell.2 (same_Some y z (p ∙ sym q)))
distinct_pins (Maj x y z) cell (suc (suc zero)) zero s p q = absurd (cell.1 (same_Some x z (q ∙ sym p)))
distinct_pins (Maj x y z) cell (suc (suc zero)) (suc zero) s p q = absurd (cell.2 (same_Some y z (q ∙ sym p)))
distinct_pins (Maj x y z) cell (suc (suc zero)) (suc (suc zero)) s p q = refl
distinct_pins (Maj x y z) cell (suc (suc (suc i))) k s p q = absurd (none-some s p)
distinct_pins (Maj x y z) cell i (suc (suc (suc k))) s p q = absurd (none-some s q)

record Pin (d : CellView) (levels : List ℕ) (last r c i : ℕ) (s : Source) : Type 0 where
  j : ℕ
  is_cell : IsCell d j
  x : Defined d j
  level : slice_index levels j ≡ r
  place : c ≡ place_of d levels j
  fed : Fed d levels j x i s
  below : Below d levels last r s fed.signal

pin_of : {d : CellView} {levels : List ℕ} {last : ℕ} → AreCells d levels last → (r c i : ℕ) (s : Source)
    → fed_at (cell_at (rows_of d levels last).rows r c) i ≡ Some s → Pin d levels last r c i s
pin_of {d} {levels} {last} known r c i s e =
    let there = some_cell (cell_at (rows_of d levels last).rows r c) e in
    let at = at_cell known r c there.0 there.1 in
    let x = defined known at.j at.is_cell.below in
    let fed = fed_is x i s (ap (λ (c : RowCell). source_at c i) (sym (at.cell_is ∙ cell_is levels x)) ∙ there.2) in
    record {
      j = at.j;
      is_cell = at.is_cell;
      x = x;
      level = at.level;
      place = at.place;
      fed = fed;
      below =
          subst (λ (r : ℕ). Below d levels last r s fed.signal) at.level (below_pin known at.j at.is_cell x i s fed);
    }
  where
    some_cell : (o : Option RowCell) → fed_at o i ≡ Some s
        → (cell : RowCell) × (o ≡ Some cell) × (source_at cell i ≡ Some s)
    some_cell None e = absurd (none-some s e)
    some_cell (Some cell) e = (cell, refl, e)

-- two definitions whose pins have one source are one
same_user : {d : CellView} (j k i m s : ℕ) → (x : Defined d j) → (y : Defined d k)
    → slice_get x.def.inputs i ≡ Some s → slice_get y.def.inputs m ≡ Some s → uses_before d j s ≡ uses_before d k s
    → j ≡ k
same_user {d} j k i m s x y p q e = elim (cases_eq j k) [
  | inl same ↦ same
  | inr ne ↦ elim (cases_lt j k) [
    | inl lt ↦ let more = before_more d.net.defs s j i k x.def x.here p lt in absurd (omega (arith, more, e))
    | inr le ↦
        let more = before_more d.net.defs s k m j y.def y.here q (omega (arith, le, ne)) in
        absurd (omega (arith, more, e))
  ]
]

feeds_one : {d : CellView} {levels : List ℕ} {last : ℕ} → AreCells d levels last
    → EachFeedsOne (rows_of d levels last).rows
feeds_one {d} {levels} {last} known r c e i m s p q =
    let a = pin_of known r c i s p in
    let b = pin_of known r e m s q in
    let source : source_of d levels a.j a.fed.signal ≡ source_of d levels b.j b.fed.signal = sym a.fed.is ∙ b.fed.is in
    let level : slice_index levels a.below.k ≡ slice_index levels b.below.k =
    (let up = a.below.level in let high = b.below.level in omega (arith, up, high)) in
    let lower : a.below.k ≡ b.below.k =
    same_cell levels a.below.k b.below.k a.below.is_cell b.below.is_cell level
    (ap (λ (n : ℕ). place_of d levels n) (let u = a.below.signal_is in omega (arith, u))
    ∙ ap (λ (t : Source). t.cell) source
    ∙ ap (λ (n : ℕ). place_of d levels n) (let u = b.below.signal_is in omega (arith, u))) in
    let signal : b.fed.signal ≡ a.fed.signal =
    b.below.signal_is ∙ ap (λ (n : ℕ). d.net.inputs + n) (sym lower) ∙ sym a.below.signal_is in
    let at : slice_get b.x.def.inputs m ≡ Some a.fed.signal = b.fed.at ∙ ap (λ (n : ℕ). Some n) signal in
    let before : uses_before d a.j a.fed.signal ≡ uses_before d b.j a.fed.signal =
    ap (λ (t : Source). t.output) source ∙ ap (uses_before d b.j) signal in
    let user = same_user a.j b.j i m a.fed.signal a.x b.x a.fed.at at before in (
      a.place ∙ ap (place_of d levels) user ∙ sym b.place,
      one_pin a.j b.j user a.x b.x i m a.fed.signal a.fed.at at,
    )
  where
    one_pin : (j k : ℕ) → j ≡ k → (x : Defined d j) → (y : Defined d k) → (i m s : ℕ)
        → slice_get x.def.inputs i ≡ Some s → slice_get y.def.inputs m ≡ Some s → i ≡ m
    one_pin j k e x y i m s p q =
        let gate : y.gate ≡ x.gate =
        same_Some y.gate x.gate
        (same_Some (Some y.gate) (Some x.gate) (sym y.there ∙ ap (slice_get d.gates) (sym e) ∙ x.there)) in
        distinct_pins x.gate x.computes.cell i m s
        (ap (λ (xs : List ℕ). slice_get xs i) (sym x.computes.named) ∙ p)
        (ap (λ (xs : List ℕ). slice_get xs m) (sym (y.computes.named ∙ ap operands_of gate)) ∙ q)

-- the rows are a net

pub defs_few : {d : CellView} {levels : List ℕ} {last : ℕ} → AreCells d levels last → length d.net.defs < 2 ^ 28
defs_few known =
    let small = known.net_keeps.small in let count = known.net_keeps.count in omega (arith, small, count)

pub row_long : (d : CellView) (levels : List ℕ) (last r : ℕ) → r ≤ last
    → length (row_at (rows_of d levels last).rows r) ≡ length (members d levels r)
row_long d levels last r le =
    ap length (row_there d levels last r le) ∙ length-map (members d levels r) (row_cell d levels)

pub row_net : {d : CellView} {levels : List ℕ} {last : ℕ} → AreCells d levels last → IsRowNet (rows_of d levels last)
row_net {d} {levels} {last} known =
    let long = listed_long (row_of d levels) (suc last) in
    let some = known.cells.levels.some_rows in
    let few = rows_few known in
    let small = defs_few known in
    record {
      two_rows = omega (arith, long, some);
      none_empty = λ r lt.
          let le : r ≤ last = omega (arith, long, lt) in
          let here = row_some known r le in
          let size = row_long d levels last r le in
          omega (arith, here, size);
      stands = λ r c cell e.
          let at = at_cell known r c cell e in
          let x = defined known at.j at.is_cell.below in
          subst (λ (r : ℕ). MayStand (rows_of d levels last) r cell) at.level
          (subst (MayStand (rows_of d levels last) (slice_index levels at.j)) (sym (at.cell_is ∙ cell_is levels x))
          (may_stand known at.j at.is_cell x));
      feeds_one = feeds_one known;
      each_input = each_input known;
      each_output =
          subst (λ (r : ℕ). (i : ℕ) → i < length d.net.outputs
          → ExactlyOne (λ c. output_at (cell_at (rows_of d levels last).rows r c) ≡ Some i))
          (let e : last ≡ last_of (rows_of d levels last).rows = ap pred (sym long) in e) (each_output known);
      few_rows = omega (arith, long, few, small);
      few_cells = λ r. elim (cases_lt last r) [
        | inl past ↦
            let none = ap length (row_past d levels last r past) in omega (arith, none)
        | inr le ↦
            let size = row_long d levels last r le in
            let most = row_few d levels r in
            omega (arith, size, most, small)
      ];
    }
