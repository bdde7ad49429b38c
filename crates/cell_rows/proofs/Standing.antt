-- Where each cell stands, and what feeds it.
use Rattle.std.proofs.Common.{◌≡◌, ℕ, zero, suc, ◌+◌, ◌-◌, ◌<◌, ◌≤◌, Bool, true, false, cond, not, List, [], ◌∷◌}
use Rattle.std.proofs.Common.{length, Option, Some, None, refl, ap, sym, ◌∙◌, subst, arith, inl, inr}
use Rattle.std.specs.Prelude.{◌&&◌, ◌||◌, slice_get, slice_index, nat_le, eqb}
use Rattle.std.specs.Prelude.{option_map}
use Rattle.std.specs.List.{list_any}
use Rattle.std.proofs.lemmas.Bool.{cases_lt, and_parts, eqb-true}
use Rattle.std.proofs.lemmas.Bool.{leb-true}
use Rattle.std.proofs.lemmas.Option.{same_Some, none-some, slice_get-map, slice_get_past}
use Rattle.std.proofs.lemmas.List.{get_or_past}
use Rattle.std.proofs.lemmas.Map.Keys.{any_passes_from_place}
use Rattle.circuit.specs.declared.gate.Gate.{Gate}
use Rattle.circuit.specs.declared.gate.Gate.TheVariants.{Input, Zero, One, Buf, Inv, Maj}
use Rattle.circuit.specs.CellKinds.{outputs_of}
use Rattle.rowed.specs.declared.source.Source.{Source}
use Rattle.rowed.specs.declared.row_cell.RowCell.{RowCell}
use Rattle.rowed.specs.RowCells.{source_at}
use Rattle.rowed.specs.RowNets.{row_at, cell_at, outputs_at, IsBefore}
use Rattle.cell_netlist.specs.Kinds.{operands_of}
use Rattle.cell_netlist.specs.Uses.{CellView, uses, is_input, is_buffer, may_have}
use Rattle.cell_rows.specs.Laws.{AreCells}
use Rattle.cell_rows.specs.Members.{passing_below, listed, stands_in, members, place_of, uses_before}
use Rattle.cell_rows.specs.CellRows.{source_of, kind_of, fed_by, cell_of, cell_by}
use Rattle.cell_rows.specs.CellRows.{row_cell}
use Rattle.cell_rows.specs.CellRows.{row_of, rows_of}
use Rattle.cell_rows.proofs.Listed.{listed_long, listed_read, passing_at, passing_is}
use Rattle.cell_rows.proofs.Counted.{before_all}
use Rattle.cell_rows.proofs.Defined.{Defined, defined, gate_is, past_inputs, may_be_used, reads_cell}
use Rattle.cell_rows.proofs.Defined.{IsCell}
use Rattle.cell_rows.proofs.Defined.{names_cell}
use Rattle.cell_rows.proofs.Rows.{level_low, stands, standing}

-- the rows by number

pub row_there : (d : CellView) (levels : List ℕ) (last r : ℕ) → r ≤ last
    → row_at (rows_of d levels last).rows r ≡ row_of d levels r
row_there d levels last r le = listed_read (row_of d levels) (suc last) r [] (omega (arith, le))

pub row_past : (d : CellView) (levels : List ℕ) (last r : ℕ) → last < r → row_at (rows_of d levels last).rows r ≡ []
row_past d levels last r lt =
    let long = listed_long (row_of d levels) (suc last) in
    get_or_past (listed (row_of d levels) (suc last)) r [] (omega (arith, long, lt))

-- a cell stands at the place of its definition

pub cell_is : {d : CellView} (levels : List ℕ) {j : ℕ} → (x : Defined d j)
    → row_cell d levels j ≡ cell_of d levels j x.gate
cell_is {d} levels {j} x = ap (cell_by d levels j) (gate_is x)

pub cell_there : {d : CellView} {levels : List ℕ} {last : ℕ} → AreCells d levels last → (j : ℕ) → IsCell d j
    → cell_at (rows_of d levels last).rows (slice_index levels j) (place_of d levels j) ≡ Some (row_cell d levels j)
cell_there {d} {levels} {last} known j cell =
    let r = slice_index levels j in
    ap (λ (row : List RowCell). slice_get row (place_of d levels j))
    (row_there d levels last r (level_low known j cell))
    ∙ slice_get-map (row_cell d levels) (members d levels r) (place_of d levels j)
    ∙ ap (option_map (row_cell d levels))
    (passing_at (stands_in d levels r) (length d.net.defs) j cell.below (stands levels cell refl))

-- and each cell of the rows is that of a definition

pub record At (d : CellView) (levels : List ℕ) (last r c : ℕ) (cell : RowCell) : Type 0 where
  pub j : ℕ
  pub is_cell : IsCell d j
  pub level : slice_index levels j ≡ r
  pub place : c ≡ place_of d levels j
  pub within : r ≤ last
  pub cell_is : cell ≡ row_cell d levels j

mapped : {A B : Type 0} (f : A → B) (o : Option A) (y : B) → option_map f o ≡ Some y
    → (x : A) × (o ≡ Some x) × (f x ≡ y)
mapped f None y e = absurd (none-some y e)
mapped f (Some x) y e = (x, refl, same_Some (f x) y e)

pub at_cell : {d : CellView} {levels : List ℕ} {last : ℕ} → AreCells d levels last → (r c : ℕ) (cell : RowCell)
    → cell_at (rows_of d levels last).rows r c ≡ Some cell → At d levels last r c cell
at_cell {d} {levels} {last} known r c cell at = elim (cases_lt last r) [
  | inl past ↦ absurd (none-some cell
      (ap (λ (row : List RowCell). slice_get row c) (sym (row_past d levels last r past)) ∙ at))
  | inr le ↦
      let row = ap (λ (row : List RowCell). slice_get row c) (sym (row_there d levels last r le)) ∙ at in
      let one = mapped (row_cell d levels) (slice_get (members d levels r) c) cell
      (sym (slice_get-map (row_cell d levels) (members d levels r) c) ∙ row) in
      let is = passing_is (stands_in d levels r) (length d.net.defs) c one.0 one.1 in
      let here = standing d levels r one.0 is.passes in
      record {
        j = one.0;
        is_cell = record { below = is.below; no_name = here.no_name };
        level = here.level;
        place = is.place ∙ ap (λ (n : ℕ). length (passing_below (stands_in d levels n) one.0)) (sym here.level);
        within = le;
        cell_is = sym one.2;
      }
]

-- two cells at one place of a row are one

pub same_cell : {d : CellView} (levels : List ℕ) (j k : ℕ) → IsCell d j → IsCell d k
    → slice_index levels j ≡ slice_index levels k → place_of d levels j ≡ place_of d levels k → j ≡ k
same_cell {d} levels j k a b level place =
    let r = slice_index levels k in
    let n = length d.net.defs in
    let first = passing_at (stands_in d levels r) n j a.below (stands levels a level) in
    let second = passing_at (stands_in d levels r) n k b.below (stands levels b refl) in
    let here : length (passing_below (stands_in d levels r) j) ≡ length (passing_below (stands_in d levels r) k) =
    ap (λ (m : ℕ). length (passing_below (stands_in d levels m) j)) (sym level) ∙ place in
    same_Some j k (sym first ∙ ap (slice_get (members d levels r)) here ∙ second)

-- what a gate that is fed well reads

not_any : (p : ℕ → Bool) (xs : List ℕ) (i s : ℕ) → not (list_any p xs) ≡ true → slice_get xs i ≡ Some s → p s ≡ false
not_any p [] i s e at = absurd (none-some s at)
not_any p (x ∷ xs) i s e at = by (p x) refl i at (λ i e at. not_any p xs i s e at)
  where
    by : (b : Bool) → p x ≡ b → (i : ℕ) → slice_get (x ∷ xs) i ≡ Some s
        → ((i : ℕ) → not (list_any p xs) ≡ true → slice_get xs i ≡ Some s → p s ≡ false) → p s ≡ false
    by true t i at rest = absurd (let h : false ≡ true = ap (λ (b : Bool). not (b || list_any p xs)) (sym t) ∙ e in cc)
    by false t zero at rest = ap p (sym (same_Some x s at)) ∙ t
    by false t (suc i) at rest = rest i (ap (λ (b : Bool). not (b || list_any p xs)) (sym t) ∙ e) at

-- a gate that is no buffer reads no input
pub reads_none : {d : CellView} {j : ℕ} → (x : Defined d j) → is_buffer (Some x.gate) ≡ false → (i s : ℕ)
    → slice_get x.def.inputs i ≡ Some s → is_input d s ≡ false
reads_none {d} {j} x other i s at =
    not_any (is_input d) x.def.inputs i s
    (ap (λ (b : Bool). (b && nat_le (uses d (d.net.inputs + j)) 1) || not (list_any (is_input d) x.def.inputs))
    (sym other)
    ∙ x.fed)
    at

-- the cell that reads an input is a buffer with one use at most
pub reads_buffer : {d : CellView} {j : ℕ} → (x : Defined d j) → (i s : ℕ) → slice_get x.def.inputs i ≡ Some s
    → is_input d s ≡ true → (is_buffer (Some x.gate) ≡ true) × (uses d (d.net.inputs + j) ≤ 1)
reads_buffer {d} {j} x i s at e =
    let u = uses d (d.net.inputs + j) in
    let any = any_passes_from_place (is_input d) x.def.inputs i s at e in
    let both = and_parts (is_buffer (Some x.gate)) (nat_le u 1)
    (or_false (is_buffer (Some x.gate) && nat_le u 1) (not (list_any (is_input d) x.def.inputs)) (ap not any) x.fed) in
    (both.0, leb-true u 1 both.1)
  where
    or_false : (a b : Bool) → b ≡ false → (a || b) ≡ true → a ≡ true
    or_false true b f e = refl
    or_false false b f e = absurd (let h : false ≡ true = sym f ∙ e in cc)

-- what feeds the pins of a cell

pub record Fed (d : CellView) (levels : List ℕ) (j : ℕ) (x : Defined d j) (i : ℕ) (s : Source) : Type 0 where
  pub signal : ℕ
  pub at : slice_get x.def.inputs i ≡ Some signal
  pub past : is_input d signal ≡ false
  pub is : s ≡ source_of d levels j signal

few_fed : (d : CellView) (g : Gate) → length (fed_by d g) ≤ 3
few_fed d (Input i) = omega arith
few_fed d Zero = omega arith
few_fed d One = omega arith
few_fed d (Buf x) = by (is_input d x)
  where
    by : (b : Bool) → length (cond b [] (x ∷ [])) ≤ 3
    by true = omega arith
    by false = omega arith
few_fed d (Inv x) = omega arith
few_fed d (Maj x y z) = omega arith

-- a pin has the source of its signal
pub source_is : (d : CellView) (levels : List ℕ) (j : ℕ) (g : Gate) (i : ℕ)
    → source_at (cell_of d levels j g) i ≡ option_map (source_of d levels j) (slice_get (fed_by d g) i)
source_is d levels j g zero = slice_get-map (source_of d levels j) (fed_by d g) 0
source_is d levels j g (suc zero) = slice_get-map (source_of d levels j) (fed_by d g) 1
source_is d levels j g (suc (suc zero)) = slice_get-map (source_of d levels j) (fed_by d g) 2
source_is d levels j g (suc (suc (suc i))) =
    ap (option_map (source_of d levels j))
    (sym (slice_get_past (fed_by d g) (suc (suc (suc i))) (let few = few_fed d g in omega (arith, few))))

-- the signals that feed a cell are those that its definition names, but for an input
fed_at_all : (d : CellView) (g : Gate) (i s : ℕ) → is_buffer (Some g) ≡ false → slice_get (fed_by d g) i ≡ Some s
    → slice_get (operands_of g) i ≡ Some s
fed_at_all d (Input k) i s e at = at
fed_at_all d Zero i s e at = at
fed_at_all d One i s e at = at
fed_at_all d (Buf x) i s e at = absurd (cc)
fed_at_all d (Inv x) i s e at = at
fed_at_all d (Maj x y z) i s e at = at

fed_at_buffer : (d : CellView) (x i s : ℕ) → slice_get (fed_by d (Buf x)) i ≡ Some s
    → (slice_get (operands_of (Buf x)) i ≡ Some s) × (is_input d s ≡ false)
fed_at_buffer d x i s at = by (is_input d x) refl i at
  where
    by : (b : Bool) → is_input d x ≡ b → (i : ℕ) → slice_get (cond (is_input d x) [] (x ∷ [])) i ≡ Some s
        → (slice_get (x ∷ []) i ≡ Some s) × (is_input d s ≡ false)
    by true e i at = absurd (none-some s
        (ap (λ (b : Bool). slice_get (cond b [] (x ∷ [])) i) (sym e) ∙ at))
    by false e i at =
        let here : slice_get (x ∷ []) i ≡ Some s = ap (λ (b : Bool). slice_get (cond b [] (x ∷ [])) i) (sym e) ∙ at in
        (here, first i here)
      where
        first : (i : ℕ) → slice_get (x ∷ []) i ≡ Some s → is_input d s ≡ false
        first zero here = ap (is_input d) (sym (same_Some x s here)) ∙ e
        first (suc i) here = absurd (none-some s here)

pub fed_is : {d : CellView} {levels : List ℕ} {j : ℕ} → (x : Defined d j) (i : ℕ) (s : Source)
    → source_at (cell_of d levels j x.gate) i ≡ Some s → Fed d levels j x i s
fed_is {d} {levels} {j} x i s at =
    let one = mapped (source_of d levels j) (slice_get (fed_by d x.gate) i) s
    (sym (source_is d levels j x.gate i) ∙ at) in
    by x.gate refl one.0 one.1 (sym one.2)
  where
    named : (n : ℕ) → slice_get (operands_of x.gate) i ≡ Some n → slice_get x.def.inputs i ≡ Some n
    named n here = ap (λ (xs : List ℕ). slice_get xs i) x.computes.named ∙ here

    other : is_buffer (Some x.gate) ≡ false → (n : ℕ) → slice_get (fed_by d x.gate) i ≡ Some n
        → s ≡ source_of d levels j n → Fed d levels j x i s
    other e n here is =
        let there = named n (fed_at_all d x.gate i n e here) in
        record { signal = n; at = there; past = reads_none x e i n there; is = is }

    by : (g : Gate) → x.gate ≡ g → (n : ℕ) → slice_get (fed_by d x.gate) i ≡ Some n → s ≡ source_of d levels j n
        → Fed d levels j x i s
    by (Input k) e n here is = other (ap (λ (g : Gate). is_buffer (Some g)) e) n here is
    by Zero e n here is = other (ap (λ (g : Gate). is_buffer (Some g)) e) n here is
    by One e n here is = other (ap (λ (g : Gate). is_buffer (Some g)) e) n here is
    by (Inv k) e n here is = other (ap (λ (g : Gate). is_buffer (Some g)) e) n here is
    by (Maj a b c) e n here is = other (ap (λ (g : Gate). is_buffer (Some g)) e) n here is
    by (Buf k) e n here is =
        let both = fed_at_buffer d k i n (ap (λ (g : Gate). slice_get (fed_by d g) i) (sym e) ∙ here) in
        record {
          signal = n;
          at = named n (ap (λ (g : Gate). slice_get (operands_of g) i) e ∙ both.0);
          past = both.1;
          is = is;
        }

-- the cell below a pin: one row lower, with an output for each of its uses

not_four : (n : ℕ) (b c : Bool) → 4 ≤ n → ((nat_le 1 n && nat_le n (cond b 3 2)) || (c && eqb n 0)) ≡ true → ⊥
not_four n b c le e = by (nat_le 1 n) (nat_le n (cond b 3 2)) c (eqb n 0) refl refl e
  where
    large : (b : Bool) → n ≤ cond b 3 2 → ⊥
    large true h = omega (arith, le, h)
    large false h = omega (arith, le, h)

    by : (p q c z : Bool) → nat_le n (cond b 3 2) ≡ q → eqb n 0 ≡ z → ((p && q) || (c && z)) ≡ true → ⊥
    by p true c z h k e = large b (leb-true n (cond b 3 2) h)
    by p q c true h k e = let none = eqb-true n 0 k in omega (arith, none, le)
    by true false true false h k e = cc
    by true false false false h k e = cc
    by false false true false h k e = cc
    by false false false false h k e = cc

kind_outputs : (d : CellView) (g : Gate) (n : ℕ) → may_have d g n ≡ true → n ≤ outputs_of (kind_of n g)
kind_outputs d (Input i) n may = let one = eqb-true n 1 may in omega (arith, one)
kind_outputs d Zero n may = let one = eqb-true n 1 may in omega (arith, one)
kind_outputs d One n may = let one = eqb-true n 1 may in omega (arith, one)
kind_outputs d (Inv i) n may = let one = eqb-true n 1 may in omega (arith, one)
kind_outputs d (Maj i j k) n may = let one = eqb-true n 1 may in omega (arith, one)
kind_outputs d (Buf x) zero may = omega arith
kind_outputs d (Buf x) (suc zero) may = omega arith
kind_outputs d (Buf x) (suc (suc zero)) may = omega arith
kind_outputs d (Buf x) (suc (suc (suc zero))) may = omega arith
kind_outputs d (Buf x) (suc (suc (suc (suc n)))) may =
    absurd (not_four (suc (suc (suc (suc n)))) d.three (is_input d x) (omega arith) may)

pub record Below (d : CellView) (levels : List ℕ) (last r : ℕ) (s : Source) (signal : ℕ) : Type 0 where
  pub k : ℕ
  pub is_cell : IsCell d k
  pub signal_is : signal ≡ d.net.inputs + k
  pub level : r ≡ suc (slice_index levels k)
  pub before : IsBefore (rows_of d levels last).rows r s

pub below_pin : {d : CellView} {levels : List ℕ} {last : ℕ} → AreCells d levels last → (j : ℕ) → IsCell d j
    → (x : Defined d j) → (i : ℕ) (s : Source) → (fed : Fed d levels j x i s)
    → Below d levels last (slice_index levels j) s fed.signal
below_pin {d} {levels} {last} known j cell x i s fed =
    let k = fed.signal - d.net.inputs in
    let past = past_inputs d fed.signal fed.past in
    let here : slice_get x.def.inputs i ≡ Some (d.net.inputs + k) = fed.at ∙ ap (λ (n : ℕ). Some n) past in
    let lower = names_cell known x i k here in
    let up = reads_cell known x cell.no_name i fed.signal fed.at k past in
    let y = defined known k lower.below in
    let there = cell_there known k lower in
    let more = before_all d.net.defs (d.net.inputs + k) j i x.def x.here here in
    let most = kind_outputs d y.gate (uses d (d.net.inputs + k)) (may_be_used y lower.no_name) in
    let has : outputs_at (cell_at (rows_of d levels last).rows (slice_index levels k) (place_of d levels k))
    ≡ outputs_of (kind_of (uses d (d.net.inputs + k)) y.gate) =
    ap outputs_at (there ∙ ap (λ (c : RowCell). Some c) (cell_is levels y)) in
    let output : s.output ≡ uses_before d j (d.net.inputs + k) =
    ap (λ (t : Source). t.output) fed.is ∙ ap (uses_before d j) past in
    let place : s.cell ≡ place_of d levels k = ap (λ (t : Source). t.cell) fed.is in
    let low : s.output
    < outputs_at (cell_at (rows_of d levels last).rows (slice_index levels k) (place_of d levels k)) =
    omega (arith, more, most, has, output) in
    record {
      k = k;
      is_cell = lower;
      signal_is = past;
      level = up;
      before =
          subst (λ (r : ℕ). IsBefore (rows_of d levels last).rows r s) (sym up)
          (subst (λ (c : ℕ). s.output < outputs_at (cell_at (rows_of d levels last).rows (slice_index levels k) c))
          (sym place) low);
    }
