-- The definitions of a netlist of cells: gates, names, uses and levels.
use Rattle.std.proofs.Common.{◌≡◌, ℕ, zero, suc, ◌+◌, ◌-◌, ◌<◌, Bool, true, false, not, List, [], ◌∷◌}
use Rattle.std.proofs.Common.{length, take, Option, Some, None, refl, ap, sym, ◌∙◌, subst, arith}
use Rattle.std.specs.Prelude.{◌&&◌, ◌||◌, slice_get, slice_index, slice_index_or, nat_eq, eqb}
use Rattle.std.specs.List.{AllByRecursion, count_by, list_all}
use Rattle.std.proofs.lemmas.Bool.{cond-true, cond-false, and_parts, eqb-true}
use Rattle.std.proofs.lemmas.Bool.{ltb-false}
use Rattle.std.proofs.lemmas.Bool.{le-ltb}
use Rattle.std.proofs.lemmas.Option.{none-some, same_Some, slice_get_within, get_or_from_slice_get}
use Rattle.circuit.specs.declared.gate.Gate.{Gate}
use Rattle.circuit.specs.declared.gate.Gate.TheVariants.{Input, Zero, One, Buf, Inv, Maj}
use Rattle.blif_read.specs.declared.netlist.Def.{Def}
use Rattle.cell_netlist.specs.Kinds.{Computes, operands_of}
use Rattle.cell_netlist.specs.Uses.{CellView, named, uses, is_input, gate_of, is_name, is_buffer, is_buffer_of_buffer}
use Rattle.cell_netlist.specs.Uses.{may_have, is_used_well, shares_input}
use Rattle.cell_netlist.specs.Levels.{above, buffered, shown_by, level_in}
use Rattle.cell_netlist.specs.Faults.{is_fed_well}
use Rattle.cell_netlist.proofs.Levelled.{gate_there, here_of}
use Rattle.cell_rows.specs.Laws.{AreCells}
use Rattle.cell_rows.proofs.Counted.{count_place, before_all}

pub some_at : {A : Type 0} (xs : List A) (j : ℕ) → j < length xs → (x : A) × (slice_get xs j ≡ Some x)
some_at [] j lt = absurd (omega (arith, lt))
some_at (x ∷ xs) zero lt = (x, refl)
some_at (x ∷ xs) (suc j) lt = some_at xs j (omega (arith, lt))

pub all_get : {A : Type 0} (P : A → Type 0) (xs : List A) (i : ℕ) (x : A) → AllByRecursion P xs
    → slice_get xs i ≡ Some x → P x
all_get P [] i x all at = absurd (none-some x at)
all_get P (y ∷ xs) zero x all at = subst P (same_Some y x at) all.0
all_get P (y ∷ xs) (suc i) x all at = all_get P xs i x all.1 at

pub all_from : {A : Type 0} (P : A → Type 0) (xs : List A) → ((i : ℕ) (x : A) → slice_get xs i ≡ Some x → P x)
    → AllByRecursion P xs
all_from P [] each = tt
all_from P (x ∷ xs) each = (each 0 x refl, all_from P xs (λ i y at. each (suc i) y at))

pub list_all_get : {A : Type 0} (p : A → Bool) (xs : List A) (i : ℕ) (x : A) → list_all p xs ≡ true
    → slice_get xs i ≡ Some x → p x ≡ true
list_all_get p [] i x all at = absurd (none-some x at)
list_all_get p (y ∷ xs) zero x all at =
    ap p (sym (same_Some y x at)) ∙ (and_parts (p y) (list_all p xs) all).0
list_all_get p (y ∷ xs) (suc i) x all at =
    list_all_get p xs i x (and_parts (p y) (list_all p xs) all).1 at

-- a definition with its gate
pub record Defined (d : CellView) (j : ℕ) : Type 0 where
  pub def : Def
  pub gate : Gate
  pub here : slice_get d.net.defs j ≡ Some def
  pub there : slice_get d.gates j ≡ Some (Some gate)
  pub computes : Computes def gate
  pub used : is_used_well d j def gate ≡ true
  pub fed : is_fed_well d j def gate ≡ true

pub defined : {d : CellView} {levels : List ℕ} {last : ℕ} → AreCells d levels last → (j : ℕ)
    → j < length d.net.defs → Defined d j
defined {d} known j lt =
    let def = some_at d.net.defs j lt in
    let sound = known.cells.fed.sound.each j def.0 lt def.1 in
    record {
      def = def.0;
      gate = sound.gate;
      here = def.1;
      there = sound.there;
      computes = gate_there d.net.defs d.gates j def.0 sound.gate known.gates_are def.1 sound.there;
      used = sound.used_well;
      fed = sound.fed_well;
    }

-- signals past the inputs

pub no_input : (d : CellView) (j : ℕ) → is_input d (d.net.inputs + j) ≡ false
no_input d j = le-ltb (d.net.inputs + j) d.net.inputs (omega arith)

pub gate_past : (d : CellView) (j : ℕ) → gate_of d (d.net.inputs + j) ≡ slice_index_or d.gates j None
gate_past d j =
    cond-false (is_input d (d.net.inputs + j)) None (slice_index_or d.gates (d.net.inputs + j - d.net.inputs) None)
    (no_input d j)
    ∙ ap (λ (n : ℕ). slice_index_or d.gates n None) (let e : d.net.inputs + j - d.net.inputs ≡ j = omega arith in e)

pub gate_is : {d : CellView} {j : ℕ} → (x : Defined d j) → gate_of d (d.net.inputs + j) ≡ Some x.gate
gate_is {d} {j} x = gate_past d j ∙ get_or_from_slice_get d.gates j (Some x.gate) None x.there

pub level_past : (d : CellView) (levels : List ℕ) (j : ℕ)
    → level_in d.net.inputs levels (d.net.inputs + j) ≡ slice_index levels j
level_past d levels j =
    cond-false (is_input d (d.net.inputs + j)) 0 (slice_index levels (d.net.inputs + j - d.net.inputs)) (no_input d j)
    ∙ ap (slice_index levels) (let e : d.net.inputs + j - d.net.inputs ≡ j = omega arith in e)

-- a signal is an input, or that of a definition
pub past_inputs : (d : CellView) (s : ℕ) → is_input d s ≡ false → s ≡ d.net.inputs + (s - d.net.inputs)
past_inputs d s e = let le = ltb-false s d.net.inputs e in omega (arith, le)

-- a definition names signals alone

pub named_below : {d : CellView} {levels : List ℕ} {last : ℕ} → AreCells d levels last → (j i s : ℕ) (def : Def)
    → slice_get d.net.defs j ≡ Some def → slice_get def.inputs i ≡ Some s → s < d.net.inputs + length d.net.defs
named_below {d} known j i s def here at =
    let facts = here_of d.net j def known.net_keeps here in
    let low = facts.within i (slice_get_within def.inputs i s at) in
    let is = get_or_from_slice_get def.inputs i s 0 at in
    omega (arith, low, is)

pub output_below : {d : CellView} {levels : List ℕ} {last : ℕ} → AreCells d levels last → (k s : ℕ)
    → slice_get d.net.outputs k ≡ Some s → s < d.net.inputs + length d.net.defs
output_below {d} known k s at =
    let low = all_get (λ (s : ℕ). s < length d.net.names) d.net.outputs k s known.net_keeps.each_output at in
    let count = known.net_keeps.count in
    omega (arith, low, count)

-- names

pub record IsName (d : CellView) (s : ℕ) : Type 0 where
  pub reads : ℕ
  pub buffers : gate_of d s ≡ Some (Buf reads)
  pub of_buffer : is_buffer (gate_of d reads) ≡ true
  pub once : count_by (nat_eq s) d.net.outputs ≡ 1
  pub unused : uses d s ≡ 0

double_buffer : (d : CellView) (g : Option Gate) → is_buffer_of_buffer d g ≡ true
    → (x : ℕ) × (g ≡ Some (Buf x)) × (is_buffer (gate_of d x) ≡ true)
double_buffer d None e = absurd (cc)
double_buffer d (Some (Input i)) e = absurd (cc)
double_buffer d (Some Zero) e = absurd (cc)
double_buffer d (Some One) e = absurd (cc)
double_buffer d (Some (Inv i)) e = absurd (cc)
double_buffer d (Some (Maj i j k)) e = absurd (cc)
double_buffer d (Some (Buf x)) e = (x, refl, e)

pub name_is : (d : CellView) (s : ℕ) → is_name d s ≡ true → IsName d s
name_is d s e =
    let name = and_parts (is_buffer_of_buffer d (gate_of d s) && eqb (count_by (nat_eq s) d.net.outputs) 1)
    (eqb (uses d s) 0) e in
    let first = and_parts (is_buffer_of_buffer d (gate_of d s)) (eqb (count_by (nat_eq s) d.net.outputs) 1) name.0 in
    let buffer = double_buffer d (gate_of d s) first.0 in
    record {
      reads = buffer.0;
      buffers = buffer.1;
      of_buffer = buffer.2;
      once = eqb-true (count_by (nat_eq s) d.net.outputs) 1 first.1;
      unused = eqb-true (uses d s) 0 name.1;
    }

-- what is named is no name
pub no_name : (d : CellView) (s : ℕ) → 0 < uses d s → is_name d s ≡ false
no_name d s some = by (is_name d s) refl
  where
    by : (b : Bool) → is_name d s ≡ b → is_name d s ≡ false
    by false e = e
    by true e = let unused = (name_is d s e).unused in absurd (omega (arith, some, unused))

-- a name names the buffer that it shows

pub shown_is : (d : CellView) (s : ℕ) → (x : IsName d s) → shown_by d s ≡ x.reads
shown_is d s x = ap (λ (g : Option Gate). buffered g s) x.buffers

-- the only signal of a definition whose gate is a buffer
pub one_signal : (xs : List ℕ) (x i s : ℕ) → xs ≡ x ∷ [] → slice_get xs i ≡ Some s → (i ≡ 0) × (s ≡ x)
one_signal xs x zero s e at = (refl, sym (same_Some x s (ap (λ (ys : List ℕ). slice_get ys 0) (sym e) ∙ at)))
one_signal xs x (suc i) s e at = absurd (none-some s (ap (λ (ys : List ℕ). slice_get ys (suc i)) (sym e) ∙ at))

pub same_gate : {g h : Gate} {o : Option Gate} → o ≡ Some g → o ≡ Some h → g ≡ h
same_gate {g} {h} p q = same_Some g h (sym p ∙ q)

-- how a cell may be used

pub may_be_used : {d : CellView} {j : ℕ} → (x : Defined d j) → is_name d (d.net.inputs + j) ≡ false
    → may_have d x.gate (uses d (d.net.inputs + j)) ≡ true
may_be_used {d} {j} x name =
    let u = d.net.inputs + j in
    let parts = and_parts (is_name d u || may_have d x.gate (uses d u))
    (not (shares_input d x.def.inputs (named (take j d.net.defs)))) x.used in
    ap (λ (b : Bool). b || may_have d x.gate (uses d u)) (sym name) ∙ parts.0

-- what is used by none buffers an input
unused_buffer : (d : CellView) (g : Gate) (n : ℕ) → may_have d g n ≡ true → n ≡ 0
    → (x : ℕ) × (g ≡ Buf x) × (is_input d x ≡ true)
unused_buffer d (Input i) n may e = absurd (let one = eqb-true n 1 may in omega (arith, one, e))
unused_buffer d Zero n may e = absurd (let one = eqb-true n 1 may in omega (arith, one, e))
unused_buffer d One n may e = absurd (let one = eqb-true n 1 may in omega (arith, one, e))
unused_buffer d (Inv i) n may e = absurd (let one = eqb-true n 1 may in omega (arith, one, e))
unused_buffer d (Maj i j k) n may e = absurd (let one = eqb-true n 1 may in omega (arith, one, e))
unused_buffer d (Buf x) n may e =
    let here : may_have d (Buf x) 0 ≡ true = ap (may_have d (Buf x)) (sym e) ∙ may in
    (x, refl, (and_parts (is_input d x) true here).0)

pub unused_is : {d : CellView} {j : ℕ} → (x : Defined d j) → is_name d (d.net.inputs + j) ≡ false
    → uses d (d.net.inputs + j) ≡ 0 → (s : ℕ) × (x.gate ≡ Buf s) × (is_input d s ≡ true)
unused_is {d} {j} x name none = unused_buffer d x.gate (uses d (d.net.inputs + j)) (may_be_used x name) none

-- the level of a cell is that above what it names

level_above : {d : CellView} {levels : List ℕ} {last : ℕ} → AreCells d levels last → {j : ℕ} → (x : Defined d j)
    → is_name d (d.net.inputs + j) ≡ false → (i s : ℕ) → slice_get x.def.inputs i ≡ Some s
    → slice_index levels j ≡ above d (level_in d.net.inputs levels) s
level_above {d} {levels} known {j} x name i s at =
    let level = level_in d.net.inputs levels in
    let P : ℕ → Type 0 = λ (s : ℕ). level (d.net.inputs + j) ≡ above d level s in
    let all = known.cells.levels.fit j x.gate (slice_get_within d.net.defs j x.def x.here) x.there name in
    sym (level_past d levels j)
    ∙ all_get P (operands_of x.gate) i s all (ap (λ (xs : List ℕ). slice_get xs i) (sym x.computes.named) ∙ at)

pub reads_input : {d : CellView} {levels : List ℕ} {last : ℕ} → AreCells d levels last → {j : ℕ} → (x : Defined d j)
    → is_name d (d.net.inputs + j) ≡ false → (i s : ℕ) → slice_get x.def.inputs i ≡ Some s → is_input d s ≡ true
    → slice_index levels j ≡ 0
reads_input {d} {levels} known x name i s at e =
    level_above known x name i s at ∙ cond-true (is_input d s) 0 (suc (level_in d.net.inputs levels s)) e

pub reads_cell : {d : CellView} {levels : List ℕ} {last : ℕ} → AreCells d levels last → {j : ℕ} → (x : Defined d j)
    → is_name d (d.net.inputs + j) ≡ false → (i s : ℕ) → slice_get x.def.inputs i ≡ Some s → (k : ℕ)
    → s ≡ d.net.inputs + k → slice_index levels j ≡ suc (slice_index levels k)
reads_cell {d} {levels} known x name i s at k e =
    level_above known x name i s at
    ∙ ap (above d (level_in d.net.inputs levels)) e
    ∙ cond-false (is_input d (d.net.inputs + k)) 0 (suc (level_in d.net.inputs levels (d.net.inputs + k)))
    (no_input d k)
    ∙ ap suc (level_past d levels k)

-- an output, and the cell that it shows

pub record Shows (d : CellView) (levels : List ℕ) (last j : ℕ) : Type 0 where
  pub k : ℕ
  pub output : ℕ
  pub here : slice_get d.net.outputs k ≡ Some output
  pub shown : shown_by d output ≡ d.net.inputs + j
  pub level : slice_index levels j ≡ last

pub output_level : {d : CellView} {levels : List ℕ} {last : ℕ} → AreCells d levels last → (k s j : ℕ)
    → slice_get d.net.outputs k ≡ Some s → shown_by d s ≡ d.net.inputs + j → slice_index levels j ≡ last
output_level {d} {levels} {last} known k s j at shown =
    let level = level_in d.net.inputs levels in
    sym (level_past d levels j) ∙ ap level (sym shown)
    ∙ all_get (λ (s : ℕ). level (shown_by d s) ≡ last) d.net.outputs k s known.cells.levels.outputs at

-- a name that names a cell shows it
pub shows_named : {d : CellView} {levels : List ℕ} {last : ℕ} → AreCells d levels last → {m : ℕ} → (x : Defined d m)
    → is_name d (d.net.inputs + m) ≡ true → (i j : ℕ) → slice_get x.def.inputs i ≡ Some (d.net.inputs + j)
    → Shows d levels last j
shows_named {d} {levels} {last} known {m} x e i j at =
    let s = d.net.inputs + m in
    let name = name_is d s e in
    let buffer : x.gate ≡ Buf name.reads = same_gate (gate_is x) name.buffers in
    let one = one_signal x.def.inputs name.reads i (d.net.inputs + j) (x.computes.named ∙ ap operands_of buffer) at in
    let place = count_place s d.net.outputs (let once = name.once in omega (arith, once)) in
    let shown = shown_is d s name ∙ sym one.1 in
    record {
      k = place.0;
      output = s;
      here = place.1;
      shown = shown;
      level = output_level known place.0 s j place.1 shown;
    }

-- definition j is a cell

pub record IsCell (d : CellView) (j : ℕ) : Type 0 where
  pub below : j < length d.net.defs
  pub no_name : is_name d (d.net.inputs + j) ≡ false

-- what a definition names, and is no input, is a cell
pub names_cell : {d : CellView} {levels : List ℕ} {last : ℕ} → AreCells d levels last → {m : ℕ} → (x : Defined d m)
    → (i k : ℕ) → slice_get x.def.inputs i ≡ Some (d.net.inputs + k) → IsCell d k
names_cell {d} known {m} x i k at =
    let low = named_below known m i (d.net.inputs + k) x.def x.here at in
    let all = before_all d.net.defs (d.net.inputs + k) m i x.def x.here at in
    record {
      below = omega (arith, low);
      no_name = no_name d (d.net.inputs + k) (omega (arith, all));
    }
