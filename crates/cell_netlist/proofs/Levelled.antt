-- Heights of nodes that are those of levels.
use Rattle.std.proofs.Common.{◌≡◌, ℕ, zero, suc, ◌+◌, ◌-◌, ◌<◌, ◌≤◌, ◌^◌, Bool, true, false, List, [], ◌∷◌, length}
use Rattle.std.proofs.Common.{Option, Some, refl, ap, sym, ◌∙◌, subst, arith, inl, inr}
use Rattle.std.specs.Prelude.{slice_index, slice_get, nat_lt}
use Rattle.std.specs.List.{AllByRecursion}
use Rattle.std.proofs.lemmas.Bool.{cases_eq, cond-true, cond-false, ltb-true, ltb-false}
use Rattle.std.proofs.lemmas.Option.{same_Some, none-some, slice_get_within}
use Rattle.union_find.specs.Forests.{Forest, Obeys, IsJoined, IsRefused}
use Rattle.circuit.specs.declared.gate.Gate.{Gate}
use Rattle.blif_read.specs.declared.netlist.Def.{Def}
use Rattle.cell_netlist.specs.Kinds.{operands_of, Computes, IsGateOf, AreGatesOf}
use Rattle.cell_netlist.specs.Uses.{CellView, is_name}
use Rattle.cell_netlist.specs.Tables.{IsTableOf}
use Rattle.blif_read.specs.Netlist.{IsNetlist, IsDef}
use Rattle.blif_read.specs.Parts.{NetView}
use Rattle.cell_netlist.specs.Levels.{above, LevelsFit}
use Rattle.cell_netlist.specs.Code.Progress.{node_of, level_of, height_of, IsAdded, IsNotAdded, IsLevelled, HasNoLevels}

-- one more signal is added, or none can be

pub added_none : (f : Forest) (inputs upper : ℕ) (signals : List ℕ) → IsAdded f f inputs upper signals 0
added_none f inputs upper signals = record {
  count_is = refl;
  back = λ h known. known;
  higher = λ h known k lt. absurd (omega (arith, lt));
  forth = λ h known each. known;
}

pub added_more : (f g k : Forest) (inputs upper : ℕ) (signals : List ℕ) (n lower : ℕ)
    → IsAdded f g inputs upper signals n
    → lower ≡ node_of inputs (slice_index signals n) → IsJoined g k upper lower 1
    → IsAdded f k inputs upper signals (n + 1)
added_more f g k inputs upper signals n lower added is joined = record {
  count_is = joined.count_is ∙ added.count_is;
  back = λ h known. added.back h (joined.back h known);
  higher = λ h known m lt. elim (cases_eq m n) [
    | inl e ↦
        let one = joined.higher h known in
        let same : h (node_of inputs (slice_index signals m)) ≡ h lower =
        ap h (ap (λ (t : ℕ). node_of inputs (slice_index signals t)) e ∙ sym is) in
        omega (arith, one, same)
    | inr ne ↦ added.higher h (joined.back h known) m (omega (arith, ne))
  ];
  forth = λ h known each.
      joined.forth h (added.forth h known (λ m lt. each m (omega arith)))
      (let one = each n (omega arith) in
      let same : h (node_of inputs (slice_index signals n)) ≡ h lower = ap h (sym is) in omega (arith, one, same));
}

pub added_not : (f g : Forest) (inputs upper : ℕ) (signals : List ℕ) (n lower : ℕ) → IsAdded f g inputs upper signals n
    → n < length signals → lower ≡ node_of inputs (slice_index signals n) → IsRefused g upper lower 1
    → IsNotAdded f inputs upper signals
added_not f g inputs upper signals n lower added lt is refused = record {
  none = λ h known each.
      refused.none h (added.forth h known (λ m low. each m (omega arith)))
      (let one = each n lt in
      let same : h (node_of inputs (slice_index signals n)) ≡ h lower = ap h (sym is) in omega (arith, one, same));
}

-- facts of all items of a list, by their places

pub all_at : (P : ℕ → Type 0) (xs : List ℕ) → AllByRecursion P xs → (k : ℕ) → k < length xs → P (slice_index xs k)
all_at P [] all k lt = absurd (omega (arith, lt))
all_at P (x ∷ xs) all zero lt = all.0
all_at P (x ∷ xs) all (suc k) lt = all_at P xs all.1 k (omega (arith, lt))

pub all_of : (P : ℕ → Type 0) (xs : List ℕ) → ((k : ℕ) → k < length xs → P (slice_index xs k)) → AllByRecursion P xs
all_of P [] each = tt
all_of P (x ∷ xs) each = (each zero (omega arith), all_of P xs (λ k lt. each (suc k) (omega (arith, lt))))

-- nodes

node_input : (inputs s : ℕ) → nat_lt s inputs ≡ true → node_of inputs s ≡ 0
node_input inputs s e = cond-true (nat_lt s inputs) 0 (s - inputs + 1) e

node_cell : (inputs s : ℕ) → nat_lt s inputs ≡ false → node_of inputs s ≡ suc (s - inputs)
node_cell inputs s e = cond-false (nat_lt s inputs) 0 (s - inputs + 1) e ∙ omega arith

-- the test of an input, both ways
pub data Side (inputs s : ℕ) : Type 0 where
  before_cells : nat_lt s inputs ≡ true → s < inputs → Side inputs s
  past_inputs : nat_lt s inputs ≡ false → inputs ≤ s → Side inputs s

pub side : (inputs s : ℕ) → Side inputs s
side inputs s = by (nat_lt s inputs) refl
  where
    by : (b : Bool) → nat_lt s inputs ≡ b → Side inputs s
    by true e = before_cells e (ltb-true s inputs e)
    by false e = past_inputs e (ltb-false s inputs e)

pub node_below : (inputs n s : ℕ) → s < inputs + n → node_of inputs s < suc n
node_below inputs n s lt = elim (side inputs s) [
  | before_cells e low ↦ let is = node_input inputs s e in omega (arith, is)
  | past_inputs e low ↦ let is = node_cell inputs s e in omega (arith, is)
]

pub node_def : (inputs j : ℕ) → node_of inputs (inputs + j) ≡ suc j
node_def inputs j = elim (side inputs (inputs + j)) [
  | before_cells e low ↦ absurd (omega (arith, low))
  | past_inputs e low ↦ node_cell inputs (inputs + j) e ∙ omega arith
]

-- the level above a signal is the height of its node
above_height : (d : CellView) (f : Forest) (h : ℕ → ℕ) → Obeys f h → f.count ≡ suc (length d.net.defs) → (s : ℕ)
    → s < d.net.inputs + length d.net.defs → above d (level_of d.net.inputs h) s ≡ h (node_of d.net.inputs s)
above_height d f h known count_is s lt = elim (side d.net.inputs s) [
  | before_cells e low ↦
      let is = node_input d.net.inputs s e in
      cond-true (nat_lt s d.net.inputs) 0 (suc (level_of d.net.inputs h s)) e ∙ sym (ap h is ∙ known.base)
  | past_inputs e low ↦
      let is = node_cell d.net.inputs s e in
      let within : node_of d.net.inputs s < f.count = let b = node_below d.net.inputs (length d.net.defs) s lt in
      omega (arith, b, count_is) in
      let pos = known.positive (node_of d.net.inputs s) (omega (arith, is)) within in
      let more : suc (level_of d.net.inputs h s) ≡ h (node_of d.net.inputs s) = omega (arith, pos) in
      cond-false (nat_lt s d.net.inputs) 0 (suc (level_of d.net.inputs h s)) e ∙ more
]

-- and back: one more than the height of a signal's node is the height of what stands above it
pub height_above : (d : CellView) (level : ℕ → ℕ) (s : ℕ)
    → height_of d.net.inputs level (node_of d.net.inputs s) ≡ above d level s
height_above d level s = elim (side d.net.inputs s) [
  | before_cells e low ↦
      ap (height_of d.net.inputs level) (node_input d.net.inputs s e)
      ∙ sym (cond-true (nat_lt s d.net.inputs) 0 (suc (level s)) e)
  | past_inputs e low ↦
      let back : d.net.inputs + (s - d.net.inputs) ≡ s = omega (arith, low) in
      ap (height_of d.net.inputs level) (node_cell d.net.inputs s e) ∙ ap (λ (t : ℕ). suc (level t)) back
      ∙ sym (cond-false (nat_lt s d.net.inputs) 0 (suc (level s)) e)
]

-- the cell of one more definition

pub record Cell (d : CellView) (j : ℕ) (def : Def) (gate : Gate) : Type 0 where
  pub here : slice_get d.gates j ≡ Some (Some gate)
  pub computes : Computes def gate
  pub within : (k : ℕ) → k < length def.inputs → slice_index def.inputs k < d.net.inputs + length d.net.defs

fit_old : (d : CellView) (j : ℕ) (level : ℕ → ℕ) → LevelsFit d (suc j) level → LevelsFit d j level
fit_old d j level fit i gate lt = fit i gate (omega (arith, lt))

-- what a cell's level is, by the heights, and back

cell_fits : (d : CellView) (j : ℕ) (def : Def) (gate : Gate) (f g : Forest) → Cell d j def gate
    → g.count ≡ suc (length d.net.defs) → IsAdded f g d.net.inputs (suc j) def.inputs (length def.inputs) → (h : ℕ → ℕ)
    → Obeys g h
    → AllByRecursion (λ (s : ℕ). level_of d.net.inputs h (d.net.inputs + j) ≡ above d (level_of d.net.inputs h) s)
    (operands_of gate)
cell_fits d j def gate f g cell count_is added h known =
    let P : ℕ → Type 0 = λ (s : ℕ). level_of d.net.inputs h (d.net.inputs + j) ≡ above d (level_of d.net.inputs h) s in
    subst (λ (xs : List ℕ). AllByRecursion P xs) cell.computes.named (all_of P def.inputs (λ k lt.
    let s = slice_index def.inputs k in
    let higher = added.higher h known k lt in
    let up = above_height d g h known count_is s (cell.within k lt) in
    let node : h (node_of d.net.inputs (d.net.inputs + j)) ≡ h (suc j) = ap h (node_def d.net.inputs j) in
    omega (arith, higher, up, node)))

cell_rises : (d : CellView) (j : ℕ) (def : Def) (gate : Gate) → Cell d j def gate
    → is_name d (d.net.inputs + j) ≡ false → (level : ℕ → ℕ) → LevelsFit d (suc j) level → (k : ℕ)
    → k < length def.inputs
    → height_of d.net.inputs level (suc j)
    ≡ height_of d.net.inputs level (node_of d.net.inputs (slice_index def.inputs k)) + 1
cell_rises d j def gate cell name level fit k lt =
    let P : ℕ → Type 0 = λ (s : ℕ). level (d.net.inputs + j) ≡ above d level s in
    let all = fit j gate (omega arith) cell.here name in
    let at = all_at P def.inputs (subst (λ (xs : List ℕ). AllByRecursion P xs) (sym cell.computes.named) all) k lt in
    let up = height_above d level (slice_index def.inputs k) in
    omega (arith, at, up)

same_gate : (d : CellView) (j : ℕ) (gate other : Gate) → slice_get d.gates j ≡ Some (Some gate)
    → slice_get d.gates j ≡ Some (Some other) → gate ≡ other
same_gate d j gate other p q = same_Some gate other (same_Some (Some gate) (Some other) (sym p ∙ q))

pub cell_levelled : (d : CellView) (j : ℕ) (def : Def) (gate : Gate) (f g : Forest) → Cell d j def gate
    → is_name d (d.net.inputs + j) ≡ false → IsLevelled d j f
    → IsAdded f g d.net.inputs (suc j) def.inputs (length def.inputs) → IsLevelled d (suc j) g
cell_levelled d j def gate f g cell name known added =
    let n = added.count_is ∙ known.count_is in
    record {
      count_is = n;
      fits = λ h obeys i other lt there no_name. elim (cases_eq i j) [
        | inl e ↦
            let same : gate ≡ other = same_gate d j gate other cell.here (ap (slice_get d.gates) (sym e) ∙ there) in
            let Q : ℕ → Gate → Type 0 = λ (i : ℕ) (g : Gate). AllByRecursion (λ (s : ℕ).
            level_of d.net.inputs h (d.net.inputs + i) ≡ above d (level_of d.net.inputs h) s) (operands_of g) in
            subst (λ (i : ℕ). Q i other) (sym e)
            (subst (λ (g : Gate). Q j g) same (cell_fits d j def gate f g cell n added h obeys))
        | inr ne ↦ known.fits h (added.back h obeys) i other (omega (arith, ne)) there no_name
      ];
      obeys = λ level fit.
          added.forth (height_of d.net.inputs level) (known.obeys level (fit_old d j level fit))
          (cell_rises d j def gate cell name level fit);
    }

pub cell_none : (d : CellView) (j : ℕ) (def : Def) (gate : Gate) (f : Forest) → Cell d j def gate
    → is_name d (d.net.inputs + j) ≡ false → IsLevelled d j f → IsNotAdded f d.net.inputs (suc j) def.inputs
    → HasNoLevels d (suc j)
cell_none d j def gate f cell name known refused = record {
  none = λ level fit.
      refused.none (height_of d.net.inputs level) (known.obeys level (fit_old d j level fit))
      (cell_rises d j def gate cell name level fit);
}

pub name_levelled : (d : CellView) (j : ℕ) (f : Forest) → is_name d (d.net.inputs + j) ≡ true → IsLevelled d j f
    → IsLevelled d (suc j) f
name_levelled d j f name known = record {
  count_is = known.count_is;
  fits = λ h obeys i gate lt there no_name. elim (cases_eq i j) [
    | inl e ↦
        let is : is_name d (d.net.inputs + i) ≡ true = ap (λ (t : ℕ). is_name d (d.net.inputs + t)) e ∙ name in
        absurd (cc)
    | inr ne ↦ known.fits h obeys i gate (omega (arith, ne)) there no_name
  ];
  obeys = λ level fit. known.obeys level (fit_old d j level fit);
}

-- a definition of a netlist

pub record Here (net : NetView) (j : ℕ) (def : Def) : Type 0 where
  pub below : j < length net.defs
  pub few : net.inputs + length net.defs < 2 ^ 28
  pub within : (k : ℕ) → k < length def.inputs → slice_index def.inputs k < net.inputs + length net.defs

def_of : (P : Def → Type 0) (defs : List Def) (j : ℕ) (def : Def) → AllByRecursion P defs
    → slice_get defs j ≡ Some def → P def
def_of P [] j def all there = absurd (none-some def there)
def_of P (x ∷ defs) zero def all there = subst P (same_Some x def there) all.0
def_of P (x ∷ defs) (suc j) def all there = def_of P defs j def all.1 there

pub here_of : (net : NetView) (j : ℕ) (def : Def) → IsNetlist net → slice_get net.defs j ≡ Some def → Here net j def
here_of net j def known there = record {
  below = slice_get_within net.defs j def there;
  few = let small = known.small in let count = known.count in omega (arith, small, count);
  within = λ k lt.
      let is = def_of (IsDef (length net.names)) net.defs j def known.each_def there in
      let low = all_at (λ (s : ℕ). s < length net.names) def.inputs is.names k lt in
      let count = known.count in omega (arith, low, count);
}

-- the gate that is told of a definition is computed by it
pub gate_there : (defs : List Def) (gates : List (Option Gate)) (j : ℕ) (def : Def) (gate : Gate)
    → AreGatesOf defs gates
    → slice_get defs j ≡ Some def → slice_get gates j ≡ Some (Some gate) → Computes def gate
gate_there [] gates j def gate known p q = absurd (none-some def p)
gate_there (x ∷ defs) [] j def gate known p q = absurd known
gate_there (x ∷ defs) (g ∷ gates) zero def gate known p q =
    subst (λ (t : Def). Computes t gate) (same_Some x def p)
    (subst (λ (o : Option Gate). IsGateOf x o) (same_Some g (Some gate) q) known.0)
gate_there (x ∷ defs) (g ∷ gates) (suc j) def gate known p q = gate_there defs gates j def gate known.1 p q

pub computes_there : (net : NetView) (gates : List (Option Gate)) (used shown : List ℕ) (j : ℕ) (def : Def)
    (gate : Gate)
    → IsTableOf net gates used shown → slice_get net.defs j ≡ Some def → slice_get gates j ≡ Some (Some gate)
    → Computes def gate
computes_there net gates used shown j def gate known p q = gate_there net.defs gates j def gate known.gates_are p q

pub cell_of : (d : CellView) (used shown : List ℕ) (j : ℕ) (def : Def) (gate : Gate) → IsNetlist d.net
    → IsTableOf d.net d.gates used shown → slice_get d.net.defs j ≡ Some def → slice_get d.gates j ≡ Some (Some gate)
    → Cell d j def gate
cell_of d used shown j def gate known table here there = record {
  here = there;
  computes = computes_there d.net d.gates used shown j def gate table here there;
  within = (here_of d.net j def known here).within;
}

pub signal_below : (d : CellView) (n : ℕ) (f : Forest) → IsLevelled d n f → {s : ℕ}
    → s < d.net.inputs + length d.net.defs → node_of d.net.inputs s < f.count
signal_below d n f known {s} lt =
    let below = node_below d.net.inputs (length d.net.defs) s lt in
    let count = known.count_is in
    omega (arith, below, count)
