-- The levels that are told.
use Rattle.std.proofs.Common.{◌≡◌, ℕ, zero, suc, ◌+◌, ◌-◌, ◌<◌, ◌≤◌, Bool, true, false, List, length}
use Rattle.std.proofs.Common.{Option, refl, ap, sym, ◌∙◌, subst, arith, inl, inr}
use Rattle.std.proofs.Math.Path.{fun_ext}
use Rattle.std.specs.Prelude.{slice_index, slice_index_or, nat_lt, replicate}
use Rattle.std.specs.List.{list_all}
use Rattle.std.proofs.lemmas.Bool.{cases_lt, cond-true, cond-false}
use Rattle.std.proofs.lemmas.List.{get_or_past, get_or-replicate}
use Rattle.std.proofs.lemmas.List.{length-replicate}
use Rattle.std.proofs.lemmas.Slice.Zip.{AllZip-long}
use Rattle.union_find.specs.Forests.{Forest, Obeys, AreLeast}
use Rattle.circuit.specs.declared.gate.Gate.{Gate}
use Rattle.blif_read.specs.Parts.{NetView}
use Rattle.blif_read.specs.Netlist.{IsNetlist}
use Rattle.cell_netlist.specs.Kinds.{IsGateOf}
use Rattle.cell_netlist.specs.Uses.{CellView, with_gates}
use Rattle.cell_netlist.specs.Levels.{level_in, is_shown}
use Rattle.cell_netlist.specs.Faults.{IsFed, IsUnshown, IsCellNet, IsFault, IsFaultOfDef}
use Rattle.cell_netlist.specs.declared.fault.CellFault.{CellFault}
use Rattle.cell_netlist.specs.declared.fault.CellFault.TheVariants.{Cover, Uses, Level, Outputs}
use Rattle.cell_netlist.specs.Tables.{IsTableOf}
use Rattle.cell_netlist.specs.Code.Progress.{node_of, level_of, height_of, IsLevelled, IsJudged, IsAligned}
use Rattle.cell_netlist.specs.Code.Progress.{AreShownNodes, IsNearly, IsLast, AreLevels}
use Rattle.cell_netlist.proofs.Levelled.{side, all_at}
use Rattle.cell_netlist.proofs.Levelled.Side.{before_cells, past_inputs}
use Rattle.cell_netlist.proofs.Shown.{cell_net, unshown_grounded, node_low}

-- each level that is told is that of a node

level_any : (levels heights : List ℕ) → AreLevels levels heights → (k : ℕ)
    → slice_index heights (suc k) - 1 ≡ slice_index levels k
level_any levels heights known k = elim (cases_lt k (length levels)) [
  | inl lt ↦ sym (known.each k lt)
  | inr le ↦
      let long = known.long in
      let none = get_or_past levels k 0 le in
      let gone = get_or_past heights (suc k) 0 (omega (arith, long, le)) in
      omega (arith, none, gone)
]

level_same : (inputs : ℕ) (levels heights : List ℕ) → AreLevels levels heights → slice_index heights 0 ≡ 0 → (s : ℕ)
    → level_of inputs (λ (n : ℕ). slice_index heights n) s ≡ level_in inputs levels s
level_same inputs levels heights known base s = elim (side inputs s) [
  | before_cells t low ↦
      let node : node_of inputs s ≡ 0 = cond-true (nat_lt s inputs) 0 (s - inputs + 1) t in
      let here : slice_index heights (node_of inputs s) ≡ 0 = ap (slice_index heights) node ∙ base in
      let told = cond-true (nat_lt s inputs) 0 (slice_index levels (s - inputs)) t in
      omega (arith, here, told)
  | past_inputs t low ↦
      let node : node_of inputs s ≡ suc (s - inputs) =
      cond-false (nat_lt s inputs) 0 (s - inputs + 1) t ∙ omega arith in
      ap (λ (n : ℕ). slice_index heights n - 1) node ∙ level_any levels heights known (s - inputs)
      ∙ sym (cond-false (nat_lt s inputs) 0 (slice_index levels (s - inputs)) t)
]

pub told_net : (d : CellView) (nodes heights levels : List ℕ) → IsLast d nodes heights → AreLevels levels heights
    → (slice_index heights (slice_index nodes 0) ≤ 1 → ⊥)
    → IsCellNet d (level_in d.net.inputs levels) (slice_index heights (slice_index nodes 0) - 1)
told_net d nodes heights levels known are high =
    let found = known.found in
    let base : slice_index heights 0 ≡ 0 = found.least.obey.base in
    let P : (ℕ → ℕ) → Type 0 = λ (l : ℕ → ℕ). IsCellNet d l (slice_index heights (slice_index nodes 0) - 1) in
    subst P (fun_ext (level_same d.net.inputs levels heights are base))
    (cell_net d known.f known.g nodes heights found high)

pub told_fault : (d : CellView) (nodes heights : List ℕ) → IsLast d nodes heights
    → slice_index heights (slice_index nodes 0) ≤ 1 → IsUnshown d
told_fault d nodes heights known low = unshown_grounded d known.f known.g nodes heights known.found low

-- the facts at each step

pub nearly_of : (net : NetView) (gates : List (Option Gate)) (used shown nodes : List ℕ) (three : Bool) (f : Forest)
    → IsNetlist net → IsTableOf net gates used shown → IsFed (with_gates net gates three)
    → IsLevelled (with_gates net gates three) (length net.defs) f
    → list_all (is_shown (with_gates net gates three)) net.outputs ≡ true
    → AreShownNodes (with_gates net gates three) net.outputs nodes (length net.outputs)
    → IsNearly (with_gates net gates three) f nodes
nearly_of net gates used shown nodes three f known table fed levelled all are = record {
  fed = fed;
  levelled = levelled;
  long = AllZip-long IsGateOf net.defs gates table.gates_are;
  shown = all;
  some = known.some_output;
  nodes_are = are;
}

pub outputs_low : (net : NetView) → IsNetlist net → (k : ℕ) → k < length net.outputs
    → slice_index net.outputs k < net.inputs + length net.defs
outputs_low net known k lt =
    let low = all_at (λ (s : ℕ). s < length net.names) net.outputs known.each_output k lt in
    let count = known.count in
    omega (arith, low, count)

pub start_of : (d : CellView) (f : Forest) (taken : List Bool) → f.count ≡ suc (length d.net.defs)
    → ((h : ℕ → ℕ) → h 0 ≡ 0 → ((s : ℕ) → 0 < s → s < suc (length d.net.defs) → 0 < h s) → Obeys f h)
    → taken ≡ replicate d.net.inputs false → IsJudged d 0 f taken
start_of d f taken count free is = record {
  each = λ j def lt. absurd (omega (arith, lt));
  levelled = record {
    count_is = count;
    fits = λ h obeys j gate lt. absurd (omega (arith, lt));
    obeys = λ level fit. free (height_of d.net.inputs level) refl (rises d level);
  };
  taken_are = record {
    long = ap length is ∙ length-replicate d.net.inputs false;
    each = λ s lt.
        ap (λ (xs : List Bool). slice_index_or xs s false) is ∙ get_or-replicate d.net.inputs s false false lt;
  };
}
  where
    rises : (d : CellView) (level : ℕ → ℕ) (s : ℕ) → 0 < s → s < suc (length d.net.defs)
        → 0 < height_of d.net.inputs level s
    rises d level zero pos lt = absurd (omega (arith, pos))
    rises d level (suc s) pos lt = omega arith

pub start_from : (d : CellView) (f : Forest) (taken : List Bool) (n : ℕ) → n ≡ length d.net.defs → f.count ≡ n + 1
    → ((h : ℕ → ℕ) → h 0 ≡ 0 → ((s : ℕ) → 0 < s → s < n + 1 → 0 < h s) → Obeys f h)
    → taken ≡ replicate d.net.inputs false → IsJudged d 0 f taken
start_from d f taken n e count free is =
    start_of d f taken (omega (arith, e, count))
    (λ h base rises. free h base (λ s pos lt. rises s pos (omega (arith, e)))) is

pub within_of : (d : CellView) (f g : Forest) (nodes heights xs : List ℕ) (n : ℕ) → IsNearly d f nodes
    → IsAligned f g (slice_index nodes 0) nodes n → AreLeast g heights → xs ≡ heights → slice_index nodes 0 < length xs
within_of d f g nodes heights xs n near aligned least is =
    let long = near.nodes_are.long in
    let some = near.some in
    let low = node_low d f nodes near 0 (omega (arith, long)) in
    let count = aligned.count_is in
    let same = ap length is in
    omega (arith, low, count, same, least.long)

-- a fault is told by its kind
pub def_told : (d : CellView) (line : ℕ) (kind : CellFault) → IsFaultOfDef d line kind → IsFault d line kind
def_told d line Cover fault = fault
def_told d line Uses fault = inl fault
def_told d line Level fault = fault
def_told d line Outputs fault = absurd fault.fault
