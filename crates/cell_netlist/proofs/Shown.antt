-- The buffers that show outputs, on one level.
use Rattle.std.proofs.Common.{◌≡◌, ℕ, zero, suc, ◌+◌, ◌-◌, ◌<◌, ◌≤◌, Bool, true, false, List, [], ◌∷◌, length}
use Rattle.std.proofs.Common.{Option, Some, None, refl, ap, sym, ◌∙◌, subst, arith, inl, inr}
use Rattle.std.specs.Prelude.{◌&&◌, eqb, slice_index, slice_index_or, slice_get, nat_lt, nat_eq}
use Rattle.std.specs.List.{list_all, count_by}
use Rattle.std.proofs.lemmas.Bool.{cases_eq, and_parts, eqb-true, cond-true, cond-false}
use Rattle.std.proofs.lemmas.Option.{none-some, slice_get_within}
use Rattle.union_find.specs.Forests.{Forest, IsJoined, IsRefused, HasHeights}
use Rattle.circuit.specs.declared.gate.Gate.{Gate}
use Rattle.circuit.specs.declared.gate.Gate.TheVariants.{Input, Zero, One, Buf, Inv, Maj}
use Rattle.blif_read.specs.Parts.{NetView}
use Rattle.blif_read.specs.Netlist.{IsNetlist}
use Rattle.blif_read.specs.declared.netlist.Def.{Def}
use Rattle.cell_netlist.specs.Uses.{CellView, uses, gate_of, is_buffer, is_buffer_of_buffer, is_name, with_gates}
use Rattle.cell_netlist.specs.Levels.{above, LevelsFit, LevelsFitAll, buffered, shown_by, is_shown}
use Rattle.cell_netlist.specs.Faults.{IsFed, IsUnfed, IsUnshown, IsCellNet}
use Rattle.cell_netlist.specs.Tables.{IsTableOf}
use Rattle.cell_netlist.specs.Code.Progress.{node_of, level_of, height_of, IsAligned, IsNotAligned}
use Rattle.cell_netlist.specs.Code.Progress.{IsJudged, AreAllUsed, HasUnused, IsNearly, IsFoundLast}
use Rattle.cell_netlist.proofs.Levelled.{here_of, computes_there, all_at, all_of, height_above, side}
use Rattle.cell_netlist.proofs.Levelled.Side.{before_cells, past_inputs}
use Rattle.cell_netlist.proofs.Judged.{sound_to}

-- nodes that are aligned

pub aligned_none : (f : Forest) (first : ℕ) (nodes : List ℕ) → IsAligned f f first nodes 0
aligned_none f first nodes = record {
  count_is = refl;
  back = λ h known. known;
  same = λ h known k lt. absurd (omega (arith, lt));
  forth = λ h known each. known;
}

pub aligned_more : (f g k : Forest) (first node : ℕ) (nodes : List ℕ) (n : ℕ) → IsAligned f g first nodes n
    → node ≡ slice_index nodes n → IsJoined g k node first 0 → IsAligned f k first nodes (n + 1)
aligned_more f g k first node nodes n aligned is joined = record {
  count_is = joined.count_is ∙ aligned.count_is;
  back = λ h known. aligned.back h (joined.back h known);
  same = λ h known m lt. elim (cases_eq m n) [
    | inl e ↦
        let one = joined.higher h known in
        let here : h (slice_index nodes m) ≡ h node = ap h (ap (slice_index nodes) e ∙ sym is) in
        omega (arith, one, here)
    | inr ne ↦ aligned.same h (joined.back h known) m (omega (arith, ne))
  ];
  forth = λ h known each.
      joined.forth h (aligned.forth h known (λ m lt. each m (omega arith)))
      (let one = each n (omega arith) in
      let here : h (slice_index nodes n) ≡ h node = ap h (sym is) in omega (arith, one, here));
}

pub aligned_not : (f g : Forest) (first node : ℕ) (nodes : List ℕ) (n : ℕ) → IsAligned f g first nodes n
    → n < length nodes → node ≡ slice_index nodes n → IsRefused g node first 0 → IsNotAligned f first nodes
aligned_not f g first node nodes n aligned lt is refused = record {
  none = λ h known each.
      refused.none h (aligned.forth h known (λ m low. each m (omega arith)))
      (let one = each n lt in
      let here : h (slice_index nodes n) ≡ h node = ap h (sym is) in omega (arith, one, here));
}

-- inputs with uses

pub used_more : (d : CellView) (n u : ℕ) → ((i : ℕ) → i < n → 0 < uses d i) → u ≡ uses d n → (u ≡ 0 → ⊥) → (i : ℕ)
    → i < n + 1 → 0 < uses d i
used_more d n u each is some i lt = elim (cases_eq i n) [
  | inl e ↦ let same : uses d i ≡ uses d n = ap (uses d) e in omega (arith, same, is, some)
  | inr ne ↦ each i (omega (arith, ne))
]

-- the gate of a signal, and its definition

get_some : (gates : List (Option Gate)) (j : ℕ) (gate : Gate) → slice_index_or gates j None ≡ Some gate
    → slice_get gates j ≡ Some (Some gate)
get_some [] j gate e = absurd (none-some gate e)
get_some (x ∷ gates) zero gate e = ap Some e
get_some (x ∷ gates) (suc j) gate e = get_some gates j gate e

record GateAt (d : CellView) (s : ℕ) (gate : Gate) : Type 0 where
  past : d.net.inputs ≤ s
  test : nat_lt s d.net.inputs ≡ false
  there : slice_get d.gates (s - d.net.inputs) ≡ Some (Some gate)

gate_in : (d : CellView) (s : ℕ) (gate : Gate) → gate_of d s ≡ Some gate → GateAt d s gate
gate_in d s gate e = elim (side d.net.inputs s) [
  | before_cells t low ↦
      absurd (none-some gate
      (sym (cond-true (nat_lt s d.net.inputs) None (slice_index_or d.gates (s - d.net.inputs) None) t) ∙ e))
  | past_inputs t low ↦
      record {
        past = low;
        test = t;
        there = get_some d.gates (s - d.net.inputs) gate
            (sym (cond-false (nat_lt s d.net.inputs) None (slice_index_or d.gates (s - d.net.inputs) None) t) ∙ e);
      }
]

get_def : (defs : List Def) (j : ℕ) → j < length defs → (def : Def) × (slice_get defs j ≡ Some def)
get_def [] j lt = absurd (omega (arith, lt))
get_def (x ∷ defs) zero lt = (x, refl)
get_def (x ∷ defs) (suc j) lt = get_def defs j (omega (arith, lt))

buffer_low : (net : NetView) (gates : List (Option Gate)) (used shown : List ℕ) (three : Bool) (s x : ℕ) → IsNetlist net
    → IsTableOf net gates used shown → s < net.inputs + length net.defs
    → gate_of (with_gates net gates three) s ≡ Some (Buf x)
    → x < net.inputs + length net.defs
buffer_low net gates used shown three s x known table lt e =
    let at = gate_in (with_gates net gates three) s (Buf x) e in
    let past = at.past in
    let def = get_def net.defs (s - net.inputs) (omega (arith, lt, past)) in
    let here = here_of net (s - net.inputs) def.0 known def.1 in
    let computes = computes_there net gates used shown (s - net.inputs) def.0 (Buf x) table def.1 at.there in
    let long : length def.0.inputs ≡ 1 = ap length computes.named in
    let first : slice_index def.0.inputs 0 ≡ x = ap (λ (xs : List ℕ). slice_index xs 0) computes.named in
    let low = here.within 0 (omega (arith, long)) in
    omega (arith, low, first)

pub shown_within : (net : NetView) (gates : List (Option Gate)) (used shown : List ℕ) (three : Bool) (s : ℕ)
    → IsNetlist net → IsTableOf net gates used shown → s < net.inputs + length net.defs
    → shown_by (with_gates net gates three) s < net.inputs + length net.defs
shown_within net gates used shown three s known table lt = by (gate_of (with_gates net gates three) s) refl
  where
    by : (g : Option Gate) → gate_of (with_gates net gates three) s ≡ g
        → buffered (gate_of (with_gates net gates three) s) s < net.inputs + length net.defs
    by None e = subst (λ (o : Option Gate). buffered o s < net.inputs + length net.defs) (sym e) lt
    by (Some (Input i)) e = subst (λ (o : Option Gate). buffered o s < net.inputs + length net.defs) (sym e) lt
    by (Some Zero) e = subst (λ (o : Option Gate). buffered o s < net.inputs + length net.defs) (sym e) lt
    by (Some One) e = subst (λ (o : Option Gate). buffered o s < net.inputs + length net.defs) (sym e) lt
    by (Some (Inv i)) e = subst (λ (o : Option Gate). buffered o s < net.inputs + length net.defs) (sym e) lt
    by (Some (Maj i j k)) e = subst (λ (o : Option Gate). buffered o s < net.inputs + length net.defs) (sym e) lt
    by (Some (Buf x)) e = subst (λ (o : Option Gate). buffered o s < net.inputs + length net.defs) (sym e)
        (buffer_low net gates used shown three s x known table lt e)

pub shown_then : (d : CellView) (s t u : ℕ) (n : Bool) → n ≡ is_name d s → n ≡ true → t ≡ shown_by d s → u ≡ uses d t
    → eqb u 1 ≡ is_shown d s
shown_then d s t u n p q r e =
    ap (λ (b : Bool). b && eqb u 1) (sym q ∙ p)
    ∙ ap (λ (k : ℕ). is_name d s && eqb k 1) (e ∙ ap (uses d) r)

-- what an output shows

record ShownAt (d : CellView) (s : ℕ) : Type 0 where
  reads : ℕ
  buffer : gate_of d (shown_by d s) ≡ Some (Buf reads)
  alone : uses d (shown_by d s) ≡ 1

buffer_is : (g : Option Gate) → is_buffer g ≡ true → (x : ℕ) × (g ≡ Some (Buf x))
buffer_is None e = absurd (cc)
buffer_is (Some (Input i)) e = absurd (cc)
buffer_is (Some Zero) e = absurd (cc)
buffer_is (Some One) e = absurd (cc)
buffer_is (Some (Inv i)) e = absurd (cc)
buffer_is (Some (Maj i j k)) e = absurd (cc)
buffer_is (Some (Buf x)) e = (x, refl)

shown_buffers : (d : CellView) (s : ℕ) (g : Option Gate) → is_buffer_of_buffer d g ≡ true
    → is_buffer (gate_of d (buffered g s)) ≡ true
shown_buffers d s None e = absurd (cc)
shown_buffers d s (Some (Input i)) e = absurd (cc)
shown_buffers d s (Some Zero) e = absurd (cc)
shown_buffers d s (Some One) e = absurd (cc)
shown_buffers d s (Some (Inv i)) e = absurd (cc)
shown_buffers d s (Some (Maj i j k)) e = absurd (cc)
shown_buffers d s (Some (Buf x)) e = e

shown_at : (d : CellView) (s : ℕ) → is_shown d s ≡ true → ShownAt d s
shown_at d s e =
    let both = and_parts (is_name d s) (eqb (uses d (shown_by d s)) 1) e in
    let name = and_parts (is_buffer_of_buffer d (gate_of d s) && eqb (count_by (nat_eq s) d.net.outputs) 1)
    (eqb (uses d s) 0) both.0 in
    let first = and_parts (is_buffer_of_buffer d (gate_of d s)) (eqb (count_by (nat_eq s) d.net.outputs) 1) name.0 in
    let is = buffer_is (gate_of d (shown_by d s)) (shown_buffers d s (gate_of d s) first.0) in
    record { reads = is.0; buffer = is.1; alone = eqb-true (uses d (shown_by d s)) 1 both.1 }

no_name : (d : CellView) (t : ℕ) → uses d t ≡ 1 → is_name d t ≡ false
no_name d t alone = by (is_name d t) refl
  where
    by : (b : Bool) → is_name d t ≡ b → is_name d t ≡ false
    by false e = e
    by true e =
        let parts = and_parts (is_buffer_of_buffer d (gate_of d t) && eqb (count_by (nat_eq t) d.net.outputs) 1)
        (eqb (uses d t) 0) e in
        let zero_uses = eqb-true (uses d t) 0 parts.1 in
        absurd (omega (arith, alone, zero_uses))

-- the level of such a buffer is that above what it reads
shown_level : (d : CellView) (s : ℕ) (level : ℕ → ℕ) → (at : ShownAt d s) → length d.gates ≡ length d.net.defs
    → LevelsFit d (length d.net.defs) level → level (shown_by d s) ≡ above d level at.reads
shown_level d s level at long fit =
    let t = shown_by d s in
    let gate = gate_in d t (Buf at.reads) at.buffer in
    let j = t - d.net.inputs in
    let past = gate.past in
    let back : d.net.inputs + j ≡ t = omega (arith, past) in
    let low = slice_get_within d.gates j (Some (Buf at.reads)) gate.there in
    let name : is_name d (d.net.inputs + j) ≡ false = ap (is_name d) back ∙ no_name d t at.alone in
    let all = fit j (Buf at.reads) (omega (arith, low, long)) gate.there name in
    ap level (sym back) ∙ all.0

all_true : (p : ℕ → Bool) (xs : List ℕ) → list_all p xs ≡ true → (k : ℕ) → k < length xs → p (slice_index xs k) ≡ true
all_true p [] e k lt = absurd (omega (arith, lt))
all_true p (x ∷ xs) e zero lt = (and_parts (p x) (list_all p xs) e).0
all_true p (x ∷ xs) e (suc k) lt = all_true p xs (and_parts (p x) (list_all p xs) e).1 k (omega (arith, lt))

output_at : (d : CellView) (f : Forest) (nodes : List ℕ) → IsNearly d f nodes → (k : ℕ) → k < length d.net.outputs
    → ShownAt d (slice_index d.net.outputs k)
output_at d f nodes known k lt =
    shown_at d (slice_index d.net.outputs k) (all_true (is_shown d) d.net.outputs known.shown k lt)

-- the height of a node that shows an output, by levels
all_high : (d : CellView) (f : Forest) (nodes : List ℕ) → IsNearly d f nodes → (level : ℕ → ℕ) (last : ℕ)
    → LevelsFitAll d level last → (k : ℕ) → k < length d.net.outputs
    → height_of d.net.inputs level (slice_index nodes k) ≡ suc last
all_high d f nodes known level last fit k lt =
    let s = slice_index d.net.outputs k in
    let at = output_at d f nodes known k lt in
    let gate = gate_in d (shown_by d s) (Buf at.reads) at.buffer in
    let on : level (shown_by d s) ≡ last =
    all_at (λ (s : ℕ). level (shown_by d s) ≡ last) d.net.outputs fit.outputs k lt in
    ap (height_of d.net.inputs level) (known.nodes_are.each k lt) ∙ height_above d level (shown_by d s)
    ∙ cond-false (nat_lt (shown_by d s) d.net.inputs) 0 (suc (level (shown_by d s))) gate.test ∙ ap suc on

unaligned : (d : CellView) (f : Forest) (nodes : List ℕ) → IsNearly d f nodes
    → IsNotAligned f (slice_index nodes 0) nodes → (level : ℕ → ℕ) (last : ℕ) → LevelsFitAll d level last → ⊥
unaligned d f nodes known refused level last fit =
    let long = known.nodes_are.long in
    refused.none (height_of d.net.inputs level) (known.levelled.obeys level fit.fit)
    (λ k lt. all_high d f nodes known level last fit k (omega (arith, lt, long))
    ∙ sym (all_high d f nodes known level last fit 0 known.some))

pub unshown_apart : (d : CellView) (f : Forest) (nodes : List ℕ) → IsNearly d f nodes
    → IsNotAligned f (slice_index nodes 0) nodes → IsUnshown d
unshown_apart d f nodes known refused = record {
  fed = known.fed;
  wrong = inr (unaligned d f nodes known refused);
}

pub unshown_none : (d : CellView) → IsFed d → list_all (is_shown d) d.net.outputs ≡ false → IsUnshown d
unshown_none d fed e = record { fed = fed; wrong = inl e }

found_fit : (d : CellView) (f g : Forest) (nodes heights : List ℕ) → IsFoundLast d f g nodes heights
    → LevelsFit d (length d.net.defs) (level_of d.net.inputs (λ (n : ℕ). slice_index heights n))
found_fit d f g nodes heights known =
    known.nearly.levelled.fits (λ (n : ℕ). slice_index heights n)
    (known.aligned.back (λ (n : ℕ). slice_index heights n) known.least.obey)

-- each of these buffers is as high as the first
found_high : (d : CellView) (f g : Forest) (nodes heights : List ℕ) → IsFoundLast d f g nodes heights → (k : ℕ)
    → k < length d.net.outputs
    → slice_index heights (node_of d.net.inputs (shown_by d (slice_index d.net.outputs k)))
    ≡ slice_index heights (slice_index nodes 0)
found_high d f g nodes heights known k lt =
    let long = known.nearly.nodes_are.long in
    ap (slice_index heights) (sym (known.nearly.nodes_are.each k lt))
    ∙ known.aligned.same (λ (n : ℕ). slice_index heights n) known.least.obey k (omega (arith, lt, long))

-- other levels are heights that the trees allow, so the last one is no lower
found_least : (d : CellView) (f g : Forest) (nodes heights : List ℕ) → IsFoundLast d f g nodes heights
    → (level : ℕ → ℕ) (last : ℕ) → LevelsFitAll d level last → slice_index heights (slice_index nodes 0) ≤ suc last
found_least d f g nodes heights known level last fit =
    let near = known.nearly in
    let long = near.nodes_are.long in
    let h = height_of d.net.inputs level in
    let first = all_high d f nodes near level last fit 0 near.some in
    let obeys = known.aligned.forth h (near.levelled.obeys level fit.fit)
    (λ k lt. all_high d f nodes near level last fit k (omega (arith, lt, long)) ∙ sym first) in
    let below : slice_index nodes 0 < g.count =
    let at = output_at d f nodes near 0 near.some in
    let gate = gate_in d (shown_by d (slice_index d.net.outputs 0)) (Buf at.reads) at.buffer in
    let low = slice_get_within d.gates (shown_by d (slice_index d.net.outputs 0) - d.net.inputs)
    (Some (Buf at.reads)) gate.there in
    let is = near.nodes_are.each 0 near.some in
    let node = cond-false (nat_lt (shown_by d (slice_index d.net.outputs 0)) d.net.inputs) 0
    (shown_by d (slice_index d.net.outputs 0) - d.net.inputs + 1) gate.test in
    let count = known.aligned.count_is ∙ near.levelled.count_is in
    omega (arith, low, is, node, count, near.long) in
    let least = known.least.least h obeys (slice_index nodes 0) below in
    omega (arith, least, first)

-- where the first of these buffers is on the level of the inputs' buffers, it is one
grounded : (d : CellView) (f g : Forest) (nodes heights : List ℕ) → IsFoundLast d f g nodes heights
    → slice_index heights (slice_index nodes 0) ≤ 1 → (level : ℕ → ℕ) (last : ℕ) → LevelsFitAll d level last → ⊥
grounded d f g nodes heights known low level last fit =
    let near = known.nearly in
    let s = slice_index d.net.outputs 0 in
    let at = output_at d f nodes near 0 near.some in
    let lev = level_of d.net.inputs (λ (n : ℕ). slice_index heights n) in
    let here = shown_level d s lev at near.long (found_fit d f g nodes heights known) in
    let high = found_high d f g nodes heights known 0 near.some in
    let none : above d lev at.reads ≡ 0 = omega (arith, here, high, low) in
    let there = shown_level d s level at near.long fit.fit in
    let on : level (shown_by d s) ≡ last =
    all_at (λ (s : ℕ). level (shown_by d s) ≡ last) d.net.outputs fit.outputs 0 near.some in
    let some = fit.some_rows in
    elim (side d.net.inputs at.reads) [
      | before_cells t lt ↦
          let flat = cond-true (nat_lt at.reads d.net.inputs) 0 (suc (level at.reads)) t in
          omega (arith, there, on, flat, some)
      | past_inputs t le ↦
          let more = cond-false (nat_lt at.reads d.net.inputs) 0 (suc (lev at.reads)) t in
          omega (arith, none, more)
    ]

pub unshown_grounded : (d : CellView) (f g : Forest) (nodes heights : List ℕ) → IsFoundLast d f g nodes heights
    → slice_index heights (slice_index nodes 0) ≤ 1 → IsUnshown d
unshown_grounded d f g nodes heights known low = record {
  fed = known.nearly.fed;
  wrong = inr (grounded d f g nodes heights known low);
}

pub cell_net : (d : CellView) (f g : Forest) (nodes heights : List ℕ) → IsFoundLast d f g nodes heights
    → (slice_index heights (slice_index nodes 0) ≤ 1 → ⊥)
    → IsCellNet d (level_of d.net.inputs (λ (n : ℕ). slice_index heights n))
    (slice_index heights (slice_index nodes 0) - 1)
cell_net d f g nodes heights known high = record {
  fed = known.nearly.fed;
  shown = known.nearly.shown;
  levels = record {
    fit = found_fit d f g nodes heights known;
    outputs = all_of (λ (s : ℕ). level_of d.net.inputs (λ (n : ℕ). slice_index heights n) (shown_by d s)
        ≡ slice_index heights (slice_index nodes 0) - 1) d.net.outputs
        (λ k lt. ap (λ (n : ℕ). n - 1) (found_high d f g nodes heights known k lt));
    some_rows = omega (arith, high);
  };
  lowest = λ other n fit. let most = found_least d f g nodes heights known other n fit in omega (arith, most);
}

-- all definitions judged, and all inputs used

pub fed_of : (d : CellView) (f : Forest) (taken : List Bool) → IsJudged d (length d.net.defs) f taken → HasHeights f
    → AreAllUsed d → IsFed d
fed_of d f taken judged some used = record {
  sound = sound_to d (length d.net.defs) f taken judged some;
  each_input = used.each;
}

pub unfed_of : (d : CellView) (f : Forest) (taken : List Bool) → IsJudged d (length d.net.defs) f taken → HasHeights f
    → HasUnused d → IsUnfed d
unfed_of d f taken judged some unused = record {
  sound = sound_to d (length d.net.defs) f taken judged some;
  input = unused.input;
  within = unused.within;
  unused = unused.unused;
}

pub node_low : (d : CellView) (f : Forest) (nodes : List ℕ) → IsNearly d f nodes → (k : ℕ) → k < length nodes
    → slice_index nodes k < f.count
node_low d f nodes near k lt' =
    let long = near.nodes_are.long in
    let lt : k < length d.net.outputs = omega (arith, lt', long) in
    let at = output_at d f nodes near k lt in
    let gate = gate_in d (shown_by d (slice_index d.net.outputs k)) (Buf at.reads) at.buffer in
    let low = slice_get_within d.gates (shown_by d (slice_index d.net.outputs k) - d.net.inputs)
    (Some (Buf at.reads)) gate.there in
    let is = near.nodes_are.each k lt in
    let node = cond-false (nat_lt (shown_by d (slice_index d.net.outputs k)) d.net.inputs) 0
    (shown_by d (slice_index d.net.outputs k) - d.net.inputs + 1) gate.test in
    let count = near.levelled.count_is in
    omega (arith, low, is, node, count, near.long)
