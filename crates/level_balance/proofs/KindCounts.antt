-- How many cells of a kind the plan has, where neither buffers nor splitters are of it: gates that count and constants.
use Rattle.std.specs.Prelude.{◌≡◌, ℕ, zero, suc, pred, ◌+◌, ◌<◌, Bool, true, false, eqb, List, [], ◌∷◌, ◌++◌}
use Rattle.std.specs.Prelude.{length, drop, replicate, slice_get, slice_index_or, Some}
use Rattle.std.proofs.Common.{refl, ◌∙◌, arith}
use Rattle.circuit.specs.declared.cell_kind.CellKind.{CellKind}
use Rattle.circuit.specs.declared.cell_kind.CellKind.TheVariants.{Buffer, Split2, Split3, Inverter, Majority, Zero, One}
use Rattle.circuit.specs.declared.gate.Gate.{Gate}
use Rattle.circuit.specs.declared.gate.Gate.TheVariants as gates
use Rattle.circuit.specs.PlainNets.{PlainView, is_constant, IsPlainNet}
use Rattle.rowed.specs.declared.source.Source.{Source}
use Rattle.rowed.specs.declared.row_cell.RowCell.{RowCell}
use Rattle.rowed.specs.MadeCells.{cell, output_cell, source}
use Rattle.level_balance.specs.Uses.{operands, needed, counts, uses_of, use_count}
use Rattle.level_balance.specs.Levels.{depth, tree_sizes}
use Rattle.level_balance.specs.Laying.{put, next, giving, Signals, tree}
use Rattle.level_balance.specs.Plan.{Frame, frame, Laid, constant_kind, sources, gate_cell, lay_gate}
use Rattle.level_balance.specs.Plan.{lay_gates, lay_outputs, laid, level_net}
use Rattle.level_balance.specs.Kinds.{one_of, row_cells_of, cells_of, gate_kind, gates_of}
use Rattle.level_balance.specs.Code.Turns.{begun, laid_by}
use Rattle.level_balance.proofs.Carries.{put_length}
use Rattle.level_balance.proofs.LawOfLaying.{drop_step, GateFits, level}
use Rattle.level_balance.proofs.Lengths.{sources_rows, lay_gate_rows}
use Rattle.level_balance.proofs.Puts.{Puts, done, more, puts_then}
use Rattle.level_balance.proofs.Putting.{tree_puts, lead_puts}
use Rattle.level_balance.proofs.KeptNet.{PlanFacts, gone_rows, start_rows, plan_facts}

-- neither buffers nor splitters are of kind k
pub record IsApart (k : CellKind) : Type 0 where
  pub buffer : one_of k Buffer ≡ 0
  pub two : one_of k Split2 ≡ 0
  pub three : one_of k Split3 ≡ 0

-- the constants among these gates whose cells are of kind k
abbrev pub constants_of : CellKind → ℕ → List ℕ → ℕ
constants_of k n [] = 0
constants_of k n (x ∷ xs) = elim (is_constant n x) [
  | true ↦ one_of k (constant_kind n x) + constants_of k n xs
  | false ↦ constants_of k n xs
]

-- the cells of kind k of the gates from gate i on
abbrev pub gates_cells_of : CellKind → Frame → ℕ → List Gate → ℕ
gates_cells_of k f i [] = 0
gates_cells_of k f i (g ∷ gs) = elim (counts f.inputs f.marks i) [
  | true ↦ constants_of k f.inputs (operands g) + one_of k (gate_kind g) + gates_cells_of k f (suc i) gs
  | false ↦ gates_cells_of k f (suc i) gs
]

module _ (k : CellKind) where
  row_put : (row : List RowCell) (c : RowCell) → row_cells_of k (row ++ c ∷ []) ≡ row_cells_of k row + one_of k c.kind
  row_put [] c = omega arith
  row_put (x ∷ row) c = let h = row_put row c in omega arith

  kind_put : (rows : List (List RowCell)) (r : ℕ) (c : RowCell) → r < length rows
      → cells_of k (put rows r c) ≡ cells_of k rows + one_of k c.kind
  kind_put [] r c lt = absurd (omega arith)
  kind_put (row ∷ rows) zero c lt = let h = row_put row c in omega arith
  kind_put (row ∷ rows) (suc r) c lt = let h = kind_put rows r c (omega arith) in omega arith

  other_put : (rows : List (List RowCell)) (r : ℕ) (c : RowCell) → one_of k c.kind ≡ 0
      → cells_of k (put rows r c) ≡ cells_of k rows
  other_put [] r c e = refl
  other_put (row ∷ rows) zero c e = let h = row_put row c in omega arith
  other_put (row ∷ rows) (suc r) c e = let h = other_put rows r c e in omega arith

  abbrev Other : ℕ → RowCell → Type 0
  Other r c = one_of k c.kind ≡ 0

  others_put : {a b : List (List RowCell)} → Puts Other a b → cells_of k b ≡ cells_of k a
  others_put done = refl
  others_put {a = a} (more r c e p) = others_put p ∙ other_put a r c e

  sources_kind : (n r : ℕ) (ends : List Source) (rows : List (List RowCell)) (q : ℕ) (xs : List ℕ) → r < length rows
      → cells_of k (sources n r ends rows q xs).rows ≡ cells_of k rows + constants_of k n xs
  sources_kind n r ends rows q [] lt = omega arith
  sources_kind n r ends rows q (x ∷ xs) lt =
      let size = put_length rows r (cell (constant_kind n x) []) in
      by (is_constant n x) refl (kind_put rows r (cell (constant_kind n x) []) lt)
      (sources_kind n r ends (put rows r (cell (constant_kind n x) [])) (suc q) xs (omega arith))
      (sources_kind n r ends rows (suc q) xs lt)
    where
      by : (b : Bool) → is_constant n x ≡ b
          → cells_of k (put rows r (cell (constant_kind n x) [])) ≡ cells_of k rows + one_of k (constant_kind n x)
          → cells_of k (sources n r ends (put rows r (cell (constant_kind n x) [])) (suc q) xs).rows
          ≡ cells_of k (put rows r (cell (constant_kind n x) [])) + constants_of k n xs
          → cells_of k (sources n r ends rows (suc q) xs).rows ≡ cells_of k rows + constants_of k n xs
          → cells_of k (sources n r ends rows q (x ∷ xs)).rows ≡ cells_of k rows + constants_of k n (x ∷ xs)
      by true e one a b = rw (e, sources, constants_of) (omega arith)
      by false e one a b = rw (e, sources, constants_of) b

module _ (k : CellKind) (apart : IsApart k) where
  giving_other : (c : ℕ) → one_of k (giving c) ≡ 0
  giving_other c = go (eqb c 1) (eqb c 2)
    where
      go : (a b : Bool) → one_of k
          (elim a as (λ (t : Bool). CellKind)
          [ true ↦ Buffer | false ↦ elim b as (λ (t : Bool). CellKind) [ true ↦ Split2 | false ↦ Split3 ] ]) ≡ 0
      go true b = apart.buffer
      go false true = apart.two
      go false false = apart.three

  own_kind : (g : Gate) (ss : List Source) → one_of k (gate_cell g ss).kind ≡ one_of k (gate_kind g)
  own_kind (gates.Input i) ss = refl
  own_kind gates.Zero ss = refl
  own_kind gates.One ss = refl
  own_kind (gates.Buf x) ss = refl
  own_kind (gates.Inv x) ss = refl
  own_kind (gates.Maj x y z) ss = refl

  gate_of_kind : (f : Frame) (i : ℕ) (g : Gate) (at : Laid) → GateFits f i g → length at.rows ≡ suc f.last
      → cells_of k (lay_gate f i g at).rows ≡ cells_of k at.rows + (constants_of k f.inputs
      (operands g) + one_of k (gate_kind g))
  gate_of_kind f i g at fits rows =
      let l = level f i in
      let fan = use_count f.uses i in
      let t = depth f.base fan in
      let reach = fits.reach in
      let ss = sources f.inputs (pred l) at.ends at.rows at.use_at (operands g) in
      let x = gate_cell g ss.signals in
      let root : Signals = record { rows = put ss.rows l x; signals = source (next ss.rows l) 0 ∷ [] } in
      let cs = tree_sizes f.base t fan [] in
      let leaves = tree f.base (suc l) root cs in
      let taken : length ss.rows ≡ length at.rows = sources_rows f.inputs
      (pred l) at.ends at.rows at.use_at (operands g) in
      let one = sources_kind k f.inputs (pred l) at.ends at.rows at.use_at (operands g) (omega arith) in
      let two = kind_put k ss.rows l x (omega arith) in
      let own = own_kind g ss.signals in
      let rest = others_put k (puts_then
      (tree_puts (Other k) f.base (suc l) root cs (λ q j s low high. giving_other j))
      (lead_puts (Other k) f (l + t) leaves.rows at.ends leaves.signals (uses_of i 0 f.uses)
      (λ q r s inside low high. apart.buffer))) in
      sum_up (cells_of k at.rows) (constants_of k f.inputs (operands g))
      (one_of k (gate_kind g)) _ _ _ _ one own two rest
    where
      sum_up : (a c o s p x e : ℕ) → s ≡ a + c → x ≡ o → p ≡ s + x → e ≡ p → e ≡ a + (c + o)
      sum_up a c o s p x e one own two rest = omega arith

  module _ (f : Frame) (all : List Gate) (outs : List ℕ) (facts : PlanFacts f all outs) where
    gates_of_kind : (i : ℕ) (at : Laid) (gs : List Gate) → drop i all ≡ gs → length at.rows ≡ suc f.last
        → cells_of k (lay_gates f i at gs).rows ≡ cells_of k at.rows + gates_cells_of k f i gs
    gates_of_kind i at [] d rows = omega arith
    gates_of_kind i at (g ∷ gs) d rows =
        let st = drop_step i all g gs d in
        by (counts f.inputs f.marks i) refl st.0
        (gates_of_kind (suc i) (lay_gate f i g at) gs st.1 (lay_gate_rows f i g at ∙ rows))
        (gates_of_kind (suc i) at gs st.1 rows)
      where
        sum_up : (a c s e : ℕ) (r : ℕ) → s ≡ a + c → e ≡ s + r → e ≡ a + (c + r)
        sum_up a c s e r one rest = omega arith

        by : (b : Bool) → counts f.inputs f.marks i ≡ b → slice_get all i ≡ Some g
            → cells_of k (lay_gates f (suc i) (lay_gate f i g at) gs).rows
            ≡ cells_of k (lay_gate f i g at).rows + gates_cells_of k f (suc i) gs
            → cells_of k (lay_gates f (suc i) at gs).rows ≡ cells_of k at.rows + gates_cells_of k f (suc i) gs
            → cells_of k (lay_gates f i at (g ∷ gs)).rows ≡ cells_of k at.rows + gates_cells_of k f i (g ∷ gs)
        by true c here a b =
            rw (c, lay_gates, gates_cells_of)
            (sum_up (cells_of k at.rows) (constants_of k f.inputs (operands g) + one_of k (gate_kind g)) _ _
            (gates_cells_of k f (suc i) gs) (gate_of_kind f i g at (facts.each i g here c).fits rows) a)
        by false c here a b = rw (c, lay_gates, gates_cells_of) b

    outputs_of_kind : (j : ℕ) (at : Laid) (os : List ℕ) → length at.rows ≡ suc f.last
        → cells_of k (lay_outputs f j at os).rows ≡ cells_of k at.rows + constants_of k f.inputs os
    outputs_of_kind j at [] rows = omega arith
    outputs_of_kind j at (o ∷ os) rows =
        let ss = sources f.inputs (pred f.last) at.ends at.rows at.use_at (o ∷ []) in
        let x = output_cell (slice_index_or ss.signals 0 (source 0 0)) j in
        let size : length ss.rows ≡ length at.rows = sources_rows f.inputs
        (pred f.last) at.ends at.rows at.use_at (o ∷ []) in
        let one = sources_kind k f.inputs (pred f.last) at.ends at.rows at.use_at (o ∷ []) (omega arith) in
        let two = other_put k ss.rows f.last x apart.buffer in
        let rest = outputs_of_kind (suc j)
        (record { rows = put ss.rows f.last x; ends = at.ends; use_at = suc at.use_at }) os
        (put_length ss.rows f.last x ∙ size ∙ rows) in
        sum_up (cells_of k at.rows) (constants_of k f.inputs (o ∷ [])) (constants_of k f.inputs os) _ _ _
        (constants_of k f.inputs (o ∷ os)) one two rest (split (is_constant f.inputs o) refl)
      where
        sum_up : (a c d s p e w : ℕ) → s ≡ a + c → p ≡ s → e ≡ p + d → w ≡ c + d → e ≡ a + w
        sum_up a c d s p e w one two rest whole = omega arith

        split : (b : Bool) → is_constant f.inputs o ≡ b
            → constants_of k f.inputs (o ∷ os) ≡ constants_of k f.inputs (o ∷ []) + constants_of k f.inputs os
        split true e = rw (e, constants_of) (omega arith)
        split false e = rw (e, constants_of) (omega arith)

    final_of_kind : cells_of k
        (laid_by f all outs)
        ≡ gates_cells_of k f 0 all + constants_of k f.inputs outs
    final_of_kind =
        let start : Laid = begun f in
        let a = gates_of_kind 0 start all refl (start_rows f all outs facts) in
        let b = outputs_of_kind 0 (lay_gates f 0 start all) outs (gone_rows f all outs facts) in
        let c = none_of (suc f.last) in omega arith
      where
        none_of : (m : ℕ) → cells_of k (replicate m []) ≡ 0
        none_of zero = refl
        none_of (suc m) = let h = none_of m in omega arith

  pub plan_of_kind : (net : PlainView) (three : Bool) → IsPlainNet net
      → cells_of k (level_net net three).rows ≡ gates_cells_of k (frame net three) 0 net.gates + constants_of k
      (frame net three).inputs net.outputs
  unfolding level_net laid
  plan_of_kind net three known = final_of_kind (frame net three) net.gates net.outputs (plan_facts net three known)

-- a kind of which no constant is: its cells are those of gates
record IsLogic (k : CellKind) : Type 0 where
  pub apart : IsApart k
  pub zero_other : one_of k Zero ≡ 0
  pub one_other : one_of k One ≡ 0

module _ (k : CellKind) (logic : IsLogic k) where
  no_constant : (n : ℕ) (xs : List ℕ) → constants_of k n xs ≡ 0
  no_constant n [] = refl
  no_constant n (x ∷ xs) = by (is_constant n x) refl (eqb x n) refl (no_constant n xs)
    where
      by : (b : Bool) → is_constant n x ≡ b → (t : Bool) → eqb x n ≡ t → constants_of k n xs ≡ 0
          → constants_of k n (x ∷ xs) ≡ 0
      by true e true p h = let z = logic.zero_other in rw (e, p, constants_of, constant_kind) (omega arith)
      by true e false p h = let z = logic.one_other in rw (e, p, constants_of, constant_kind) (omega arith)
      by false e t p h = rw (e, constants_of) h

  gates_alone : (f : Frame) (i : ℕ) (gs : List Gate) → gates_cells_of k f i gs ≡ gates_of k f.inputs f.marks i gs
  gates_alone f i [] = refl
  gates_alone f i (g ∷ gs) = by (counts f.inputs f.marks i) refl (gates_alone f (suc i) gs)
    where
      by : (b : Bool) → counts f.inputs f.marks i ≡ b
          → gates_cells_of k f (suc i) gs ≡ gates_of k f.inputs f.marks (suc i) gs
          → gates_cells_of k f i (g ∷ gs) ≡ gates_of k f.inputs f.marks i (g ∷ gs)
      by true c h =
          let z = no_constant f.inputs (operands g) in rw (c, gates_cells_of, gates_of) (omega arith)
      by false c h = rw (c, gates_cells_of, gates_of) h

  logic_cells : (net : PlainView) (three : Bool) → IsPlainNet net
      → cells_of k (level_net net three).rows ≡ gates_of k net.inputs (needed net) 0 net.gates
  unfolding frame
  logic_cells net three known =
      let a = plan_of_kind k logic.apart net three known in
      let b = gates_alone (frame net three) 0 net.gates in
      let c = no_constant net.inputs net.outputs in omega arith

pub inverter_cells : (net : PlainView) (three : Bool) → IsPlainNet net
    → cells_of Inverter (level_net net three).rows ≡ gates_of Inverter net.inputs (needed net) 0 net.gates
inverter_cells = logic_cells Inverter
    (record { apart = record { buffer = refl; two = refl; three = refl }; zero_other = refl; one_other = refl })

pub majority_cells : (net : PlainView) (three : Bool) → IsPlainNet net
    → cells_of Majority (level_net net three).rows ≡ gates_of Majority net.inputs (needed net) 0 net.gates
majority_cells = logic_cells Majority
    (record { apart = record { buffer = refl; two = refl; three = refl }; zero_other = refl; one_other = refl })
