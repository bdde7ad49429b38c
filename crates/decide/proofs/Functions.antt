-- The functions of nodes: what each reads, and that no two are the same.
use Rattle.std.proofs.Common.{◌≡◌, ◌≢◌, ℕ, zero, suc, ◌+◌, ◌-◌, ◌<◌, ◌≤◌, ◌⊎◌, Bool, true, false, cond, List, length}
use Rattle.std.proofs.Common.{drop, get_or, refl, sym, ap, ◌∙◌, subst, arith, inl, inr}
use Rattle.std.proofs.Math.ListN.{get_or-eq_default}
use Rattle.std.proofs.lemmas.Bool.{cases_lt, cases_eq, ne_eqb, eq-eqb}
use Rattle.std.proofs.lemmas.List.{get_or-drop}
use Rattle.circuit.specs.Ranked.{IsRanked}
use Rattle.circuit.proofs.Solutions.{some_solution}
use Rattle.decide.specs.declared.edge.Edge.{Edge}
use Rattle.decide.specs.declared.edge.Node.{Node}
use Rattle.decide.specs.Code.Diagrams.{flip, no_node, node_at, level_of, inputs_of, choice_value, node_equation}
use Rattle.decide.specs.Code.Diagrams.{node_value, edge_value, child, cofactor, IsNode, IsDiagram}

pub flip_flip : (a b c : Bool) → flip (flip a b) c ≡ flip a (flip b c)
flip_flip true true true = refl
flip_flip true true false = refl
flip_flip true false c = refl
flip_flip false b c = refl

pub edge_same : (e f : Edge) → e.node ≡ f.node → e.complemented ≡ f.complemented → e ≡ f
edge_same e f p q =
    let a : record { node = e.node; complemented = e.complemented } ≡ record {
      node = f.node;
      complemented = e.complemented;
    } = ap (λ (i : ℕ). let r : Edge = record { node = i; complemented = e.complemented } in r) p in
    let b : record { node = f.node; complemented = e.complemented } ≡ record {
      node = f.node;
      complemented = f.complemented;
    } = ap (λ (c : Bool). let r : Edge = record { node = f.node; complemented = c } in r) q in
    a ∙ b

-- each test names older nodes, also past the end
older : (nodes : List Node) → IsDiagram nodes → (i : ℕ) → 0 < i → ((node_at nodes i).low < i)
    × ((node_at nodes i).high.node < i)
unfolding node_at
older nodes ok i some = elim (cases_lt i (length nodes)) [
  | inl within ↦ ((ok.each_node i some within).low_older, (ok.each_node i some within).high_older)
  | inr past ↦ rw (get_or-eq_default nodes no_node past, node_at) (some, some)
]

node_same : (word : List Bool) (v w : ℕ → Bool) (t : Node) → v t.low ≡ w t.low → v t.high.node ≡ w t.high.node
    → choice_value word v t ≡ choice_value word w t
node_same word v w t low high =
    ap (λ b. cond (get_or word t.level false) (flip t.high.complemented b) (v t.low)) high
    ∙ ap (cond (get_or word t.level false) (flip t.high.complemented (w t.high.node))) low

module _ (nodes : List Node) (ok : IsDiagram nodes) (word : List Bool) where
  is_ranked : IsRanked (λ i. i) (node_equation nodes word)
  is_ranked zero v w same = refl
  is_ranked (suc i) v w same =
      let o = older nodes ok (suc i) (omega arith) in
      node_same word v w (node_at nodes (suc i)) (same (node_at nodes (suc i)).low o.0)
      (same (node_at nodes (suc i)).high.node o.1)

  pub zero_value : node_value nodes word 0 ≡ false
  unfolding node_value
  zero_value = some_solution (λ i. i) (node_equation nodes word) is_ranked 0

  suc_value : (i : ℕ) → node_value nodes word (suc i) ≡ choice_value word
      (node_value nodes word) (node_at nodes (suc i))
  unfolding node_value
  suc_value i = some_solution (λ i. i) (node_equation nodes word) is_ranked (suc i)

  pub step_value : (i : ℕ) → 0 < i
      → node_value nodes word i ≡ choice_value word (node_value nodes word) (node_at nodes i)
  step_value zero some = absurd (omega arith)
  step_value (suc i) some = suc_value i

-- values that agree from an input on
get_or_agree : (x y : List Bool) (v l : ℕ) → drop v x ≡ drop v y → v ≤ l → get_or x l false ≡ get_or y l false
get_or_agree x y v l same le =
    let k = l - v in
    let e : v + k ≡ l = omega arith in
    ap (λ i. get_or x i false) (sym e) ∙ sym (get_or-drop v x k false) ∙ ap (λ zs. get_or zs k false) same
    ∙ get_or-drop v y k false ∙ ap (λ i. get_or y i false) e

module _ (nodes : List Node) (ok : IsDiagram nodes) where
  above : (x y : List Bool) (v : ℕ) → drop v x ≡ drop v y → (k i : ℕ) → i < k → i < length nodes → v ≤ level_of nodes i
      → node_value nodes x i ≡ node_value nodes y i
  above x y v same zero i lt within from = absurd (omega arith)
  above x y v same (suc k) zero lt within from = zero_value nodes ok x ∙ sym (zero_value nodes ok y)
  above x y v same (suc k) (suc i) lt within from =
      let t = node_at nodes (suc i) in
      let keeps = ok.each_node (suc i) (omega arith) within in
      let l = keeps.low_older in
      let h = keeps.high_older in
      let ll = keeps.low_level in
      let hl = keeps.high_level in
      let low : node_value nodes x t.low ≡ node_value nodes y t.low = above x y v same k t.low (omega arith)
      (omega arith) (omega arith) in
      let high : node_value nodes x t.high.node ≡ node_value nodes y t.high.node = above x y v same k t.high.node
      (omega arith) (omega arith) (omega arith) in
      step_value nodes ok x (suc i) (omega arith)
      ∙ node_same x (node_value nodes x) (node_value nodes y) t low high
      ∙ ap (λ b. cond b (flip t.high.complemented (node_value nodes y t.high.node)) (node_value nodes y t.low))
      (get_or_agree x y v t.level same from)
      ∙ sym (step_value nodes ok y (suc i) (omega arith))

  -- an edge reads no input below its level
  pub same_above : (x y : List Bool) (v : ℕ) (e : Edge) → drop v x ≡ drop v y → e.node < length nodes
      → v ≤ level_of nodes e.node → edge_value nodes x e ≡ edge_value nodes y e
  same_above x y v e same within from = ap (flip e.complemented)
      (above x y v same (suc e.node) e.node (omega arith) within from)

  -- no level is above that of the constant
  levels : (k i : ℕ) → i < k → i < length nodes → level_of nodes i ≤ inputs_of nodes
  levels zero i lt within = absurd (omega arith)
  levels (suc k) zero lt within = omega arith
  levels (suc k) (suc i) lt within =
      let keeps = ok.each_node (suc i) (omega arith) within in
      let l = keeps.low_older in
      let ll = keeps.low_level in
      let below : level_of nodes (node_at nodes (suc i)).low ≤ inputs_of nodes = levels k (node_at nodes (suc i)).low
      (omega arith) (omega arith) in
      omega arith

  pub at_most_inputs : (i : ℕ) → i < length nodes → level_of nodes i ≤ inputs_of nodes
  at_most_inputs i within = levels (suc i) i (omega arith) within

  -- each other node reads an input
  pub below_inputs : (i : ℕ) → 0 < i → i < length nodes → level_of nodes i < inputs_of nodes
  below_inputs i some within =
      let keeps = ok.each_node i some within in
      let l = keeps.low_older in
      let ll = keeps.low_level in
      let below : level_of nodes (node_at nodes i).low ≤ inputs_of nodes = at_most_inputs
      (node_at nodes i).low (omega arith) in
      omega arith

  child_value : (word : List Bool) (v : ℕ → Bool) (t : Node) (side complemented : Bool)
      → get_or word t.level false ≡ side
      → flip complemented (choice_value word v t) ≡ flip (child t side complemented).complemented
      (v (child t side complemented).node)
  child_value word v t false complemented is =
      ap (λ b. flip complemented (cond b (flip t.high.complemented (v t.high.node)) (v t.low))) is
  child_value word v t true complemented is =
      ap (λ b. flip complemented (cond b (flip t.high.complemented (v t.high.node)) (v t.low))) is
      ∙ sym (flip_flip complemented t.high.complemented (v t.high.node))

  pub cofactor_cases : (e : Edge) (v : ℕ) (side : Bool) → e.node < length nodes → v < inputs_of nodes
      → ((0 < e.node) × (level_of nodes e.node ≡ v)
      × (cofactor nodes e v side ≡ child (node_at nodes e.node) side e.complemented))
      ⊎ ((level_of nodes e.node ≢ v) × (cofactor nodes e v side ≡ e))
  cofactor_cases e v side within some = elim (cases_eq (level_of nodes e.node) v) [
    | inl same ↦ inl (
      elim (cases_eq e.node 0) [
        | inl z ↦ absurd (let n = ap (level_of nodes) z in omega arith)
        | inr other ↦ omega arith
      ],
      same,
      ap (λ b. cond b (child (node_at nodes e.node) side e.complemented) e) (eq-eqb _ _ same),
    )
    | inr other ↦ inr (other, ap (λ b. cond b (child (node_at nodes e.node) side e.complemented) e) (ne_eqb _ _ other))
  ]

  -- the function of an edge, from that of its cofactor
  pub cofactor_value : (word : List Bool) (e : Edge) (v : ℕ) (side : Bool) → e.node < length nodes → v < inputs_of nodes
      → get_or word v false ≡ side
      → edge_value nodes word e ≡ edge_value nodes word (cofactor nodes e v side)
  cofactor_value word e v side within some is = elim (cofactor_cases e v side within some) [
    | inl (node, level, h) ↦
        ap (flip e.complemented) (step_value nodes ok word e.node node)
        ∙ child_value word (node_value nodes word) (node_at nodes e.node) side e.complemented
        (ap (λ i. get_or word i false) level ∙ is)
        ∙ ap (edge_value nodes word) (sym h)
    | inr (level, h) ↦ ap (edge_value nodes word) (sym h)
  ]

  child_older : (t : Node) (i : ℕ) (side complemented : Bool) → IsNode nodes i t
      → ((child t side complemented).node < i) × (t.level < level_of nodes (child t side complemented).node)
  child_older t i false complemented keeps = (keeps.low_older, keeps.low_level)
  child_older t i true complemented keeps = (keeps.high_older, keeps.high_level)

  pub record IsCofactor (e h : Edge) (v : ℕ) : Type 0 where
    pub inside : h.node < length nodes
    pub older : h.node ≤ e.node
    pub level : v < level_of nodes h.node
    pub falls : level_of nodes e.node ≡ v → h.node < e.node

  pub is_cofactor : (e : Edge) (v : ℕ) (side : Bool) → e.node < length nodes → v < inputs_of nodes
      → v ≤ level_of nodes e.node → IsCofactor e (cofactor nodes e v side) v
  is_cofactor e v side within some from = elim (cofactor_cases e v side within some) [
    | inl (node, level, h) ↦
        (let c = child_older (node_at nodes e.node) e.node side e.complemented (ok.each_node e.node node within) in
        let older = c.0 in
        let above = c.1 in
        subst (λ f. IsCofactor e f v) (sym h)
        (record { inside = omega arith; older = omega arith; level = omega arith; falls = λ same. c.0 }))
    | inr (level, h) ↦ subst (λ f. IsCofactor e f v) (sym h)
        (record { inside = within; older = omega arith; level = omega arith; falls = λ same. absurd (level same) })
  ]
