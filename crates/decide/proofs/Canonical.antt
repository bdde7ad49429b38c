-- No two edges have the same function.
use Rattle.std.proofs.Common.{◌≡◌, ◌≢◌, ℕ, zero, suc, ◌+◌, ◌<◌, ◌≤◌, ◌⊎◌, Bool, true, false, List, length, get_or, set}
use Rattle.std.proofs.Common.{refl, sym, ap, ◌∙◌, arith, inl, inr, replicate}
use Rattle.std.proofs.lemmas.Bool.{cases_lt, cases_eq, cases_order}
use Rattle.std.proofs.lemmas.List.{get_or-set_same, drop-set-lt, length-set, length-replicate}
use Rattle.decide.specs.declared.edge.Edge.{Edge}
use Rattle.decide.specs.declared.edge.Node.{Node}
use Rattle.decide.specs.Subfunctions.{Differ}
use Rattle.decide.specs.Code.Diagrams.{flip, regular, node_at, level_of, inputs_of, edge_value, node_value, child}
use Rattle.decide.specs.Code.Diagrams.{cofactor, IsDiagram}
use Rattle.decide.proofs.Functions.{edge_same, same_above, below_inputs, cofactor_value, is_cofactor, cofactor_cases}

pub flip_one : (c a b : Bool) → flip c a ≡ flip c b → a ≡ b
flip_one true true true e = refl
flip_one true false false e = refl
flip_one true true false e = sym e
flip_one true false true e = sym e
flip_one false a b e = e

pub flip_same : (a b c : Bool) → flip a c ≡ flip b c → a ≡ b
flip_same true true c e = refl
flip_same false false c e = refl
flip_same true false true e = absurd (let f : false ≡ true = e in cc)
flip_same true false false e = absurd (let f : true ≡ false = e in cc)
flip_same false true true e = absurd (let f : true ≡ false = e in cc)
flip_same false true false e = absurd (let f : false ≡ true = e in cc)

pub edge_cases : (e f : Edge) → (e ≡ f) ⊎ (e ≢ f)
edge_cases e f = elim (cases_eq e.node f.node) [
  | inl node ↦ go e.complemented f.complemented refl refl node
  | inr other ↦ inr (λ p. other (ap (λ (g : Edge). g.node) p))
]
  where
    same : e.node ≡ f.node → e.complemented ≡ f.complemented → (e ≡ f) ⊎ (e ≢ f)
    same node complemented = inl (edge_same e f node complemented)

    go : (b c : Bool) → e.complemented ≡ b → f.complemented ≡ c → e.node ≡ f.node → (e ≡ f) ⊎ (e ≢ f)
    go true true p q node = same node (p ∙ sym q)
    go false false p q node = same node (p ∙ sym q)
    go true false p q node = inr
        (λ r. absurd (let z : true ≡ false = sym p ∙ ap (λ (g : Edge). g.complemented) r ∙ q in cc))
    go false true p q node = inr
        (λ r. absurd (let z : false ≡ true = sym p ∙ ap (λ (g : Edge). g.complemented) r ∙ q in cc))

pub node_same : (s t : Node) → s.level ≡ t.level → s.low ≡ t.low → s.high ≡ t.high → s ≡ t
node_same s t p q r =
    let a : record { level = s.level; low = s.low; high = s.high } ≡ record {
      level = t.level;
      low = s.low;
      high = s.high;
    } = ap (λ (i : ℕ). let u : Node = record { level = i; low = s.low; high = s.high } in u) p in
    let b : record { level = t.level; low = s.low; high = s.high } ≡ record {
      level = t.level;
      low = t.low;
      high = s.high;
    } = ap (λ (i : ℕ). let u : Node = record { level = t.level; low = i; high = s.high } in u) q in
    let c : record { level = t.level; low = t.low; high = s.high } ≡ record {
      level = t.level;
      low = t.low;
      high = t.high;
    } = ap (λ (g : Edge). let u : Node = record { level = t.level; low = t.low; high = g } in u) r in
    a ∙ b ∙ c

module _ (nodes : List Node) (ok : IsDiagram nodes) where
  abbrev pub DifferAt : Edge → Edge → Type 0
  DifferAt e f = Differ (inputs_of nodes) (λ x. edge_value nodes x e) (λ x. edge_value nodes x f)

  swapped : (e f : Edge) → DifferAt e f → DifferAt f e
  swapped e f d = record { word = d.word; long = d.long; differ = λ p. d.differ (sym p) }

  -- the node of a test is one
  one_node : (i j : ℕ) → 0 < i → 0 < j → i < length nodes → j < length nodes → node_at nodes i ≡ node_at nodes j → i ≡ j
  one_node i j some some' within within' same = elim (cases_order i j) [
    | inl e ↦ e
    | inr (inl lt) ↦ absurd (ok.once i j some lt within' same)
    | inr (inr gt) ↦ absurd (ok.once j i some' gt within (sym same))
  ]

  -- a word on which cofactors differ leads to one on which the edges do
  from_cofactor : (e f : Edge) (v : ℕ) (side : Bool) → e.node < length nodes
      → f.node < length nodes → v < inputs_of nodes
      → v ≤ level_of nodes e.node → v ≤ level_of nodes f.node
      → DifferAt (cofactor nodes e v side) (cofactor nodes f v side) → DifferAt e f
  from_cofactor e f v side within within' some from from' d =
      let word = set d.word v side in
      let at : get_or word v false ≡ side = get_or-set_same d.word v side false (let z = d.long in omega arith) in
      let value : (g : Edge) → g.node < length nodes → v ≤ level_of nodes g.node
      → edge_value nodes word g ≡ edge_value nodes d.word (cofactor nodes g v side)
      = λ g inside up. cofactor_value nodes ok word g v side inside some at
      ∙ same_above nodes ok word d.word (v + 1) (cofactor nodes g v side)
      (drop-set-lt (v + 1) d.word v side (omega arith)) (is_cofactor nodes ok g v side inside some up).inside
      (let z = (is_cofactor nodes ok g v side inside some up).level in omega arith) in
      record {
        word = word;
        long = length-set d.word v side ∙ d.long;
        differ = λ p. d.differ (sym (value e within from) ∙ p ∙ value f within' from');
      }

  -- edges with the same cofactors are the same
  pub same_cofactors : (e f : Edge) (v : ℕ) → e.node < length nodes → f.node < length nodes → v < inputs_of nodes
      → level_of nodes e.node ≡ v
      → cofactor nodes e v false ≡ cofactor nodes f v false → cofactor nodes e v true ≡ cofactor nodes f v true → e ≡ f
  same_cofactors e f v within within' some level low high = elim (cofactor_cases nodes ok e v false within some) [
    | inr (other, h) ↦ absurd (other level)
    | inl (node, is, h) ↦
        elim (cofactor_cases nodes ok e v true within some) [
          | inr (other, h') ↦ absurd (other level)
          | inl (node', is', h') ↦
              elim (cofactor_cases nodes ok f v false within' some) [
                | inl (fnode, fis, fh) ↦
                    elim (cofactor_cases nodes ok f v true within' some) [
                      | inr (other, fh') ↦ absurd (other fis)
                      | inl (fnode', fis', fh') ↦
                          (let s = node_at nodes e.node in
                          let t = node_at nodes f.node in
                          let l : child s false e.complemented ≡ child t false f.complemented = sym h ∙ low ∙ fh in
                          let u : child s true e.complemented ≡ child t true f.complemented = sym h' ∙ high ∙ fh' in
                          let complemented : e.complemented ≡ f.complemented = ap (λ (g : Edge). g.complemented) l in
                          let same : s.high ≡ t.high = edge_same s.high t.high (ap (λ (g : Edge). g.node) u)
                          (flip_one f.complemented _ _ (ap (λ b. flip b s.high.complemented) (sym complemented)
                          ∙ ap (λ (g : Edge). g.complemented) u)) in
                          edge_same e f (one_node e.node f.node node fnode within within'
                          (node_same s t (is ∙ sym fis) (ap (λ (g : Edge). g.node) l) same)) complemented)
                    ]
                | inr (fis, fh) ↦
                    elim (cofactor_cases nodes ok f v true within' some) [
                      | inl (fnode', fis', fh') ↦ absurd (fis fis')
                      | inr (fis', fh') ↦
                          (let s = node_at nodes e.node in
                          let u : child s true e.complemented ≡ child s false e.complemented = sym h' ∙ high ∙ fh'
                          ∙ sym fh ∙ sym low ∙ h in
                          absurd ((ok.each_node e.node node within).reads
                          (edge_same s.high (regular s.low) (ap (λ (g : Edge). g.node) u)
                          (flip_one e.complemented s.high.complemented false (ap (λ (g : Edge). g.complemented) u
                          ∙ flip_false e.complemented)))))
                    ]
              ]
        ]
  ]
    where
      flip_false : (b : Bool) → b ≡ flip b false
      flip_false true = refl
      flip_false false = refl

  -- constants that are not the same differ at every word
  constants : (e f : Edge) → e.node ≡ 0 → f.node ≡ 0 → e ≢ f → DifferAt e f
  constants e f p q other = record {
    word = replicate (inputs_of nodes) false;
    long = length-replicate (inputs_of nodes) false;
    differ = λ same. other (edge_same e f (p ∙ sym q)
        (flip_same e.complemented f.complemented (node_value nodes (replicate (inputs_of nodes) false) 0)
        (ap (λ i. flip e.complemented (node_value nodes (replicate (inputs_of nodes) false) i)) (sym p) ∙ same
        ∙ ap (λ i. flip f.complemented (node_value nodes (replicate (inputs_of nodes) false) i)) q)));
  }

  module _ (k : ℕ) (rest : (e f : Edge) → e.node + f.node < k → e.node < length nodes → f.node < length nodes
      → e ≢ f → DifferAt e f) where
    -- the first edge reads the least input
    first_reads : (e f : Edge) → e.node + f.node < suc k → e.node < length nodes → f.node < length nodes
        → level_of nodes e.node ≤ level_of nodes f.node → e ≢ f → DifferAt e f
    first_reads e f lt within within' le other = elim (cases_eq e.node 0) [
      | inl z ↦ elim (cases_eq f.node 0) [
        | inl z' ↦ constants e f z z' other
        | inr some ↦ absurd (let n = ap (level_of nodes) z in let b = below_inputs nodes ok f.node
            (omega arith) within' in omega arith)
      ]
      | inr some ↦
          (let v = level_of nodes e.node in
          let b : v < inputs_of nodes = below_inputs nodes ok e.node (omega arith) within in
          let by : (side : Bool) → cofactor nodes e v side ≢ cofactor nodes f v side → DifferAt e f
          = λ side differ. (let p = is_cofactor nodes ok e v side within b (omega arith) in
          let q = is_cofactor nodes ok f v side within' b le in
          let pi = p.inside in let qi = q.inside in let pf = p.falls refl in let qo = q.older in
          from_cofactor e f v side within within' b (omega arith) le
          (rest (cofactor nodes e v side) (cofactor nodes f v side) (omega arith) pi qi differ)) in
          elim (edge_cases (cofactor nodes e v false) (cofactor nodes f v false)) [
            | inr low ↦ by false low
            | inl low ↦ elim (edge_cases (cofactor nodes e v true) (cofactor nodes f v true)) [
              | inr high ↦ by true high
              | inl high ↦ absurd (other (same_cofactors e f v within within' b refl low high))
            ]
          ])
    ]

  differ_within : (k : ℕ) (e f : Edge) → e.node + f.node < k → e.node < length nodes
      → f.node < length nodes → e ≢ f → DifferAt e f
  differ_within zero e f lt within within' other = absurd (omega arith)
  differ_within (suc k) e f lt within within' other = elim (cases_lt (level_of nodes e.node) (level_of nodes f.node)) [
    | inl less ↦ first_reads k (differ_within k) e f lt within within' (omega arith) other
    | inr more ↦ swapped f e (first_reads k (differ_within k) f e
        (omega arith) within' within more (λ p. other (sym p)))
  ]

  -- two edges that are not the same differ at some word
  pub edges_differ : (e f : Edge) → e.node < length nodes → f.node < length nodes → e ≢ f → DifferAt e f
  edges_differ e f within within' other = differ_within (suc (e.node + f.node)) e f (omega arith) within within' other
