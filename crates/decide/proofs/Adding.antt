-- A diagram with one more node.
use Rattle.std.proofs.Common.{◌≡◌, ℕ, zero, suc, ◌+◌, ◌<◌, ◌≤◌, ◌⊎◌, Bool, List, [], ◌∷◌, ◌++◌, length, get_or}
use Rattle.std.proofs.Common.{slice_get, Some, refl, sym, ap, ◌∙◌, subst, arith, inl, inr, length-append, true, false}
use Rattle.std.proofs.Common.{if◌then◌else◌, ◌&&◌, eqb, Result, Ok, Err, OnOk, OnErr}
use Rattle.std.proofs.lemmas.Bool.{cases_lt, eq-eqb}
use Rattle.std.proofs.Math.Seq.{get_or-append_seam}
use Rattle.std.proofs.lemmas.List.{get_or_append_left}
use Rattle.std.proofs.lemmas.Option.{slice_get-get_or, get_or_from_slice_get, slice_get_within}
use Rattle.std.proofs.lemmas.List.Folds.{list_any_at}
use Rattle.std.specs.List.{list_any}
use Rattle.std.proofs.Math.Bool.{beq}
use Rattle.decide.specs.declared.edge.Edge.{Edge}
use Rattle.decide.specs.declared.edge.Node.{Node}
use Rattle.decide.specs.Code.Diagrams.{no_node, flip, node_at, level_of, IsNode, IsDiagram}
use Rattle.decide.specs.Code.Grown.{Grows, Adds, Represents}
use Rattle.decide.specs.Code.Named.{IsNamed, AreNamed}
use Rattle.circuit.specs.PlainNets.{PlainView}
use Rattle.decide.proofs.Functions.{edge_same}
use Rattle.decide.proofs.Choosing.{grows_same, named_more}

module _ (nodes : List Node) (node : Node) where
  abbrev pub more : List Node
  more = nodes ++ node ∷ []

  pub size_more : length more ≡ length nodes + 1
  size_more = length-append nodes (node ∷ [])

  pub node_before : (i : ℕ) → i < length nodes → node_at more i ≡ node_at nodes i
  unfolding node_at
  node_before i lt = get_or_append_left nodes (node ∷ []) no_node i lt

  pub node_last : node_at more (length nodes) ≡ node
  unfolding node_at
  node_last = get_or-append_seam nodes node [] no_node

  pub grows_more : Grows nodes more
  grows_more = record { longer = (let s = size_more in omega arith); same = node_before }

  level_before : (i : ℕ) → i < length nodes → level_of more i ≡ level_of nodes i
  level_before i lt = ap (λ (t : Node). t.level) (node_before i lt)

  node_more : (i : ℕ) (t : Node) → i ≤ length nodes → IsNode nodes i t → IsNode more i t
  node_more i t le keeps =
      let l = keeps.low_older in
      let h = keeps.high_older in
      record {
        low_older = l;
        high_older = h;
        low_level = (let e = level_before t.low (omega arith) in let k = keeps.low_level in omega arith);
        high_level = (let e = level_before t.high.node (omega arith) in let k = keeps.high_level in omega arith);
        reads = keeps.reads;
      }

  last_or_before : (i : ℕ) → i < length more → (i ≡ length nodes) ⊎ (i < length nodes)
  last_or_before i lt = elim (cases_lt i (length nodes)) [
    | inl less ↦ inr less
    | inr ge ↦ inl (let s = size_more in omega arith)
  ]

  pub diagram_more : IsDiagram nodes → length nodes ≤ 1000001 → IsNode nodes (length nodes) node
      → ((i : ℕ) → 0 < i → i < length nodes → node_at nodes i ≡ node → ⊥) → IsDiagram more
  diagram_more ok room keeps fresh = record {
    some = (let s = size_more in omega arith);
    few = (let s = size_more in omega arith);
    each_node = λ i some within. elim (last_or_before i within) [
      | inl last ↦ subst (λ j. IsNode more j (node_at more j)) (sym last)
          (subst (λ t. IsNode more (length nodes) t) (sym node_last)
          (node_more (length nodes) node (omega arith) keeps))
      | inr less ↦ subst (λ t. IsNode more i t) (sym (node_before i less))
          (node_more i (node_at nodes i) (omega arith) (ok.each_node i some less))
    ];
    once = λ i j some lt within same. elim (last_or_before j within) [
      | inl last ↦ fresh i some (omega arith) (sym (node_before i (omega arith)) ∙ same
          ∙ ap (node_at more) last ∙ node_last)
      | inr less ↦ ok.once i j some lt less (sym (node_before i (omega arith)) ∙ same ∙ node_before j less)
    ];
  }

-- the constant alone
pub table_begins : (nodes : List Node) → length nodes ≡ 1 → IsDiagram nodes
table_begins nodes size = record {
  some = omega arith;
  few = omega arith;
  each_node = λ i some within. absurd (omega arith);
  once = λ i j some lt within same. absurd (omega arith);
}

module _ (old new : List Node) (t : Node) (adds : Adds old t new) where
  pub adds_grows : Grows old new
  adds_grows = elim adds [
    | inl same ↦ subst (λ ns. Grows old ns) (sym same) (grows_same old)
    | inr more ↦ subst (λ ns. Grows old ns) (sym more.0) (grows_more old t)
  ]

  pub adds_diagram : IsDiagram old → length old ≤ 1000001 → IsNode old (length old) t → IsDiagram new
  unfolding node_at
  adds_diagram ok room keeps = elim adds [
    | inl same ↦ subst (λ ns. IsDiagram ns) (sym same) ok
    | inr more ↦ subst (λ ns. IsDiagram ns) (sym more.0) (diagram_more old t ok room keeps (fresh more.1))
  ]
    where
      fresh : ((i : ℕ) → slice_get old i ≡ Some t → ⊥) → (i : ℕ) → 0 < i → i < length old → node_at old i ≡ t → ⊥
      fresh none i some lt same = none i (slice_get-get_or old i no_node lt ∙ ap (λ (u : Node). Some u) same)

  pub stored_is : (i : ℕ) → slice_get new i ≡ Some t → node_at new i ≡ t
  unfolding node_at
  stored_is i at = get_or_from_slice_get new i t no_node at

pub adds_of : (eq : Node → Node → Bool) (old new : List Node) (t : Node) → eq t t ≡ true
    → new ≡ (if list_any (eq t) old then old else old ++ t ∷ []) → Adds old t new
adds_of eq old new t same is = go (list_any (eq t) old) refl is
  where
    absent : list_any (eq t) old ≡ false → (i : ℕ) → slice_get old i ≡ Some t → ⊥
    absent none i at =
        let lt : i < length old = slice_get_within old i t at in
        let found = list_any_at (eq t) old i t lt (ap (eq t) (get_or_from_slice_get old i t t at) ∙ same) in
        absurd (let z : true ≡ false = sym found ∙ none in cc)

    go : (b : Bool) → list_any (eq t) old ≡ b → new ≡ (if b then old else old ++ t ∷ []) → Adds old t new
    go true has e = inl e
    go false none e = inr (e, absent none)

pub begins_node : (old new : List Node) (t : Node) (i : ℕ) → old ≡ [] → slice_get new i ≡ Some t
    → Adds old t new → node_at new 0 ≡ t
unfolding node_at
begins_node old new t i empty stored adds = elim adds [
  | inl same ↦ absurd (let e = ap (λ (ns : List Node). length ns) (same ∙ empty) in let w =
      slice_get_within new i t stored in omega arith)
  | inr more ↦ ap (λ (ns : List Node). get_or ns 0 no_node) (more.0 ∙ ap (λ (ns : List Node). ns ++ t ∷ []) empty)
]

-- the derived `==`
abbrev pub node_eq : Node → Node → Bool
node_eq s t = eqb s.level
    t.level && (eqb s.low t.low && (eqb s.high.node t.high.node && beq s.high.complemented t.high.complemented))

pub node_eq_same : (t : Node) → node_eq t t ≡ true
node_eq_same t = go (eqb t.level t.level) (eqb t.low t.low) (eqb t.high.node t.high.node)
    (beq t.high.complemented t.high.complemented) (eq-eqb _ _ refl) (eq-eqb _ _ refl) (eq-eqb _ _ refl)
    (same t.high.complemented)
  where
    same : (b : Bool) → beq b b ≡ true
    same true = refl
    same false = refl

    go : (a b c d : Bool) → a ≡ true → b ≡ true → c ≡ true → d ≡ true → (a && (b && (c && d))) ≡ true
    go a b c d p q r s = ap (λ x. x && (b && (c && d))) p ∙ ap (λ x. x && (c && d)) q ∙ ap (λ x. x && d) r ∙ s

-- the test of a choice between functions that are not the same
pub choice_node : (nodes : List Node) (level : ℕ) (low high other : Edge) → (low ≡ high → ⊥)
    → other ≡ record { node = high.node; complemented = flip low.complemented high.complemented }
    → low.node < length nodes → high.node < length nodes → level < level_of nodes low.node
    → level < level_of nodes high.node
    → IsNode nodes (length nodes) (record { level = level; low = low.node; high = other })
choice_node nodes level low high other differ is inside inside' above above' = record {
  low_older = inside;
  high_older = subst (λ n. n < length nodes) (sym node) inside';
  low_level = above;
  high_level = subst (λ n. level < level_of nodes n) (sym node) above';
  reads = λ same. differ (edge_same low high (sym (sym node ∙ ap (λ (e : Edge). e.node) same))
      (sign low.complemented high.complemented (sym (ap (λ (e : Edge). e.complemented) is)
      ∙ ap (λ (e : Edge). e.complemented) same)));
}
  where
    node : other.node ≡ high.node
    node = ap (λ (e : Edge). e.node) is

    sign : (b c : Bool) → flip b c ≡ false → b ≡ c
    sign true true e = refl
    sign true false e = absurd (let z : true ≡ false = e in cc)
    sign false true e = absurd (let z : true ≡ false = e in cc)
    sign false false e = refl

pub inserted_diagram : {A E : Type 0} (r : Result A E) (old new : List Node) (t : Node) → OnOk r (Adds old t new)
    → OnErr r (new ≡ old) → IsDiagram old → length old ≤ 1000001 → IsNode old (length old) t → IsDiagram new
inserted_diagram (Ok x) old new t adds same ok room keeps = adds_diagram old new t adds ok room keeps
inserted_diagram (Err e) old new t adds same ok room keeps = subst (λ ns. IsDiagram ns) (sym same) ok

-- each node is named where the old ones are, and the test's
pub named_added : (old new : List Node) (t : Node) → IsDiagram old → IsDiagram new → Adds old t new
    → (a b : PlainView) (f : List Bool → Bool) (bound : ℕ) (e : Edge) → slice_get new e.node ≡ Some t
    → AreNamed a b old → IsNamed a b f → Represents new bound f e → AreNamed a b new
named_added old new t ok ok' adds a b f bound e stored named is has = let grows =
    adds_grows old new t adds in elim adds [
      | inl same ↦ subst (λ (ns : List Node). AreNamed a b ns) (sym same) named
      | inr more ↦
          (let size = ap (λ (ns : List Node). length ns) more.0 in
          let one = size_more old t in
          let inside = has.inside in
          let last : e.node ≡ length old = elim (cases_lt e.node (length old)) [
            | inl less ↦ absurd (more.1 e.node (slice_get-get_or old e.node no_node less
                ∙ ap (λ (u : Node). Some u) (sym (get_or_append_left old (t ∷ []) no_node e.node less)
                ∙ ap (λ (ns : List Node). get_or ns e.node no_node) (sym more.0)
                ∙ get_or_from_slice_get new e.node t no_node stored)))
            | inr ge ↦ omega arith
          ] in
          named_more old new ok ok' grows a b f bound e named is has (omega arith) last)
    ]

-- a test of an input is not that of the constant
pub stored_some : (old new : List Node) (t : Node) (i : ℕ) → IsDiagram old → Grows old new → node_at new i ≡ t
    → t.level < level_of old 0 → 0 < i
stored_some old new t zero ok grows same below =
    absurd (let e = ap (λ (u : Node). u.level) (sym same ∙ grows.same 0 ok.some) in omega arith)
stored_some old new t (suc i) ok grows same below = omega arith
