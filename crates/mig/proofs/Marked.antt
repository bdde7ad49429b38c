-- A walk down marks all nodes that the outputs need.
use Rattle.std.specs.Prelude.{◌≡◌, ℕ, zero, suc, ◌+◌, ◌*◌, ◌/◌, ◌<◌, ◌≤◌, Bool, true, false, List, [], ◌∷◌, length}
use Rattle.std.specs.Prelude.{Some, slice_get, slice_index_or, slice_set}
use Rattle.std.specs.List.{AllByRecursion}
use Rattle.std.proofs.Common.{refl, sym, ap, ◌∙◌, subst, arith, inl, inr}
use Rattle.std.proofs.lemmas.Bool.{cases_lt}
use Rattle.std.proofs.lemmas.List.{length-set, get_or-set_same, get_or-set_other}
use Rattle.std.proofs.lemmas.Option.{slice_get_within}
use Rattle.mig.specs.declared.node.Node.{Node}
use Rattle.mig.specs.Graphs.{AreBelow, AreNodes, bound}
use Rattle.mig.specs.Code.Needed.{mark_three, IsMarked, AreMarked, AreNeeded}

set_kept : (ms : List Bool) (x i : ℕ) → slice_index_or ms i false ≡ true
    → slice_index_or (slice_set ms x true) i false ≡ true
set_kept [] x i e = e
set_kept (m ∷ ms) zero zero e = refl
set_kept (m ∷ ms) zero (suc i) e = e
set_kept (m ∷ ms) (suc x) zero e = e
set_kept (m ∷ ms) (suc x) (suc i) e = set_kept ms x i e

pub kept : (ms : List Bool) (x l : ℕ) → IsMarked ms l → IsMarked (slice_set ms x true) l
kept ms x l is = record { marked = set_kept ms x (l / 2) is.marked }

pub here : (ms : List Bool) (l : ℕ) → l / 2 < length ms → IsMarked (slice_set ms (l / 2) true) l
here ms l lt = record { marked = get_or-set_same ms (l / 2) true false lt }

three_kept : (ms : List Bool) (node : Node) (l : ℕ) → IsMarked ms l → IsMarked (mark_three ms node) l
three_kept ms node l is = kept _ (node.z / 2) l (kept _ (node.y / 2) l (kept ms (node.x / 2) l is))

three_length : (ms : List Bool) (node : Node) → length (mark_three ms node) ≡ length ms
three_length ms node =
    length-set (slice_set (slice_set ms (node.x / 2) true) (node.y / 2) true) (node.z / 2) true
    ∙ length-set (slice_set ms (node.x / 2) true) (node.y / 2) true ∙ length-set ms (node.x / 2) true

three_marked : (ms : List Bool) (node : Node) → AreBelow (2 * length ms) node → AreMarked (mark_three ms node) node
three_marked ms node low =
    let one = slice_set ms (node.x / 2) true in
    let two = slice_set one (node.y / 2) true in
    let p = length-set ms (node.x / 2) true in
    let q = length-set one (node.y / 2) true in
    let a = low.x in let b = low.y in let c = low.z in
    record {
      x = kept two (node.z / 2) node.x (kept one (node.y / 2) node.x (here ms node.x (omega arith)));
      y = kept two (node.z / 2) node.y (here one node.y (omega arith));
      z = here two node.z (omega arith);
    }

three_other : (ms : List Bool) (node : Node) (i : ℕ) → AreBelow (2 * i) node
    → slice_index_or (mark_three ms node) i false ≡ slice_index_or ms i false
three_other ms node i low =
    let one = slice_set ms (node.x / 2) true in
    let two = slice_set one (node.y / 2) true in
    let a = low.x in let b = low.y in let c = low.z in
    get_or-set_other two (node.z / 2) i true false (omega arith)
    ∙ get_or-set_other one (node.y / 2) i true false (omega arith)
    ∙ get_or-set_other ms (node.x / 2) i true false (omega arith)

-- the first outputs are marked
pub record OutputsMarked (ms : List Bool) (outputs : List ℕ) (count : ℕ) : Type 0 where
  pub each : (i : ℕ) → i < count → IsMarked ms (slice_index_or outputs i 0)

-- the nodes of literals of marked nodes are marked, from node k on
pub record ClosedFrom (k inputs : ℕ) (nodes : List Node) (ms : List Bool) : Type 0 where
  pub of_nodes : (j : ℕ) (node : Node) → k ≤ j → slice_get nodes j ≡ Some node
      → slice_index_or ms (1 + inputs + j) false ≡ true → AreMarked ms node

pub outputs_more : (ms more : List Bool) (outputs : List ℕ) (count : ℕ)
    → more ≡ slice_set ms (slice_index_or outputs count 0 / 2) true
    → slice_index_or outputs count 0 < 2 * length ms → OutputsMarked ms outputs count
    → OutputsMarked more outputs (count + 1)
outputs_more ms more outputs count is lt marked = record {
  each = λ i below. elim (cases_lt i count) [
    | inl less ↦ subst (λ (t : List Bool). IsMarked t (slice_index_or outputs i 0)) (sym is)
        (kept ms _ _ (marked.each i less))
    | inr past ↦
        let e : count ≡ i = omega arith in
        subst (λ j. IsMarked more (slice_index_or outputs j 0)) e
        (subst (λ (t : List Bool). IsMarked t (slice_index_or outputs count 0)) (sym is)
        (here ms (slice_index_or outputs count 0) (omega arith)))
  ];
}

pub set_length : (ms more : List Bool) (x : ℕ) → more ≡ slice_set ms x true → length more ≡ length ms
set_length ms more x is = ap length is ∙ length-set ms x true

pub outputs_kept : (ms more : List Bool) (outputs : List ℕ) (count : ℕ) (node : Node) → more ≡ mark_three ms node
    → OutputsMarked ms outputs count → OutputsMarked more outputs count
outputs_kept ms more outputs count node is marked = record {
  each = λ i below. subst (λ (t : List Bool). IsMarked t (slice_index_or outputs i 0)) (sym is)
      (three_kept ms node _ (marked.each i below));
}

pub three_size : (ms more : List Bool) (node : Node) → more ≡ mark_three ms node → length more ≡ length ms
three_size ms more node is = ap length is ∙ three_length ms node

pub closed_none : (inputs : ℕ) (nodes : List Node) (ms : List Bool) → ClosedFrom (length nodes) inputs nodes ms
closed_none inputs nodes ms =
    record { of_nodes = λ j node le is marked. absurd (let lt = slice_get_within nodes j node is in omega arith) }

marked_still : (ms : List Bool) (node to : Node) → AreMarked ms to → AreMarked (mark_three ms node) to
marked_still ms node to are =
    record { x = three_kept ms node to.x are.x; y = three_kept ms node to.y are.y; z = three_kept ms node to.z are.z }

wider : (m n : ℕ) (node : Node) → m ≤ n → AreBelow m node → AreBelow n node
wider m n node le low = record {
  x = (let lt = low.x in omega arith);
  y = (let lt = low.y in omega arith);
  z = (let lt = low.z in omega arith);
}

-- a marked node's turn
pub closed_marked : (k inputs : ℕ) (nodes : List Node) (ms more : List Bool) (node : Node) → AreNodes inputs nodes
    → length ms ≡ 1 + inputs + length nodes
    → slice_get nodes k ≡ Some node → more ≡ mark_three ms node → ClosedFrom (k + 1) inputs nodes ms
    → ClosedFrom k inputs nodes more
closed_marked k inputs nodes ms more node ok size at is closed = record {
  of_nodes = λ j to le there marked.
      let low = ok.lower k node at in
      let lt = slice_get_within nodes k node at in
      subst (λ (t : List Bool). AreMarked t to) (sym is)
      (elim (cases_lt k j) [
        | inl above ↦
            marked_still ms node to (closed.of_nodes j to (omega arith) there
            (sym (three_other ms node (1 + inputs + j)
            (wider (bound inputs k) (2 * (1 + inputs + j)) node (omega arith) low))
            ∙ ap (λ (t : List Bool). slice_index_or t (1 + inputs + j) false) (sym is) ∙ marked))
        | inr same ↦
            let e : j ≡ k = omega arith in
            let both : Some node ≡ Some to = sym at ∙ ap (slice_get nodes) (sym e) ∙ there in
            let eq : node ≡ to = cc in
            subst (λ (t : Node). AreMarked (mark_three ms node) t) eq
            (three_marked ms node (wider (bound inputs k) (2 * length ms) node (omega arith) low))
      ]);
}

-- and that of a node that is not
pub closed_other : (k inputs : ℕ) (nodes : List Node) (ms : List Bool)
    → slice_index_or ms (1 + inputs + k) false ≡ false → ClosedFrom (k + 1) inputs nodes ms
    → ClosedFrom k inputs nodes ms
closed_other k inputs nodes ms is closed = record {
  of_nodes = λ j to le there marked. elim (cases_lt k j) [
    | inl above ↦ closed.of_nodes j to (omega arith) there marked
    | inr same ↦
        let e : k ≡ j = omega arith in
        let both : true ≡ false = sym marked ∙ ap (λ i. slice_index_or ms (1 + inputs + i) false) (sym e) ∙ is in
        cc
  ];
}

all_outputs : (ms : List Bool) (outputs : List ℕ)
    → ((i : ℕ) → i < length outputs → IsMarked ms (slice_index_or outputs i 0)) → AllByRecursion (IsMarked ms) outputs
all_outputs ms [] each = tt
all_outputs ms (o ∷ os) each = (each 0 (omega arith), all_outputs ms os (λ i lt. each (suc i) (omega arith)))

pub all_needed : (inputs : ℕ) (nodes : List Node) (outputs : List ℕ) (ms : List Bool) (k : ℕ) → k ≤ 0
    → OutputsMarked ms outputs (length outputs) → ClosedFrom k inputs nodes ms → AreNeeded inputs nodes outputs ms
all_needed inputs nodes outputs ms k least marked closed = record {
  of_outputs = all_outputs ms outputs marked.each;
  closed = record { of_nodes = λ j node is there. closed.of_nodes j node (omega arith) is there };
}
