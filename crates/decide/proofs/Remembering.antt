-- What is remembered stays right, and which majorities read an input.
use Rattle.std.proofs.Common.{◌≡◌, ◌≢◌, ℕ, ◌<◌, ◌≤◌, ◌⊎◌, Bool, true, false, List, length, get_or, refl, sym, ap, ◌∙◌}
use Rattle.std.proofs.Common.{subst, arith, inl, inr, All}
use Rattle.std.proofs.lemmas.Bool.{cases_eq}
use Rattle.circuit.specs.Function.{majority}
use Rattle.decide.specs.declared.edge.Node.{Node}
use Rattle.decide.specs.declared.edge.Triple.{Triple}
use Rattle.decide.specs.declared.diagram.Entry.{Entry}
use Rattle.decide.specs.declared.diagram.TheConstants.{NOTHING}
use Rattle.decide.specs.Code.Diagrams.{level_of, inputs_of, node_value, majority_value, IsDiagram}
use Rattle.decide.specs.Code.Grown.{Grows}
use Rattle.decide.specs.Code.Majorities.{AreEdges, AreFrom, IsEntry, least_of}
use Rattle.decide.proofs.Functions.{edge_same, below_inputs, at_most_inputs}
use Rattle.decide.proofs.Choosing.{grown_value}

pub majority_same : (a b c a' b' c' : Bool) → a ≡ a' → b ≡ b' → c ≡ c' → majority a b c ≡ majority a' b' c'
majority_same a b c a' b' c' p q r = ap (λ x. majority x b c) p ∙ ap (λ x. majority a' x c) q ∙ ap (majority a' b') r

module _ (old new : List Node) (ok : IsDiagram old) (ok' : IsDiagram new) (grows : Grows old new) where
  pub level_same : (i : ℕ) → i < length old → level_of new i ≡ level_of old i
  level_same i lt = ap (λ (t : Node). t.level) (grows.same i lt)

  pub inputs_same : inputs_of new ≡ inputs_of old
  inputs_same = level_same 0 ok.some

  pub inside_grown : (i : ℕ) → i < length old → i < length new
  inside_grown i lt = let l = grows.longer in omega arith

  pub edges_grown : (t : Triple) → AreEdges old t → AreEdges new t
  edges_grown t e = record {
    first = inside_grown t.first.node e.first;
    second = inside_grown t.second.node e.second;
    third = inside_grown t.third.node e.third;
  }

  pub from_grown : (v : ℕ) (t : Triple) → AreEdges old t → AreFrom old v t → AreFrom new v t
  from_grown v t e f = record {
    first = subst (λ n. v ≤ n) (sym (level_same t.first.node e.first)) f.first;
    second = subst (λ n. v ≤ n) (sym (level_same t.second.node e.second)) f.second;
    third = subst (λ n. v ≤ n) (sym (level_same t.third.node e.third)) f.third;
  }

  pub from_shrunk : (v : ℕ) (t : Triple) → AreEdges old t → AreFrom new v t → AreFrom old v t
  from_shrunk v t e f = record {
    first = subst (λ n. v ≤ n) (level_same t.first.node e.first) f.first;
    second = subst (λ n. v ≤ n) (level_same t.second.node e.second) f.second;
    third = subst (λ n. v ≤ n) (level_same t.third.node e.third) f.third;
  }

  pub majority_grown : (t : Triple) → AreEdges old t → (x : List Bool) → majority_value new t x ≡ majority_value old t x
  majority_grown t e x = majority_same _ _ _ _ _ _ (grown_value old new ok ok' grows x t.first e.first)
      (grown_value old new ok ok' grows x t.second e.second) (grown_value old new ok ok' grows x t.third e.third)

  entry_grown : (entry : Entry) → IsEntry old entry → IsEntry new entry
  entry_grown entry right =
      let t = entry.operands in
      let is = right.is in
      record {
        operands = edges_grown t right.operands;
        is = record {
          inside = inside_grown entry.result.node is.inside;
          from = λ v f. subst (λ n. v ≤ n) (sym (level_same entry.result.node is.inside))
              (is.from v (from_shrunk v t right.operands f));
          value = λ x. grown_value old new ok ok' grows x entry.result is.inside ∙ is.value x
              ∙ sym (majority_grown t right.operands x);
        };
      }

  pub entries_grown : (computed : List Entry) → All (IsEntry old) computed → All (IsEntry new) computed
  entries_grown computed right k d lt = entry_grown (get_or computed k d) (right k d lt)

two_of_three : (a b c : Bool) → (a ≡ b) ⊎ ((a ≡ c) ⊎ (b ≡ c))
two_of_three true true c = inl refl
two_of_three true false true = inr (inl refl)
two_of_three true false false = inr (inr refl)
two_of_three false true true = inr (inr refl)
two_of_three false true false = inr (inl refl)
two_of_three false false c = inl refl

-- of three edges that are not the same, one reads an input
pub reads_some : (nodes : List Node) (t : Triple) → IsDiagram nodes → AreEdges nodes t → t.first ≢ t.second
    → t.first ≢ t.third → t.second ≢ t.third → least_of nodes t < inputs_of nodes
reads_some nodes t ok edges p q r =
    let f = at_most_inputs nodes ok t.first.node edges.first in
    let s = at_most_inputs nodes ok t.second.node edges.second in
    elim (cases_eq t.first.node 0) [
      | inr some ↦ (let b = below_inputs nodes ok t.first.node (omega arith) edges.first in omega arith)
      | inl a ↦ elim (cases_eq t.second.node 0) [
        | inr some ↦ (let b = below_inputs nodes ok t.second.node (omega arith) edges.second in omega arith)
        | inl b ↦ elim (cases_eq t.third.node 0) [
          | inr some ↦ (let c = below_inputs nodes ok t.third.node (omega arith) edges.third in omega arith)
          | inl c ↦ elim (two_of_three t.first.complemented t.second.complemented t.third.complemented) [
            | inl n ↦ absurd (p (edge_same t.first t.second (a ∙ sym b) n))
            | inr (inl n) ↦ absurd (q (edge_same t.first t.third (a ∙ sym c) n))
            | inr (inr n) ↦ absurd (r (edge_same t.second t.third (b ∙ sym c) n))
          ]
        ]
      ]
    ]

pub nothing_is : (nodes : List Node) → IsDiagram nodes → IsEntry nodes NOTHING
nothing_is nodes ok = record {
  operands = record { first = ok.some; second = ok.some; third = ok.some };
  is = record { inside = ok.some; from = λ v from. from.first; value = λ x. one (node_value nodes x 0) };
}
  where
    one : (b : Bool) → b ≡ majority b b b
    one true = refl
    one false = refl
