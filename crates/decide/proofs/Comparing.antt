-- From equal edges to equal answers, and from different ones to the least difference.
use Rattle.std.proofs.Common.{◌≡◌, ℕ, zero, suc, ◌<◌, Bool, List, [], ◌∷◌, length, map, get_or, refl, sym, ap, ◌∙◌}
use Rattle.std.proofs.Common.{subst, arith, Result, Ok, Err, IfErr, IsErrAnd}
use Rattle.std.specs.List.{AllByRecursion}
use Rattle.circuit.specs.PlainNets.{PlainView}
use Rattle.circuit.specs.declared.gate.Gate.{Gate}
use Rattle.decide.specs.declared.edge.Edge.{Edge}
use Rattle.decide.specs.declared.edge.Node.{Node}
use Rattle.decide.specs.declared.refusal.DecideRefusal.{DecideRefusal}
use Rattle.decide.specs.declared.refusal.DecideRefusal.TheVariants.{TooMany, Memory}
use Rattle.circuit.specs.CellNets.{IsCells, value}
use Rattle.circuit.proofs.CellAnswers.{value_fits, the_answer}
use Rattle.decide.specs.Verdicts.{shown, answer_alike, IsLeastDifference, IsRefusal}
use Rattle.decide.specs.Code.Diagrams.{inputs_of, edge_value, IsDiagram}
use Rattle.decide.specs.Code.Grown.{Grows, IsFull}
use Rattle.decide.specs.Code.Named.{AreNamed}
use Rattle.decide.specs.Code.GateFunctions.{edge_of, AreValues}
use Rattle.decide.specs.Code.Least.{IsLeastWord}
use Rattle.decide.specs.Code.Outputs.{output_edge, ReadValues}
use Rattle.decide.proofs.Choosing.{grown_value}
use Rattle.decide.proofs.Remembering.{inside_grown}
use Rattle.decide.proofs.Naming.{no_more}

-- gates keep their edges as the diagram grows
pub values_grown : (old new : List Node) → IsDiagram old → IsDiagram new → Grows old new
    → (edges : List Edge) (gates : List Gate) (count : ℕ) → AreValues old edges gates count
    → AreValues new edges gates count
values_grown old new ok ok' grows edges gates count values = record {
  size = values.size;
  inside = λ i lt. inside_grown old new ok ok' grows (edge_of edges i).node (values.inside i lt);
  values = λ i lt x. grown_value old new ok ok' grows x (edge_of edges i) (values.inside i lt) ∙ values.values i lt x;
}

all_at : (P : ℕ → Type 0) (xs : List ℕ) → AllByRecursion P xs → (k : ℕ) → k < length xs → P (get_or xs k 0)
all_at P [] all k lt = absurd (omega arith)
all_at P (x ∷ xs) all zero lt = all.0
all_at P (x ∷ xs) all (suc k) lt = all_at P xs all.1 k (omega arith)

pub output_within : (net : PlainView) → IsCells net → (k : ℕ) → k < length net.outputs
    → get_or net.outputs k 0 < length net.gates
output_within net ok k lt = all_at (λ x. x < length net.gates) net.outputs ok.each_output k lt

same_maps : (f g : ℕ → Bool) (xs ys : List ℕ) → length ys ≡ length xs
    → ((k : ℕ) → k < length xs → f (get_or xs k 0) ≡ g (get_or ys k 0)) → map f xs ≡ map g ys
same_maps f g [] [] long same = refl
same_maps f g [] (y ∷ ys) long same = absurd (omega arith)
same_maps f g (x ∷ xs) [] long same = absurd (omega arith)
same_maps f g (x ∷ xs) (y ∷ ys) long same = ap (λ (b : Bool). b ∷ map f xs) (same 0 (omega arith))
    ∙ ap (λ (bs : List Bool). g y ∷ bs) (same_maps f g xs ys (omega arith) (λ k lt. same (suc k) (omega arith)))

-- gates read their own word, where the inputs stand in their own order
pub read_values : (nodes : List Node) (edges : List Edge) (gates : List Gate)
    → AreValues nodes edges gates (length gates) → ReadValues nodes (λ x. x) edges gates
read_values nodes edges gates values = record { size = values.size; inside = values.inside; values = values.values }

-- each output names a gate that has an edge
pub outputs_inside : (net : PlainView) (edges : List Edge) → IsCells net → length edges ≡ length net.gates
    → AllByRecursion (λ x. x < length edges) net.outputs
outputs_inside net edges ok size = subst (λ m. AllByRecursion (λ x. x < m) net.outputs) (sym size) ok.each_output

-- the edge of an output, as the code reads it
pub edge_read : (edges read : List Edge) (outputs : List ℕ) (k : ℕ) (e : Edge) → e ≡ edge_of read (get_or outputs k 0)
    → read ≡ edges → e ≡ output_edge edges outputs k
edge_read edges read outputs k e is same = is ∙ ap (λ (es : List Edge). edge_of es (get_or outputs k 0)) same

-- the least word for two edges is that for the same edges
pub same_least : (n : ℕ) (nodes : List Node) (read : List Bool → List Bool) (l l' r r' : Edge)
    (word : List Bool) → l ≡ l' → r ≡ r'
    → IsLeastWord n (λ x. edge_value nodes (read x) l) (λ x. edge_value nodes (read x) r) word
    → IsLeastWord n (λ x. edge_value nodes (read x) l') (λ x. edge_value nodes (read x) r') word
same_least n nodes read l l' r r' word p q least =
    subst (λ (e : Edge). IsLeastWord n (λ x. edge_value nodes (read x) e) (λ x. edge_value nodes (read x) r') word) p
    (subst (λ (e : Edge). IsLeastWord n (λ x. edge_value nodes (read x) l)
    (λ x. edge_value nodes (read x) e) word) q least)

module _ (nodes : List Node) (read : List Bool → List Bool) (a b : PlainView) (cells : IsCells a) (cells' : IsCells b)
    (first second : List Edge)
    (values : ReadValues nodes read first a.gates) (values' : ReadValues nodes read second b.gates)
    (outputs : length b.outputs ≡ length a.outputs) where
  abbrev pub left : ℕ → Edge
  left k = output_edge first a.outputs k

  abbrev pub right : ℕ → Edge
  right k = output_edge second b.outputs k

  left_shown : (k : ℕ) → k < length a.outputs → (x : List Bool) → edge_value nodes (read x) (left k) ≡ shown a k x
  left_shown k lt x = values.values (get_or a.outputs k 0) (output_within a cells k lt) x

  right_shown : (k : ℕ) → k < length a.outputs → (x : List Bool) → edge_value nodes (read x) (right k) ≡ shown b k x
  right_shown k lt x = values'.values (get_or b.outputs k 0) (output_within b cells' k (omega arith)) x

  shown_alike : (k : ℕ) → k < length a.outputs → left k ≡ right k → (x : List Bool) → shown a k x ≡ shown b k x
  shown_alike k lt same x = sym (left_shown k lt x) ∙ ap (edge_value nodes (read x)) same ∙ right_shown k lt x

  pub all_alike : b.inputs ≡ a.inputs → ((k : ℕ) → k < length a.outputs → left k ≡ right k) → answer_alike a b
  all_alike inputs same =
      let maps : (x : List Bool) → map (value a.gates x) a.outputs ≡ map (value b.gates x) b.outputs =
      λ x. same_maps (value a.gates x) (value b.gates x) a.outputs b.outputs outputs
      (λ k lt. shown_alike k lt (same k lt) x) in
      record {
        same_inputs = inputs;
        same_outputs = outputs;
        there = λ x y long answer. record {
          values = value b.gates x;
          fit = value_fits b.inputs b.gates cells'.gates_read x;
          shown = the_answer a x y cells answer ∙ maps x;
        };
        back = λ x y long answer. record {
          values = value a.gates x;
          fit = value_fits a.inputs a.gates cells.gates_read x;
          shown = the_answer b x y cells' answer ∙ sym (maps x);
        };
      }

  pub least_difference : (k : ℕ) (word : List Bool) → k < length a.outputs → ((j : ℕ) → j < k → left j ≡ right j)
      → IsLeastWord a.inputs (λ x. edge_value nodes (read x) (left k)) (λ x. edge_value nodes (read x) (right k)) word
      → IsLeastDifference a b k word
  least_difference k word lt before least = record {
    output_within = lt;
    long = least.long;
    differ = λ same. least.differ (left_shown k lt word ∙ same ∙ sym (right_shown k lt word));
    least_output = λ j x less long. shown_alike j (omega arith) (before j less) x;
    least_word = λ x long earlier. sym (left_shown k lt x) ∙ least.least x long earlier ∙ right_shown k lt x;
  }

-- no node but the constant is there at first
pub none_named : (a b : PlainView) (nodes : List Node) → length nodes ≡ 1 → AreNamed a b nodes
none_named a b nodes size i some within = absurd (omega arith)

pub refused : (a b : PlainView) (nodes : List Node) (r : DecideRefusal) → IsDiagram nodes → inputs_of nodes ≡ a.inputs
    → AreNamed a b nodes → IsFull nodes r → IsRefusal a b r
refused a b nodes (TooMany functions) ok inputs named full = (full.0, no_more a b nodes 1000000 ok inputs named full.1)
refused a b nodes Memory ok inputs named full = tt

pub err_is : {A : Type 0} (P : DecideRefusal → Type 0) (r : Result A DecideRefusal) (e : DecideRefusal)
    → IsErrAnd r (λ x. x ≡ e) → P e → IfErr r P
err_is P (Ok x) e h p = tt
err_is P (Err x) e h p = subst P (sym h) p
