-- A graph made anew has the answers of the graph that it is made of.
use Rattle.std.specs.Prelude.{◌≡◌, ℕ, zero, suc, ◌+◌, ◌-◌, ◌*◌, ◌/◌, ◌%◌, ◌<◌, ◌^◌, not, cond, Bool, true, false, List}
use Rattle.std.specs.Prelude.{[], ◌∷◌, ◌++◌, length, map, Some, slice_get, slice_index_or, IfOk}
use Rattle.std.specs.List.{AllByRecursion}
use Rattle.std.proofs.Common.{Result, Ok, Err, refl, sym, ap, ◌∙◌, subst, arith, inl, inr}
use Rattle.std.proofs.lemmas.Bool.{cases_lt}
use Rattle.std.proofs.lemmas.Bool.Decides.{eqb_tells}
use Rattle.std.proofs.lemmas.List.{length-map}
use Rattle.circuit.specs.Function.{majority}
use Rattle.mig.specs.declared.node.Node.{Node}
use Rattle.mig.specs.Graphs.{GraphView, IsGraph, AreBelow, literal_value, node_value, Fits, bound, turned}
use Rattle.mig.specs.Code.Needed.{IsMarked, AreMarked, AreClosed}
use Rattle.mig.specs.Building.{BuilderView, IsBuilder, Grown, Gives, limit}
use Rattle.mig.specs.Carried.{Shows, fits_graph}
use Rattle.mig.specs.Code.Rebuilding.{CarriesGraph, carried}
use Rattle.mig.specs.Passes.{IsRebuilt}
use Rattle.mig.proofs.Folded.{turned_value, turned_below}
use Rattle.mig.proofs.Valued.{some_fits}
use Rattle.mig.proofs.Built.{fits_before, even_value, odd_value, whole_value}
use Rattle.mig.proofs.Shown.{shows_later, seam, front, one_longer}

-- a literal of what grows has the value of one of the graph
pub record ShowsLiteral (graph : GraphView) (b : BuilderView) (l m : ℕ) : Type 0 where
  pub below : m < limit b
  pub same : (word : List Bool) (v w : ℕ → Bool) → fits_graph graph word v → Fits b.inputs b.nodes word w
      → literal_value w m ≡ literal_value v l

module _ (graph : GraphView) (ok : IsGraph graph) (marks : List Bool) (b : BuilderView) (found : List ℕ)
    (carries : CarriesGraph graph marks b found) where
  pub literal_shows : (l : ℕ) → l / 2 < length found → IsMarked marks l → ShowsLiteral graph b l (carried found l)
  literal_shows l lt is =
      let f = slice_index_or found (l / 2) 0 in
      let shows = carries.each (l / 2) lt is.marked in
      let low = turned_below (1 + b.inputs + length b.nodes) f shows.below in
      let below = shows.below in
      elim (eqb_tells (l % 2) 1) [
        | inl odd ↦
            let at : carried found l ≡ turned f = ap (λ (t : Bool). cond t (turned f) f) odd.0 in
            record {
              below = omega arith;
              same = λ word v w fit in_b.
                  ap (literal_value w) at ∙ turned_value w f ∙ ap not (shows.same word v w fit in_b)
                  ∙ sym (odd_value v l odd.1);
            }
        | inr even ↦
            let at : carried found l ≡ f = ap (λ (t : Bool). cond t (turned f) f) even.0 in
            record {
              below = omega arith;
              same = λ word v w fit in_b.
                  ap (literal_value w) at ∙ shows.same word v w fit in_b ∙ sym (whole_value v l even.1);
            }
      ]

  module _ (k : ℕ) (node : Node) (here : slice_get graph.nodes k ≡ Some node)
      (size : length found ≡ 1 + graph.inputs + k) (closed : AreClosed graph.inputs graph.nodes marks)
      (x y z : ℕ) (at_x : x ≡ carried found node.x) (at_y : y ≡ carried found node.y) (at_z : z ≡ carried found node.z)
      (marked : slice_index_or marks (length found) false ≡ true) where
    are_marked : AreMarked marks node
    are_marked = closed.of_nodes k node here (subst (λ i. slice_index_or marks i false ≡ true) size marked)

    low : AreBelow (bound graph.inputs k) node
    low = ok.are_nodes.lower k node here

    show_x : ShowsLiteral graph b node.x x
    show_x = subst (ShowsLiteral graph b node.x) (sym at_x)
        (literal_shows node.x (let lt = low.x in omega arith) are_marked.x)

    show_y : ShowsLiteral graph b node.y y
    show_y = subst (ShowsLiteral graph b node.y) (sym at_y)
        (literal_shows node.y (let lt = low.y in omega arith) are_marked.y)

    show_z : ShowsLiteral graph b node.z z
    show_z = subst (ShowsLiteral graph b node.z) (sym at_z)
        (literal_shows node.z (let lt = low.z in omega arith) are_marked.z)

    pub three_below : AreBelow (limit b) (record { x = x; y = y; z = z })
    three_below = record { x = show_x.below; y = show_y.below; z = show_z.below }

    node_shows : (later : BuilderView) (l : ℕ) → Grown b later
        → Gives later l (λ v. node_value v (record { x = x; y = y; z = z })) → Shows graph later (length found) l
    unfolding node_value
    node_shows later l grown given = record {
      below = given.below;
      same = λ word v w fit in_b.
          let before = fits_before b later grown word w in_b in
          given.shows word w in_b
          ∙ ap (λ t. majority t (literal_value w y) (literal_value w z)) (show_x.same word v w fit before)
          ∙ ap (λ t. majority (literal_value v node.x) t (literal_value w z)) (show_y.same word v w fit before)
          ∙ ap (majority (literal_value v node.x) (literal_value v node.y)) (show_z.same word v w fit before)
          ∙ sym (ap v size ∙ fit.of_node k node here);
    }

    pub if_node : {E : Type 0} (r : Result ℕ E) (later : BuilderView) → Grown b later
        → IfOk r (λ l. Gives later l (λ v. node_value v (record { x = x; y = y; z = z })))
        → IfOk r (λ l. slice_index_or marks (length found) false ≡ true → Shows graph later (length found) l)
    if_node {E} r later grown given =
        elim r as (λ (t : Result ℕ E). IfOk t (λ l. Gives later l (λ v. node_value v (record { x = x; y = y; z = z })))
        → IfOk t (λ l. slice_index_or marks (length found) false ≡ true → Shows graph later (length found) l)) [
          | Ok l ↦ λ h m. node_shows later l grown h
          | Err e ↦ λ h. tt
        ] given

-- the literals of the constant and the inputs
pub carries_first : (graph : GraphView) (marks : List Bool) (b : BuilderView) (found : List ℕ)
    → b.inputs ≡ graph.inputs → length found ≡ 1 + graph.inputs
    → ((i : ℕ) → i < 1 + graph.inputs → slice_index_or found i 0 ≡ 2 * i) → CarriesGraph graph marks b found
carries_first graph marks b found same size each = record {
  same_inputs = same;
  each = λ i lt marked.
      let at = each i (omega arith) in
      subst (λ l. Shows graph b i l) (sym at) (record {
        below = omega arith;
        same = λ word v w fit in_b.
            even_value w i ∙ elim (cases_lt 0 i) [
              | inl above ↦
                  let e : i ≡ 1 + (i - 1) = omega arith in
                  ap w e ∙ in_b.of_input (i - 1) (omega arith) ∙ sym (fit.of_input (i - 1) (omega arith)) ∙ ap v (sym e)
              | inr least ↦ (let e : i ≡ 0 = omega arith in ap w e ∙ in_b.none ∙ sym fit.none ∙ ap v (sym e))
            ];
      });
}

-- one more literal
pub carries_more : (graph : GraphView) (marks : List Bool) (a b : BuilderView) (found more : List ℕ) (l : ℕ)
    → CarriesGraph graph marks a found → Grown a b
    → (slice_index_or marks (length found) false ≡ true → Shows graph b (length found) l) → more ≡ found ++ l ∷ []
    → CarriesGraph graph marks b more
carries_more graph marks a b found more l carries grown shows is = record {
  same_inputs = grown.same_inputs ∙ carries.same_inputs;
  each = λ i lt marked.
      let size = one_longer found more l is in
      elim (cases_lt i (length found)) [
        | inl below ↦ subst (λ m. Shows graph b i m) (sym (front found more l i is below))
            (shows_later graph a b i _ grown (carries.each i below marked))
        | inr past ↦
            let e : length found ≡ i = omega arith in
            let here = shows (subst (λ j. slice_index_or marks j false ≡ true) (sym e) marked) in
            subst (λ j. Shows graph b j (slice_index_or more j 0)) e
            (subst (λ m. Shows graph b (length found) m) (sym (seam found more l is)) here)
      ];
}

module _ (graph : GraphView) (ok : IsGraph graph) (marks : List Bool) (b : BuilderView) (built : IsBuilder b)
    (found : List ℕ) (carries : CarriesGraph graph marks b found)
    (whole : length found ≡ 1 + graph.inputs + length graph.nodes)
    (needed : AllByRecursion (IsMarked marks) graph.outputs) where
  each_below : (outputs : List ℕ) → AllByRecursion (λ l. l < bound graph.inputs (length graph.nodes)) outputs
      → AllByRecursion (IsMarked marks) outputs
      → AllByRecursion (λ l. l < limit b) (map (carried found) outputs)
  each_below [] all marked = tt
  each_below (o ∷ os) all marked = (
    (literal_shows graph ok marks b found carries o (let lt = all.0 in omega arith) marked.0).below,
    each_below os all.1 marked.1,
  )

  shown : (word : List Bool) (v w : ℕ → Bool) → fits_graph graph word v → Fits b.inputs b.nodes word w
      → (outputs : List ℕ) → AllByRecursion (λ l. l < bound graph.inputs (length graph.nodes)) outputs
      → AllByRecursion (IsMarked marks) outputs
      → map (literal_value w) (map (carried found) outputs) ≡ map (literal_value v) outputs
  shown word v w fit in_b [] all marked = refl
  shown word v w fit in_b (o ∷ os) all marked =
      ap (λ t. t ∷ map (literal_value w) (map (carried found) os))
      ((literal_shows graph ok marks b found carries o (let lt = all.0 in omega arith) marked.0).same word v w fit
      in_b)
      ∙ ap (λ ts. literal_value v o ∷ ts) (shown word v w fit in_b os all.1 marked.1)

  pub outputs_some : (outputs : List ℕ) → outputs ≡ map (carried found) graph.outputs → 0 < length outputs
  outputs_some outputs is =
      (let e = ap length is ∙ length-map graph.outputs (carried found) in let some = ok.some_output in omega arith)

  pub outputs_few : (outputs : List ℕ) → outputs ≡ map (carried found) graph.outputs → length outputs < 2 ^ 32
  outputs_few outputs is =
      (let e = ap length is ∙ length-map graph.outputs (carried found) in let few = ok.few_outputs in omega arith)

  pub outputs_below : (outputs : List ℕ) → outputs ≡ map (carried found) graph.outputs
      → AllByRecursion (λ l. l < limit b) outputs
  outputs_below outputs is =
      subst (AllByRecursion (λ l. l < limit b)) (sym is) (each_below graph.outputs ok.each_output needed)

  pub is_rebuilt : (outputs : List ℕ) (made : GraphView) → outputs ≡ map (carried found) graph.outputs
      → made ≡ record { inputs = b.inputs; nodes = b.nodes; outputs = outputs } → IsRebuilt graph made
  is_rebuilt outputs made is e =
      subst (IsRebuilt graph) (sym e) (record {
        keeps = record {
          are_nodes = built.are_nodes;
          some_output = outputs_some outputs is;
          each_output = outputs_below outputs is;
          few_nodes = built.few_nodes;
          few_outputs = outputs_few outputs is;
        };
        same = record {
          same_inputs = carries.same_inputs;
          same_outputs = ap length is ∙ length-map graph.outputs (carried found);
          there = λ x y long a.
              let w = some_fits b.inputs b.nodes built.are_nodes x in
              record {
                values = w.0;
                fit = w.1;
                shown = a.shown ∙ sym (shown x a.values w.0 a.fit w.1 graph.outputs ok.each_output needed)
                    ∙ ap (map (literal_value w.0)) (sym is);
              };
          back = λ x y long a.
              let v = some_fits graph.inputs graph.nodes ok.are_nodes x in
              record {
                values = v.0;
                fit = v.1;
                shown = a.shown ∙ ap (map (literal_value a.values)) is
                    ∙ shown x v.0 a.values v.1 a.fit graph.outputs ok.each_output needed;
              };
        };
      })

-- without marks nothing is marked
pub no_marks : (marks : List Bool) (i : ℕ) → marks ≡ [] → slice_index_or marks i false ≡ false
no_marks marks i none = ap (λ ms. slice_index_or ms i false) none ∙ at_none i
  where
    at_none : (i : ℕ) → slice_index_or [] i false ≡ false
    at_none zero = refl
    at_none (suc i) = refl
