-- Literals for the nodes of a graph.
use Rattle.std.specs.Prelude.{◌≡◌, ℕ, ◌+◌, ◌-◌, ◌*◌, ◌/◌, ◌%◌, ◌<◌, ◌^◌, not, cond, Bool}
use Rattle.std.specs.Prelude.{List, [], ◌∷◌, ◌++◌, length, map, Some, slice_get, slice_index_or, IfOk}
use Rattle.std.specs.List.{AllByRecursion}
use Rattle.std.proofs.Common.{Result, Ok, Err, refl, sym, ap, ◌∙◌, subst, arith, inl, inr}
use Rattle.std.proofs.lemmas.Bool.{cases_lt}
use Rattle.std.proofs.lemmas.Bool.Decides.{eqb_tells}
use Rattle.std.proofs.lemmas.List.{length-map}
use Rattle.circuit.specs.Function.{majority}
use Rattle.truth_tables.specs.Tables.{holds, index}
use Rattle.mig.specs.declared.node.Node.{Node}
use Rattle.mig.specs.Graphs.{GraphView, IsGraph, AreBelow, literal_value, node_value, Fits, bound, turned}
use Rattle.mig.specs.Building.{BuilderView, IsBuilder, Grown, Gives, limit, AllThere}
use Rattle.mig.specs.Carried.{Shows, fits_graph}
use Rattle.mig.specs.Passes.{IsRebuilt}
use Rattle.mig.proofs.Folded.{turned_value, turned_below}
use Rattle.mig.proofs.Valued.{some_fits}
use Rattle.mig.proofs.Built.{fits_before, even_value, odd_value, whole_value}
use Rattle.mig.proofs.Shown.{shows_later, seam, front, one_longer}
use Rattle.mig.proofs.RebuiltGraphs.{ShowsLiteral}
use Rattle.mig_replace.specs.declared.run.Entry.{Entry}
use Rattle.mig_replace.specs.Code.Cones.{Computes, IsEntry, AreEntries, Carries, AreFound, IsFound, AreAllFound, found_at, carried}

pub carries_later : (graph : GraphView) (a b : BuilderView) (found : List ℕ) → Grown a b → Carries graph a found
    → Carries graph b found
carries_later graph a b found grown carries = record {
  same_inputs = grown.same_inputs ∙ carries.same_inputs;
  each = λ i lt. shows_later graph a b i _ grown (carries.each i lt);
}

module _ (graph : GraphView) (b : BuilderView) (found : List ℕ) (carries : Carries graph b found) where
  pub leaves_there : (leaves : List ℕ) → AllByRecursion (λ i. i < length found) leaves
      → AllThere b (map (found_at found) leaves)
  leaves_there [] all = tt
  leaves_there (i ∷ is) all = ((carries.each i all.0).below, leaves_there is all.1)

  pub found_there : (leaves literals : List ℕ) → AreFound found leaves literals → AllThere b literals
  found_there leaves literals are =
      subst (λ (ls : List ℕ). AllThere b ls) (sym are.are) (leaves_there leaves are.there)

  leaves_show : (word : List Bool) (v w : ℕ → Bool) → fits_graph graph word v → Fits b.inputs b.nodes word w
      → (leaves : List ℕ) → AllByRecursion (λ i. i < length found) leaves
      → map (literal_value w) (map (found_at found) leaves) ≡ map v leaves
  leaves_show word v w fit in_b [] all = refl
  leaves_show word v w fit in_b (i ∷ is) all =
      ap (λ t. t ∷ map (literal_value w) (map (found_at found) is)) ((carries.each i all.0).same word v w fit in_b)
      ∙ ap (λ ts. v i ∷ ts) (leaves_show word v w fit in_b is all.1)

  -- steps that compute what a node does
  pub entry_shows : (later : BuilderView) (leaves literals : List ℕ) (node : ℕ) (entry : Entry)
      → AreFound found leaves literals → Grown b later → Computes graph leaves node entry.table
      → IsEntry later literals entry → Shows graph later node entry.literal
  entry_shows later leaves literals node entry are grown computes is =
      record {
        below = is.below;
        same = λ word v w fit in_later.
            is.shows word w in_later
            ∙ ap (λ (ls : List ℕ). holds entry.table (index (map (literal_value w) ls))) are.are
            ∙ ap (λ xs. holds entry.table (index xs))
            (leaves_show word v w fit (fits_before b later grown word w in_later) leaves are.there)
            ∙ sym (computes.value word v fit);
      }

  module _ (ok : IsGraph graph) (leaves literals : List ℕ) (are : AreFound found leaves literals) where
    -- a node that the leaves determine
    found_entry : (entry : Entry) → IsFound graph found leaves entry → IsEntry b literals entry
    found_entry entry is =
        let shows = carries.each is.node is.there in
        record {
          below = subst (λ l. l < limit b) (sym is.at) shows.below;
          shows = λ word w in_b.
              let v = some_fits graph.inputs graph.nodes ok.are_nodes word in
              ap (literal_value w) is.at
              ∙ shows.same word v.0 w v.1 in_b
              ∙ is.computes.value word v.0 v.1
              ∙ ap (λ xs. holds entry.table (index xs)) (sym (leaves_show word v.0 w v.1 in_b leaves are.there))
              ∙ ap (λ (ls : List ℕ). holds entry.table (index (map (literal_value w) ls))) (sym are.are);
        }

    pub found_entries : (es : List Entry) → AreAllFound graph found leaves es → AreEntries b literals es
    found_entries [] all = tt
    found_entries (e ∷ es) all = (found_entry e all.0, found_entries es all.1)

  literal_shows : (l : ℕ) → l / 2 < length found → ShowsLiteral graph b l (carried found l)
  literal_shows l lt =
      let f = found_at found (l / 2) in
      let shows = carries.each (l / 2) lt in
      let low = turned_below (1 + b.inputs + length b.nodes) f shows.below in
      let below = shows.below in
      elim (eqb_tells (l % 2) 1) [
        | inl odd ↦
            let at : carried found l ≡ turned f = ap (λ (t : Bool). cond t (turned f) f) odd.0 in
            record {
              below = omega arith;
              same = λ word v w fit in_b.
                  ap (literal_value w) at ∙ turned_value w f ∙ ap not (shows.same word v w fit in_b)
                  ∙ sym (odd_value v l odd.1);
            }
        | inr even ↦
            let at : carried found l ≡ f = ap (λ (t : Bool). cond t (turned f) f) even.0 in
            record {
              below = omega arith;
              same = λ word v w fit in_b.
                  ap (literal_value w) at ∙ shows.same word v w fit in_b ∙ sym (whole_value v l even.1);
            }
      ]

  pub carried_below : (l m : ℕ) → l / 2 < length found → m ≡ carried found l → m < limit b
  carried_below l m lt is = subst (λ n. n < limit b) (sym is) (literal_shows l lt).below

  module _ (ok : IsGraph graph) (k : ℕ) (node : Node) (here : slice_get graph.nodes k ≡ Some node)
      (size : length found ≡ 1 + graph.inputs + k)
      (x y z : ℕ) (at_x : x ≡ carried found node.x) (at_y : y ≡ carried found node.y) (at_z : z ≡ carried found node.z)
    where
      low : AreBelow (bound graph.inputs k) node
      low = ok.are_nodes.lower k node here

      show_x : ShowsLiteral graph b node.x x
      show_x = subst (ShowsLiteral graph b node.x) (sym at_x) (literal_shows node.x (let lt = low.x in omega arith))

      show_y : ShowsLiteral graph b node.y y
      show_y = subst (ShowsLiteral graph b node.y) (sym at_y) (literal_shows node.y (let lt = low.y in omega arith))

      show_z : ShowsLiteral graph b node.z z
      show_z = subst (ShowsLiteral graph b node.z) (sym at_z) (literal_shows node.z (let lt = low.z in omega arith))

      pub three_below : AreBelow (limit b) (record { x = x; y = y; z = z })
      three_below = record { x = show_x.below; y = show_y.below; z = show_z.below }

      node_shows : (later : BuilderView) (l : ℕ) → Grown b later
          → Gives later l (λ v. node_value v (record { x = x; y = y; z = z })) → Shows graph later (length found) l
      unfolding node_value
      node_shows later l grown given = record {
        below = given.below;
        same = λ word v w fit in_b.
            let before = fits_before b later grown word w in_b in
            given.shows word w in_b
            ∙ ap (λ t. majority t (literal_value w y) (literal_value w z)) (show_x.same word v w fit before)
            ∙ ap (λ t. majority (literal_value v node.x) t (literal_value w z)) (show_y.same word v w fit before)
            ∙ ap (majority (literal_value v node.x) (literal_value v node.y)) (show_z.same word v w fit before)
            ∙ sym (ap v size ∙ fit.of_node k node here);
      }

      pub if_node : {E : Type 0} (r : Result ℕ E) (later : BuilderView) → Grown b later
          → IfOk r (λ l. Gives later l (λ v. node_value v (record { x = x; y = y; z = z })))
          → IfOk r (λ l. Shows graph later (length found) l)
      if_node {E} r later grown given =
          elim r as (λ (t : Result ℕ E).
          IfOk t (λ l. Gives later l (λ v. node_value v (record { x = x; y = y; z = z })))
          → IfOk t (λ l. Shows graph later (length found) l)) [
            | Ok l ↦ λ h. node_shows later l grown h
            | Err e ↦ λ h. tt
          ] given

-- another literal of the same value
pub shows_other : (graph : GraphView) (a b : BuilderView) (i l m : ℕ) → Grown a b → Shows graph a i l
    → Gives b m (λ v. literal_value v l) → Shows graph b i m
shows_other graph a b i l m grown shows gives = record {
  below = gives.below;
  same = λ word v w fit in_b.
      gives.shows word w in_b ∙ (shows_later graph a b i l grown shows).same word v w fit in_b;
}

pub if_other : {E : Type 0} (r : Result ℕ E) (graph : GraphView) (a b : BuilderView) (i l : ℕ) → Grown a b
    → Shows graph a i l → IfOk r (λ m. Gives b m (λ v. literal_value v l)) → IfOk r (λ m. Shows graph b i m)
if_other {E} r graph a b i l grown shows same =
    elim r as (λ (t : Result ℕ E).
    IfOk t (λ m. Gives b m (λ v. literal_value v l)) → IfOk t (λ m. Shows graph b i m)) [
      | Ok m ↦ λ gives. shows_other graph a b i l m grown shows gives
      | Err e ↦ λ none. tt
    ] same

-- the literals of the constant and the inputs
pub first_carries : (graph : GraphView) (b : BuilderView) (found : List ℕ)
    → b.inputs ≡ graph.inputs → length found ≡ 1 + graph.inputs
    → ((i : ℕ) → i < 1 + graph.inputs → slice_index_or found i 0 ≡ 2 * i) → Carries graph b found
first_carries graph b found same size each = record {
  same_inputs = same;
  each = λ i lt.
      let at = each i (omega arith) in
      subst (λ l. Shows graph b i l) (sym at) (record {
        below = omega arith;
        same = λ word v w fit in_b.
            even_value w i ∙ elim (cases_lt 0 i) [
              | inl above ↦
                  let e : i ≡ 1 + (i - 1) = omega arith in
                  ap w e ∙ in_b.of_input (i - 1) (omega arith) ∙ sym (fit.of_input (i - 1) (omega arith)) ∙ ap v (sym e)
              | inr least ↦ (let e : i ≡ 0 = omega arith in ap w e ∙ in_b.none ∙ sym fit.none ∙ ap v (sym e))
            ];
      });
}

-- one more literal
pub carries_more : (graph : GraphView) (a b : BuilderView) (found more : List ℕ) (l : ℕ)
    → Carries graph a found → Grown a b → Shows graph b (length found) l → more ≡ found ++ l ∷ []
    → Carries graph b more
carries_more graph a b found more l carries grown shows is = record {
  same_inputs = grown.same_inputs ∙ carries.same_inputs;
  each = λ i lt.
      let size = one_longer found more l is in
      elim (cases_lt i (length found)) [
        | inl below ↦ subst (λ m. Shows graph b i m) (sym (front found more l i is below))
            (shows_later graph a b i _ grown (carries.each i below))
        | inr past ↦
            let e : length found ≡ i = omega arith in
            subst (λ j. Shows graph b j (slice_index_or more j 0)) e
            (subst (λ m. Shows graph b (length found) m) (sym (seam found more l is)) shows)
      ];
}

module _ (graph : GraphView) (ok : IsGraph graph) (b : BuilderView) (built : IsBuilder b)
    (found : List ℕ) (carries : Carries graph b found)
    (whole : length found ≡ 1 + graph.inputs + length graph.nodes) where
  each_below : (outputs : List ℕ) → AllByRecursion (λ l. l < bound graph.inputs (length graph.nodes)) outputs
      → AllByRecursion (λ l. l < limit b) (map (carried found) outputs)
  each_below [] all = tt
  each_below (o ∷ os) all = (
    (literal_shows graph b found carries o (let lt = all.0 in omega arith)).below,
    each_below os all.1,
  )

  shown : (word : List Bool) (v w : ℕ → Bool) → fits_graph graph word v → Fits b.inputs b.nodes word w
      → (outputs : List ℕ) → AllByRecursion (λ l. l < bound graph.inputs (length graph.nodes)) outputs
      → map (literal_value w) (map (carried found) outputs) ≡ map (literal_value v) outputs
  shown word v w fit in_b [] all = refl
  shown word v w fit in_b (o ∷ os) all =
      ap (λ t. t ∷ map (literal_value w) (map (carried found) os))
      ((literal_shows graph b found carries o (let lt = all.0 in omega arith)).same word v w fit in_b)
      ∙ ap (λ ts. literal_value v o ∷ ts) (shown word v w fit in_b os all.1)

  outputs_size : (outputs : List ℕ) → outputs ≡ map (carried found) graph.outputs
      → length outputs ≡ length graph.outputs
  outputs_size outputs is = ap length is ∙ length-map graph.outputs (carried found)

  pub outputs_some : (outputs : List ℕ) → outputs ≡ map (carried found) graph.outputs → 0 < length outputs
  outputs_some outputs is = (let e = outputs_size outputs is in let some = ok.some_output in omega arith)

  pub outputs_few : (outputs : List ℕ) → outputs ≡ map (carried found) graph.outputs → length outputs < 2 ^ 32
  outputs_few outputs is = (let e = outputs_size outputs is in let few = ok.few_outputs in omega arith)

  pub outputs_below : (outputs : List ℕ) → outputs ≡ map (carried found) graph.outputs
      → AllByRecursion (λ l. l < limit b) outputs
  outputs_below outputs is =
      subst (AllByRecursion (λ l. l < limit b)) (sym is) (each_below graph.outputs ok.each_output)

  pub is_rebuilt : (outputs : List ℕ) (made : GraphView) → outputs ≡ map (carried found) graph.outputs
      → made ≡ record { inputs = b.inputs; nodes = b.nodes; outputs = outputs } → IsRebuilt graph made
  is_rebuilt outputs made is e =
      subst (IsRebuilt graph) (sym e) (record {
        keeps = record {
          are_nodes = built.are_nodes;
          some_output = outputs_some outputs is;
          each_output = outputs_below outputs is;
          few_nodes = built.few_nodes;
          few_outputs = outputs_few outputs is;
        };
        same = record {
          same_inputs = carries.same_inputs;
          same_outputs = outputs_size outputs is;
          there = λ x y long a.
              let w = some_fits b.inputs b.nodes built.are_nodes x in
              record {
                values = w.0;
                fit = w.1;
                shown = a.shown ∙ sym (shown x a.values w.0 a.fit w.1 graph.outputs ok.each_output)
                    ∙ ap (map (literal_value w.0)) (sym is);
              };
          back = λ x y long a.
              let v = some_fits graph.inputs graph.nodes ok.are_nodes x in
              record {
                values = v.0;
                fit = v.1;
                shown = a.shown ∙ ap (map (literal_value a.values)) is
                    ∙ shown x v.0 a.values v.1 a.fit graph.outputs ok.each_output;
              };
        };
      })
