-- Each word has one valuation that fits, and one answer.
use Rattle.std.specs.Prelude.{◌≡◌, ℕ, zero, suc, ◌+◌, ◌-◌, ◌*◌, ◌/◌, ◌%◌, ◌<◌, ◌≤◌, ◌==◌, ltb, not, cond, Bool, true}
use Rattle.std.specs.Prelude.{false, List, [], ◌∷◌, ◌++◌, length, map, Option, Some, None, slice_get, slice_index_or}
use Rattle.std.specs.List.{AllByRecursion}
use Rattle.std.proofs.Common.{refl, sym, ap, ◌∙◌, subst, arith, get_or, inl, inr, Result, Ok, Err}
use Rattle.std.specs.Prelude.{IfOk}
use Rattle.std.proofs.lemmas.Option.{slice_get-get_or, slice_get_within}
use Rattle.std.proofs.lemmas.List.{length-map, get_or_append_left}
use Rattle.std.proofs.lemmas.Bool.{cases_lt}
use Rattle.std.proofs.lemmas.Bool.Decides.{nat_tests}
use Rattle.std.proofs.Math.Seq.{get_or-append_seam}
use Rattle.circuit.specs.Function.{majority}
use Rattle.circuit.specs.Gates.{valuation}
use Rattle.circuit.specs.OneAnswer.{HasOneAnswer}
use Rattle.circuit.specs.Ranked.{IsRanked, Solves, solution}
use Rattle.circuit.proofs.Solutions.{some_solution}
use Rattle.mig.specs.declared.node.Node.{Node}
use Rattle.mig.specs.Graphs.{GraphView, literal_value, node_value, AreBelow, AreNodes, IsGraph, Fits, IsAnswer}
use Rattle.mig.specs.Graphs.{bound}

-- a literal reads its node alone
pub literal_same : (v w : ℕ → Bool) (b l : ℕ) → l < 2 * b → ((i : ℕ) → i < b → v i ≡ w i)
    → literal_value v l ≡ literal_value w l
unfolding literal_value
literal_same v w b l lt same = ap (λ (t : Bool). cond (l % 2 == 1) (not t) t) (same (l / 2) (omega arith))

-- and a majority the nodes of its literals
pub node_same : (v w : ℕ → Bool) (b : ℕ) (node : Node) → AreBelow (2 * b) node → ((i : ℕ) → i < b → v i ≡ w i)
    → node_value v node ≡ node_value w node
unfolding node_value
node_same v w b node low same =
    ap (λ t. majority t (literal_value v node.y) (literal_value v node.z)) (literal_same v w b node.x low.x same)
    ∙ ap (λ t. majority (literal_value w node.x) t (literal_value v node.z)) (literal_same v w b node.y low.y same)
    ∙ ap (majority (literal_value w node.x) (literal_value w node.y)) (literal_same v w b node.z low.z same)

-- the value of an input, or of a node past them
abbrev at_place : Bool → Bool → Bool → Bool → Bool
at_place true s w o = false
at_place false true w o = w
at_place false false w o = o

abbrev at_option : (ℕ → Bool) → Option Node → Bool
at_option v None = false
at_option v (Some node) = node_value v node

is_input : (b s w w' o : Bool) → b ≡ false → s ≡ true → w ≡ w' → at_place b s w o ≡ w'
is_input b s w w' o p q r = ap (λ t. at_place t s w o) p ∙ ap (λ t. at_place false t w o) q ∙ r

is_node : (b s w o o' : Bool) → b ≡ false → s ≡ false → o ≡ o' → at_place b s w o ≡ o'
is_node b s w o o' p q r = ap (λ t. at_place t s w o) p ∙ ap (λ t. at_place false t w o) q ∙ r

low_same : (b w o o' : Bool) → at_place b true w o ≡ at_place b true w o'
low_same true w o o' = refl
low_same false w o o' = refl

module _ (n : ℕ) (nodes : List Node) (ok : AreNodes n nodes) (word : List Bool) where
  abbrev equation : ℕ → (ℕ → Bool) → Bool
  equation i v =
      at_place (i == 0) (ltb i (1 + n)) (slice_index_or word (i - 1) false)
      (at_option v (slice_get nodes (i - (1 + n))))

  option_same : (i : ℕ) (v w : ℕ → Bool) → 1 + n ≤ i → ((d : ℕ) → d < i → v d ≡ w d)
      → (o : Option Node) → slice_get nodes (i - (1 + n)) ≡ o → at_option v o ≡ at_option w o
  option_same i v w high same None is = refl
  option_same i v w high same (Some node) is =
      let low = ok.lower (i - (1 + n)) node is in
      let at : 2 * (1 + n + (i - (1 + n))) ≡ 2 * i = omega arith in
      node_same v w i node (subst (λ b. AreBelow b node) at low) same

  is_ranked : IsRanked (λ i. i) equation
  is_ranked i v w same = elim (cases_lt i (1 + n)) [
    | inl low ↦
        let is : ltb i (1 + n) ≡ true = grind (arith, nat_tests) in
        let a = at_option v (slice_get nodes (i - (1 + n))) in
        let b = at_option w (slice_get nodes (i - (1 + n))) in
        let x = slice_index_or word (i - 1) false in
        ap (λ t. at_place (i == 0) t x a) is ∙ low_same (i == 0) x a b ∙ ap (λ t. at_place (i == 0) t x b) (sym is)
    | inr high ↦
        ap (at_place (i == 0) (ltb i (1 + n)) (slice_index_or word (i - 1) false))
        (option_same i v w high same (slice_get nodes (i - (1 + n))) refl)
  ]

  solved_fits : (v : ℕ → Bool) → Solves equation v → Fits n nodes word v
  solved_fits v solves = record {
    none = solves 0;
    of_input = λ i lt.
        let p : ((1 + i) == 0) ≡ false = grind (arith, nat_tests) in
        let q : ltb (1 + i) (1 + n) ≡ true = grind (arith, nat_tests) in
        solves (1 + i)
        ∙ is_input _ _ _ _ _ p q
        (ap (λ j. slice_index_or word j false) (let e : (1 + i) - 1 ≡ i = omega arith in e));
    of_node = λ k node is.
        let p : ((1 + n + k) == 0) ≡ false = grind (arith, nat_tests) in
        let q : ltb (1 + n + k) (1 + n) ≡ false = grind (arith, nat_tests) in
        solves (1 + n + k)
        ∙ is_node _ _ _ _ _ p q
        (ap (at_option v) (ap (slice_get nodes) (let e : (1 + n + k) - (1 + n) ≡ k = omega arith in e) ∙ is));
  }

  -- some valuation fits
  pub some_fits : (v : ℕ → Bool) × Fits n nodes word v
  some_fits = (solution (λ i. i) equation, solved_fits _ (some_solution (λ i. i) equation is_ranked))

  input_at : (v : ℕ → Bool) → Fits n nodes word v → (i : ℕ) → 0 < i → i < 1 + n
      → v i ≡ slice_index_or word (i - 1) false
  input_at v p i above below = ap v (let e : i ≡ 1 + (i - 1) = omega arith in e) ∙ p.of_input (i - 1) (omega arith)

  node_at : (v : ℕ → Bool) → Fits n nodes word v → (i : ℕ) (node : Node) → 1 + n ≤ i
      → slice_get nodes (i - (1 + n)) ≡ Some node
      → v i ≡ node_value v node
  node_at v p i node high is = ap v (let e : i ≡ 1 + n + (i - (1 + n)) = omega arith in e)
      ∙ p.of_node (i - (1 + n)) node is

  -- and two of them agree at each node
  pub fits_below : (v w : ℕ → Bool) → Fits n nodes word v → Fits n nodes word w → (b i : ℕ) → i < b
      → i < 1 + n + length nodes → v i ≡ w i
  fits_below v w p q zero i lt within = absurd (omega arith)
  fits_below v w p q (suc b) i lt within = elim (cases_lt i (1 + n)) [
    | inl low ↦ elim (cases_lt 0 i) [
      | inl above ↦ input_at v p i above low ∙ sym (input_at w q i above low)
      | inr least ↦ (let e : i ≡ 0 = omega arith in ap v e ∙ p.none ∙ sym q.none ∙ ap w (sym e))
    ]
    | inr high ↦
        let node = get_or nodes (i - (1 + n)) (record { x = 0; y = 0; z = 0 }) in
        let is = slice_get-get_or nodes (i - (1 + n)) (record { x = 0; y = 0; z = 0 }) (omega arith) in
        let at : 2 * (1 + n + (i - (1 + n))) ≡ 2 * i = omega arith in
        node_at v p i node high is
        ∙ node_same v w i node (subst (λ b. AreBelow b node) at (ok.lower (i - (1 + n)) node is))
        (λ j below. fits_below v w p q b j (omega arith) (omega arith))
        ∙ sym (node_at w q i node high is)
  ]

  pub one_fits : (v w : ℕ → Bool) → Fits n nodes word v → Fits n nodes word w → (i : ℕ) → i < 1 + n + length nodes
      → v i ≡ w i
  one_fits v w p q i within = fits_below v w p q (suc i) i (omega arith) within

  -- the outputs show the same
  pub shown_same : (v w : ℕ → Bool) → Fits n nodes word v → Fits n nodes word w → (outputs : List ℕ)
      → AllByRecursion (λ l. l < bound n (length nodes)) outputs
      → map (literal_value v) outputs ≡ map (literal_value w) outputs
  shown_same v w p q [] all = refl
  shown_same v w p q (o ∷ os) all =
      ap (λ b. b ∷ map (literal_value v) os)
      (literal_same v w (1 + n + length nodes) o all.0 (one_fits v w p q))
      ∙ ap (λ bs. literal_value w o ∷ bs) (shown_same v w p q os all.1)

-- a graph has one answer to each word
pub one_answer : (graph : GraphView) → IsGraph graph → HasOneAnswer graph.inputs (length graph.outputs) (IsAnswer graph)
one_answer graph ok = record {
  some = λ x long.
      let found = some_fits graph.inputs graph.nodes ok.are_nodes x in
      (map (literal_value found.0) graph.outputs, record { values = found.0; fit = found.1; shown = refl });
  only = λ x y z long a b.
      a.shown ∙ shown_same graph.inputs graph.nodes ok.are_nodes x a.values b.values a.fit b.fit graph.outputs
      ok.each_output ∙ sym b.shown;
  whole = λ x y long a. ap length a.shown ∙ length-map graph.outputs (literal_value a.values);
}

-- values fit a word as far as node k
pub record FitsTo (k n : ℕ) (nodes : List Node) (word : List Bool) (values : ℕ → Bool) : Type 0 where
  pub none : values 0 ≡ false
  pub of_input : (i : ℕ) → i < n → values (1 + i) ≡ slice_index_or word i false
  pub of_node : (j : ℕ) (node : Node) → j < k → slice_get nodes j ≡ Some node
      → values (1 + n + j) ≡ node_value values node

pub fits_all : (k n : ℕ) (nodes : List Node) (word : List Bool) (values : ℕ → Bool) → length nodes ≤ k
    → FitsTo k n nodes word values → Fits n nodes word values
fits_all k n nodes word values le fit = record {
  none = fit.none;
  of_input = fit.of_input;
  of_node = λ j node is. fit.of_node j node (let lt = slice_get_within nodes j node is in omega arith) is;
}

-- false and the word fit as far as no node
pub fits_none : (nodes : List Node) (word values : List Bool) → values ≡ false ∷ word
    → FitsTo 0 (length word) nodes word (valuation values)
fits_none nodes word values is = record {
  none = ap (λ vs. valuation vs 0) is;
  of_input = λ i lt. ap (λ vs. valuation vs (1 + i)) is
      ∙ ap (valuation (false ∷ word)) (let e : 1 + i ≡ suc i = omega arith in e);
  of_node = λ j node lt is. absurd (omega arith);
}

-- one more value
pub fits_more : (k n : ℕ) (nodes : List Node) (word values more : List Bool) (node : Node) (value : Bool)
    → AreNodes n nodes
    → length values ≡ 1 + n + k → slice_get nodes k ≡ Some node → value ≡ node_value (valuation values) node
    → more ≡ values ++ value ∷ []
    → FitsTo k n nodes word (valuation values) → FitsTo (k + 1) n nodes word (valuation more)
fits_more k n nodes word values more node value ok size here val is fit =
    let agree : (i : ℕ) → i < 1 + n + k → valuation more i ≡ valuation values i
    = λ i lt. ap (λ vs. valuation vs i) is ∙ get_or_append_left values (value ∷ []) false i (omega arith) in
    let last : valuation more (1 + n + k) ≡ value
    = ap (λ vs. valuation vs (1 + n + k)) is ∙ ap (valuation (values ++ value ∷ [])) (sym size)
    ∙ get_or-append_seam values value [] false in
    let same : (j : ℕ) (m : Node) → j ≤ k → slice_get nodes j ≡ Some m
    → node_value (valuation values) m ≡ node_value (valuation more) m
    = λ j m le at. node_same (valuation values) (valuation more) (1 + n + j) m (ok.lower j m at)
    (λ i lt. sym (agree i (omega arith))) in
    record {
      none = agree 0 (omega arith) ∙ fit.none;
      of_input = λ i lt. agree (1 + i) (omega arith) ∙ fit.of_input i lt;
      of_node = λ j m lt at. elim (cases_lt j k) [
        | inl below ↦ agree (1 + n + j) (omega arith) ∙ fit.of_node j m below at ∙ same j m (omega arith) at
        | inr past ↦
            let e : j ≡ k = omega arith in
            let found : Some node ≡ Some m = sym here ∙ ap (slice_get nodes) (sym e) ∙ at in
            let eq : node ≡ m = cc in
            ap (λ i. valuation more (1 + n + i)) e ∙ last ∙ val ∙ ap (node_value (valuation values)) eq
            ∙ same j m (omega arith) at
      ];
    }

-- what the code shows is the answer
pub shown_answers : {E : Type 0} (r : Result (List Bool) E) (graph self : GraphView) (nodes : List Node)
    (outputs : List ℕ)
    (word given values read : List Bool) → graph ≡ self → nodes ≡ graph.nodes → outputs ≡ graph.outputs → given ≡ word
    → read ≡ values
    → length word ≡ self.inputs → Fits (length given) nodes given (valuation values)
    → IfOk r (λ answer. answer ≡ map (literal_value (valuation read)) outputs)
    → IfOk r (λ answer. IsAnswer self word answer)
shown_answers (Err e) graph self nodes outputs word given values read g n o w v long fit shown = tt
shown_answers (Ok answer) graph self nodes outputs word given values read g n o w v long fit shown = record {
  values = valuation values;
  fit =
      let size : length given ≡ self.inputs = ap length w ∙ long in
      let same : nodes ≡ self.nodes = n ∙ ap (λ (t : GraphView). t.nodes) g in
      subst (λ (x : List Bool). Fits self.inputs self.nodes x (valuation values)) w
      (subst (λ (ms : List Node). Fits self.inputs ms given (valuation values)) same
      (subst (λ k. Fits k nodes given (valuation values)) size fit));
  shown = shown ∙ ap (λ (vs : List Bool). map (literal_value (valuation vs)) outputs) v
      ∙ ap (map (literal_value (valuation values))) (o ∙ ap (λ (t : GraphView). t.outputs) g);
}
