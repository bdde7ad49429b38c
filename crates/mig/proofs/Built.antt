-- Graphs that grow keep what they show.
use Rattle.std.specs.Prelude.{◌≡◌, ℕ, ◌+◌, ◌-◌, ◌*◌, ◌/◌, ◌%◌, ◌<◌, ◌≤◌, ◌^◌, ◌==◌, ◌≢◌, not, cond, Bool, true, false}
use Rattle.std.specs.Prelude.{List, [], ◌∷◌, ◌++◌, length, zero, suc, Some, slice_get}
use Rattle.std.specs.Prelude.{IfOk}
use Rattle.std.proofs.Common.{Result, Ok, Err, refl, sym, ap, ◌∙◌, subst, arith, inl, inr, length-append, get_or}
use Rattle.std.proofs.lemmas.Option.{none-some, slice_get_within, slice_get-get_or}
use Rattle.std.proofs.lemmas.Bool.{cases_lt}
use Rattle.mig.specs.declared.node.Node.{Node}
use Rattle.mig.specs.Graphs.{literal_value, node_value, AreBelow, AreNodes, Fits, bound, turned}
use Rattle.mig.specs.Code.Folding.{turned_node, SameMajority, FoldsTo}
use Rattle.mig.specs.Building.{BuilderView, IsBuilder, Grown, Gives, Splits, limit}
use Rattle.mig.proofs.Folded.{not_not, turned_value, turned_below, turned_node_value, turned_node_below}

pub grown_same : (a b : BuilderView) → a ≡ b → Grown a b
grown_same a b e =
    subst (λ (t : BuilderView). Grown a t) e
    (record { same_inputs = refl; longer = omega arith; kept = λ k node is. is })

pub grown_then : (a b c : BuilderView) → Grown a b → Grown b c → Grown a c
grown_then a b c p q = record {
  same_inputs = q.same_inputs ∙ p.same_inputs;
  longer = (let one = p.longer in let two = q.longer in omega arith);
  kept = λ k node is. q.kept k node (p.kept k node is);
}

-- values that fit fit what was there before
pub fits_before : (a b : BuilderView) → Grown a b → (word : List Bool) (v : ℕ → Bool) → Fits b.inputs b.nodes word v
    → Fits a.inputs a.nodes word v
fits_before a b grown word v fit = record {
  none = fit.none;
  of_input = λ i lt. fit.of_input i (subst (λ n. i < n) (sym grown.same_inputs) lt);
  of_node = λ k node is. ap (λ n. v (1 + n + k)) (sym grown.same_inputs) ∙ fit.of_node k node (grown.kept k node is);
}

pub limit_grows : (a b : BuilderView) → Grown a b → limit a ≤ limit b
limit_grows a b grown = (let one = grown.same_inputs in let two = grown.longer in omega arith)

-- literals keep their values
pub gives_later : (a b : BuilderView) (l : ℕ) (f : (ℕ → Bool) → Bool) → Grown a b → Gives a l f → Gives b l f
gives_later a b l f grown given = record {
  below = (let one = given.below in let two = limit_grows a b grown in omega arith);
  shows = λ word v fit. given.shows word v (fits_before a b grown word v fit);
}

-- the literal of an even number reads its node
pub even_value : (v : ℕ → Bool) (g : ℕ) → literal_value v (2 * g) ≡ v g
unfolding literal_value
even_value v g =
    let zero : (2 * g) % 2 ≡ 0 = omega arith in
    let half : (2 * g) / 2 ≡ g = omega arith in
    let test : ((2 * g) % 2 == 1) ≡ false = ap (λ n. n == 1) zero in
    ap (λ (t : Bool). cond t (not (v ((2 * g) / 2))) (v ((2 * g) / 2))) test ∙ ap v half

pub odd_value : (v : ℕ → Bool) (l : ℕ) → l % 2 ≡ 1 → literal_value v l ≡ not (v (l / 2))
unfolding literal_value
odd_value v l is =
    let test : (l % 2 == 1) ≡ true = ap (λ n. n == 1) is in
    ap (λ (t : Bool). cond t (not (v (l / 2))) (v (l / 2))) test

pub whole_value : (v : ℕ → Bool) (l : ℕ) → l % 2 ≢ 1 → literal_value v l ≡ v (l / 2)
unfolding literal_value
whole_value v l is =
    let zero : l % 2 ≡ 0 = omega arith in
    let test : (l % 2 == 1) ≡ false = ap (λ n. n == 1) zero in
    ap (λ (t : Bool). cond t (not (v (l / 2))) (v (l / 2))) test

-- the literal of a node that is there
pub found_gives : (b : BuilderView) (k l : ℕ) (node : Node) → l ≡ 2 * (1 + b.inputs + k)
    → slice_get b.nodes k ≡ Some node → Gives b l (λ v. node_value v node)
found_gives b k l node at is = record {
  below = (let lt = slice_get_within b.nodes k node is in omega arith);
  shows = λ word v fit. ap (literal_value v) at ∙ even_value v (1 + b.inputs + k) ∙ fit.of_node k node is;
}

-- a node more
pub get_front : {A : Type 0} (xs ys : List A) (k : ℕ) (x : A) → slice_get xs k ≡ Some x
    → slice_get (xs ++ ys) k ≡ Some x
get_front [] ys k x is = elim (none-some x is) [ ]
get_front (y ∷ xs) ys zero x is = is
get_front (y ∷ xs) ys (suc k) x is = get_front xs ys k x is

pub get_end : {A : Type 0} (xs : List A) (x : A) → slice_get (xs ++ x ∷ []) (length xs) ≡ Some x
get_end [] x = refl
get_end (y ∷ xs) x = get_end xs x

pub grown_more : (n : ℕ) (nodes more : List Node) (node : Node) → more ≡ nodes ++ node ∷ []
    → Grown (record { inputs = n; nodes = nodes }) (record { inputs = n; nodes = more })
grown_more n nodes more node is = record {
  same_inputs = refl;
  longer = (let e = ap length is in let f = length-append nodes (node ∷ []) in omega arith);
  kept = λ k m at. ap (λ (ms : List Node). slice_get ms k) is ∙ get_front nodes (node ∷ []) k m at;
}

pub nodes_more : (n : ℕ) (nodes more : List Node) (node : Node) → more ≡ nodes ++ node ∷ []
    → AreBelow (bound n (length nodes)) node → AreNodes n nodes → AreNodes n more
nodes_more n nodes more node is low ok = record {
  lower = λ k m at.
      let here : slice_get (nodes ++ node ∷ []) k ≡ Some m = ap (λ (ms : List Node). slice_get ms k) (sym is) ∙ at in
      let lt = slice_get_within (nodes ++ node ∷ []) k m here in
      let size = length-append nodes (node ∷ []) in
      elim (cases_lt k (length nodes)) [
        | inl below ↦
            let old = slice_get-get_or nodes k m below in
            ok.lower k m (old ∙ sym (get_front nodes (node ∷ []) k (get_or nodes k m) old) ∙ here)
        | inr past ↦
            let e : k ≡ length nodes = omega arith in
            let same : Some node ≡ Some m = sym (get_end nodes node) ∙ ap (slice_get (nodes ++ node ∷ [])) (sym e)
            ∙ here in
            let eq : node ≡ m = cc in
            subst (λ j. AreBelow (bound n j) m) (sym e)
            (subst (λ (t : Node). AreBelow (bound n (length nodes)) t) eq low)
      ];
}

pub get_last : (nodes more : List Node) (node : Node) → more ≡ nodes ++ node ∷ []
    → slice_get more (length nodes) ≡ Some node
get_last nodes more node is = ap (λ (ms : List Node). slice_get ms (length nodes)) is ∙ get_end nodes node

pub builder_more : (n : ℕ) (nodes more : List Node) (node : Node) → more ≡ nodes ++ node ∷ []
    → 1 + n + length nodes + 1 < 2 ^ 30
    → AreBelow (bound n (length nodes)) node → AreNodes n nodes → IsBuilder (record { inputs = n; nodes = more })
builder_more n nodes more node is few low ok = record {
  are_nodes = nodes_more n nodes more node is low ok;
  few_nodes = (let e = ap length is in let f = length-append nodes (node ∷ []) in omega arith);
}

-- a literal of a majority splits into its operands
pub splits_whole : (b : BuilderView) (l k : ℕ) (node : Node) → IsBuilder b → l / 2 ≡ 1 + b.inputs + k → l % 2 ≢ 1
    → slice_get b.nodes k ≡ Some node → Splits b l node
splits_whole b l k node ok at even is =
    let low = ok.are_nodes.lower k node is in
    let lt = slice_get_within b.nodes k node is in
    record {
      below = wider (bound b.inputs k) (limit b) node (omega arith) low;
      shows = λ word v fit. whole_value v l even ∙ ap v at ∙ fit.of_node k node is;
    }
  where
    wider : (m n : ℕ) (node : Node) → m ≤ n → AreBelow m node → AreBelow n node
    wider m n node le low = record {
      x = (let lt = low.x in omega arith);
      y = (let lt = low.y in omega arith);
      z = (let lt = low.z in omega arith);
    }

pub splits_turned : (b : BuilderView) (l k : ℕ) (node : Node) → IsBuilder b → l / 2 ≡ 1 + b.inputs + k → l % 2 ≡ 1
    → slice_get b.nodes k ≡ Some node → Splits b l (turned_node node)
splits_turned b l k node ok at odd is =
    let whole = splits_whole b (2 * (1 + b.inputs + k)) k node ok (omega arith) (omega arith) is in
    record {
      below = turned_node_below (1 + b.inputs + length b.nodes) node whole.below;
      shows = λ word v fit. odd_value v l odd ∙ ap (λ i. not (v i)) at ∙ ap not (fit.of_node k node is)
          ∙ sym (turned_node_value v node);
    }

-- what maj gives
pub gives_folded : (b : BuilderView) (from node : Node) (l : ℕ) → SameMajority from node → FoldsTo node l
    → AreBelow (limit b) from → Gives b l (λ v. node_value v from)
gives_folded b from node l same folds low = record {
  below = folds.below (limit b) (same.below (limit b) low);
  shows = λ word v fit. folds.value v ∙ same.value v;
}

pub gives_sorted : (b : BuilderView) (from node : Node) (l : ℕ) → SameMajority from node
    → Gives b l (λ v. node_value v node) → Gives b l (λ v. node_value v from)
gives_sorted b from node l same given = record {
  below = given.below;
  shows = λ word v fit. given.shows word v fit ∙ same.value v;
}

pub gives_turned : (b : BuilderView) (node : Node) (l : ℕ) → Gives b l (λ v. node_value v (turned_node node))
    → Gives b (turned l) (λ v. node_value v node)
gives_turned b node l given = record {
  below = turned_below (1 + b.inputs + length b.nodes) l given.below;
  shows = λ word v fit. turned_value v l ∙ ap not (given.shows word v fit ∙ turned_node_value v node)
      ∙ not_not (node_value v node);
}

-- the same, of a builder that is seen by its fields
pub seen_found : (self : BuilderView) (n : ℕ) (nodes : List Node) (k : ℕ) (read : List Node) (node : Node)
    → record { inputs = n; nodes = nodes } ≡ self → read ≡ nodes
    → slice_get read k ≡ Some node → Gives self (2 * (1 + n + k)) (λ v. node_value v node)
seen_found self n nodes k read node seen same is =
    let b : BuilderView = record { inputs = n; nodes = nodes } in
    let given : Gives b (2 * (1 + n + k)) (λ v. node_value v node) =
    found_gives b k (2 * (1 + n + k)) node refl (ap (λ (ms : List Node). slice_get ms k) (sym same) ∙ is) in
    subst (λ (t : BuilderView). Gives t (2 * (1 + n + k)) (λ v. node_value v node)) seen given

pub seen_builder : (self : BuilderView) (n : ℕ) (nodes more : List Node) (node : Node)
    → record { inputs = n; nodes = nodes } ≡ self → more ≡ nodes ++ node ∷ [] → 1 + n + length nodes + 1 < 2 ^ 30
    → AreBelow (limit self) node → AreNodes n nodes → IsBuilder (record { inputs = n; nodes = more })
seen_builder self n nodes more node seen is few low ok =
    builder_more n nodes more node is few (subst (λ (b : BuilderView). AreBelow (limit b) node) (sym seen) low) ok

pub seen_grown : (self : BuilderView) (n : ℕ) (nodes more : List Node) (node : Node)
    → record { inputs = n; nodes = nodes } ≡ self → more ≡ nodes ++ node ∷ []
    → Grown self (record { inputs = n; nodes = more })
seen_grown self n nodes more node seen is =
    subst (λ (b : BuilderView). Grown b (record { inputs = n; nodes = more })) seen (grown_more n nodes more node is)

pub seen_last : (n k : ℕ) (nodes more : List Node) (node : Node) → k ≡ length nodes → more ≡ nodes ++ node ∷ []
    → Gives (record { inputs = n; nodes = more }) (2 * (1 + n + k)) (λ v. node_value v node)
seen_last n k nodes more node at is =
    found_gives (record { inputs = n; nodes = more }) k (2 * (1 + n + k)) node refl
    (ap (slice_get more) at ∙ get_last nodes more node is)

pub seen_whole : (self : BuilderView) (n : ℕ) (nodes : List Node) (l : ℕ) (node : Node)
    → record { inputs = n; nodes = nodes } ≡ self → IsBuilder (record { inputs = n; nodes = nodes })
    → n + 1 ≤ l / 2 → l % 2 ≢ 1 → slice_get nodes (l / 2 - (n + 1)) ≡ Some node → Splits self l node
seen_whole self n nodes l node seen ok high even is =
    subst (λ (b : BuilderView). Splits b l node) seen
    (splits_whole (record { inputs = n; nodes = nodes }) l (l / 2 - (n + 1)) node ok (omega arith) even is)

pub seen_turned : (self : BuilderView) (n : ℕ) (nodes : List Node) (l : ℕ) (node given : Node)
    → record { inputs = n; nodes = nodes } ≡ self → IsBuilder (record { inputs = n; nodes = nodes })
    → n + 1 ≤ l / 2 → l % 2 ≡ 1 → slice_get nodes (l / 2 - (n + 1)) ≡ Some node → given ≡ turned_node node
    → Splits self l given
seen_turned self n nodes l node given seen ok high odd is e =
    subst (λ (b : BuilderView). Splits b l given) seen
    (subst (λ (t : Node). Splits (record { inputs = n; nodes = nodes }) l t) (sym e)
    (splits_turned (record { inputs = n; nodes = nodes }) l (l / 2 - (n + 1)) node ok (omega arith) odd is))

pub seen_turn : (b : BuilderView) (from node given : Node) (l r : ℕ) → SameMajority from node
    → given ≡ turned_node node → r ≡ turned l → Gives b l (λ v. node_value v given)
    → Gives b r (λ v. node_value v from)
seen_turn b from node given l r same is at gives =
    let whole : Gives b (turned l) (λ v. node_value v node) =
    gives_turned b node l (subst (λ (t : Node). Gives b l (λ v. node_value v t)) is gives) in
    gives_sorted b from node r same (subst (λ m. Gives b m (λ v. node_value v node)) (sym at) whole)

pub seen_add : {E : Type 0} (r : Result ℕ E) (b : BuilderView) (from node : Node) → SameMajority from node
    → IfOk r (λ l. Gives b l (λ v. node_value v node))
    → IfOk r (λ l. Gives b l (λ v. node_value v from))
seen_add (Err e) b from node same given = tt
seen_add (Ok l) b from node same given = gives_sorted b from node l same given
