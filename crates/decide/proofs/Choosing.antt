-- What the edge to a test gives, and what one more node does to a diagram.
use Rattle.std.proofs.Common.{◌≡◌, ℕ, zero, suc, ◌+◌, ◌<◌, ◌≤◌, Bool, true, false, cond, List, length, get_or, refl}
use Rattle.std.proofs.Common.{sym, ap, ◌∙◌, subst, arith, inl, inr, Result, Ok, Err, IfErr, IsErrAnd}
use Rattle.std.proofs.lemmas.Bool.{cases_lt}
use Rattle.circuit.specs.PlainNets.{PlainView}
use Rattle.decide.specs.declared.edge.Edge.{Edge}
use Rattle.decide.specs.declared.edge.Node.{Node}
use Rattle.decide.specs.Code.Diagrams.{flip, node_at, choice_value, node_value, edge_value, IsDiagram}
use Rattle.decide.specs.Code.Grown.{Grows, Represents, choice, IsFull}
use Rattle.decide.specs.declared.refusal.DecideRefusal.{DecideRefusal}
use Rattle.decide.specs.declared.refusal.DecideRefusal.TheVariants.{Memory}
use Rattle.decide.specs.Code.Named.{IsNamed, AreNamed}
use Rattle.decide.proofs.Functions.{flip_flip, step_value, zero_value}

pub flip_twice : (c b : Bool) → flip c (flip c b) ≡ b
flip_twice true true = refl
flip_twice true false = refl
flip_twice false b = refl

pub grows_same : (nodes : List Node) → Grows nodes nodes
grows_same nodes = record { longer = omega arith; same = λ i lt. refl }

pub grows_then : (a b c : List Node) → Grows a b → Grows b c → Grows a c
grows_then a b c p q =
    let l = p.longer in
    let m = q.longer in
    record { longer = omega arith; same = λ i lt. q.same i (omega arith) ∙ p.same i lt }

module _ (old new : List Node) (ok : IsDiagram old) (ok' : IsDiagram new) (grows : Grows old new) where
  same_node : (word : List Bool) (k i : ℕ) → i < k → i < length old → node_value new word i ≡ node_value old word i
  same_node word zero i lt within = absurd (omega arith)
  same_node word (suc k) zero lt within = zero_value new ok' word ∙ sym (zero_value old ok word)
  same_node word (suc k) (suc i) lt within =
      let t = node_at old (suc i) in
      let keeps = ok.each_node (suc i) (omega arith) within in
      let l = keeps.low_older in
      let h = keeps.high_older in
      step_value new ok' word (suc i) (omega arith)
      ∙ ap (choice_value word (node_value new word)) (grows.same (suc i) within)
      ∙ ap (λ b. cond (get_or word t.level false) (flip t.high.complemented b) (node_value new word t.low))
      (same_node word k t.high.node (omega arith) (omega arith))
      ∙ ap (cond (get_or word t.level false) (flip t.high.complemented (node_value old word t.high.node)))
      (same_node word k t.low (omega arith) (omega arith))
      ∙ sym (step_value old ok word (suc i) (omega arith))

  -- old edges keep their functions
  pub grown_node : (word : List Bool) (i : ℕ) → i < length old → node_value new word i ≡ node_value old word i
  grown_node word i within = same_node word (suc i) i (omega arith) within

  pub grown_value : (word : List Bool) (e : Edge) → e.node < length old → edge_value new word e ≡ edge_value old word e
  grown_value word e within = ap (flip e.complemented) (grown_node word e.node within)

  choose : (n c b : Bool) (high low : Bool)
      → flip n (cond b (flip (flip n c) high) low) ≡ cond b (flip c high) (flip n low)
  choose n c false high low = refl
  choose n c true high low = ap (flip n) (flip_flip n c high) ∙ flip_twice n (flip c high)

  -- the edge to the test of a choice has its function
  pub chosen : (level : ℕ) (low high other : Edge) (i : ℕ)
      → other ≡ record { node = high.node; complemented = flip low.complemented high.complemented }
      → low.node < length old → high.node < length old
      → 0 < i → i < length new → node_at new i ≡ record { level = level; low = low.node; high = other }
      → Represents new level (choice old level low high) (record { node = i; complemented = low.complemented })
  chosen level low high other i is inside inside' some within test =
      let t : Node = record {
        level = level;
        low = low.node;
        high = record { node = high.node; complemented = flip low.complemented high.complemented };
      } in
      let same : node_at new i ≡ t = test
      ∙ ap (λ (e : Edge). let u : Node = record { level = level; low = low.node; high = e } in u) is in
      record {
        inside = within;
        from = (let e = ap (λ (u : Node). u.level) same in omega arith);
        value = λ x.
            ap (flip low.complemented) (step_value new ok' x i some ∙ ap (choice_value x (node_value new x)) same)
            ∙ choose low.complemented high.complemented (get_or x level false) (node_value new x high.node)
            (node_value new x low.node)
            ∙ ap (λ b. cond (get_or x level false) b (flip low.complemented (node_value new x low.node)))
            (grown_value x high inside')
            ∙ ap (cond (get_or x level false) (edge_value old x high)) (grown_value x low inside);
      }

  -- each node is named where the old ones are, and the new one
  pub named_more : (a b : PlainView) (f : List Bool → Bool) (bound : ℕ) (e : Edge) → AreNamed a b old → IsNamed a b f
      → Represents new bound f e → length new ≤ length old + 1 → e.node ≡ length old → AreNamed a b new
  named_more a b f bound e named is has size last i some within = elim (cases_lt i (length old)) [
    | inl less ↦
        (let m = named i some less in
        record {
          name = m.name;
          is_name = m.is_name;
          complemented = m.complemented;
          same = λ x long. m.same x long ∙ ap (flip m.complemented) (sym (grown_node x i less));
        })
    | inr ge ↦
        (let at : e.node ≡ i = omega arith in
        record {
          name = is.name;
          is_name = is.is_name;
          complemented = flip is.complemented e.complemented;
          same = λ x long. is.same x long
              ∙ ap (flip is.complemented) (sym (has.value x) ∙ ap (λ j. flip e.complemented (node_value new x j)) at)
              ∙ sym (flip_flip is.complemented e.complemented (node_value new x i));
        })
  ]

-- want of memory may come at any number of nodes
pub full_memory : {A : Type 0} (nodes : List Node) (r : Result A DecideRefusal)
    → IsErrAnd r (λ e. e ≡ Memory) → IfErr r (IsFull nodes)
full_memory nodes (Ok x) h = tt
full_memory nodes (Err e) h = subst (IsFull nodes) (sym h) tt
