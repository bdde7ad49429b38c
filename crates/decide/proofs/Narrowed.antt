-- The search for the least word in the inputs' own order, in a diagram of another variable order.
use Rattle.std.proofs.Common.{◌≡◌, ◌≢◌, ℕ, ◌+◌, ◌<◌, ◌⊎◌, ◌&&◌, Bool, true, false, not, cond, List, [], ◌∷◌, ◌++◌}
use Rattle.std.proofs.Common.{length, take, get_or, refl, sym, ap, ◌∙◌, subst, arith, inl, inr, length-append}
use Rattle.std.proofs.Common.{MatchBool}
use Rattle.std.proofs.lemmas.List.{take_more, length-take-le, length-map, get_or-map, ext_get_or}
use Rattle.std.proofs.Math.Seq.{take-length}
use Rattle.std.proofs.lemmas.Bool.{cases_Bool}
use Rattle.std.specs.Cmp.{first_so, second_so}
use Rattle.circuit.specs.Function.{majority}
use Rattle.decide.specs.declared.edge.Edge.{Edge}
use Rattle.decide.specs.declared.edge.Node.{Node}
use Rattle.decide.specs.Code.Diagrams.{flip, regular, inputs_of, node_value, edge_value, majority_value, IsDiagram}
use Rattle.decide.specs.Code.Grown.{Grows, Represents}
use Rattle.decide.specs.Code.Combined.{both_true, differs_at, low_part, IsNarrowed}
use Rattle.decide.specs.Code.Orders.{IsOrder, arranged}
use Rattle.decide.specs.Code.Least.{IsLeastWord}
use Rattle.decide.specs.Verdicts.{Before}
use Rattle.decide.proofs.Functions.{zero_value}
use Rattle.decide.proofs.Canonical.{edges_differ}
use Rattle.decide.proofs.Choosing.{grown_value}
use Rattle.decide.proofs.Remembering.{inside_grown}
use Rattle.decide.proofs.Searching.{before_more, same_more}

-- no value is true and false
clash : {A : Type 0} (b : Bool) → b ≡ true → b ≡ false → A
clash b p q = absurd (let z : true ≡ false = sym p ∙ q in cc)

-- a majority with false is a conjunction
pub with_false : (a b z : Bool) → z ≡ false → majority a b z ≡ (a && b)
with_false true true z e = refl
with_false false false z e = refl
with_false true false true e = clash true refl e
with_false true false false e = refl
with_false false true true e = clash true refl e
with_false false true false e = refl

-- the majority of two functions and false is their conjunction
pub has_conjunction : (old new : List Node) → IsDiagram old → (f g e : Edge)
    → Represents new 0 (majority_value old
    (record { first = f; second = g; third = record { node = 0; complemented = false } })) e
    → Represents new 0 (both_true old f g) e
has_conjunction old new ok f g e has = record {
  inside = has.inside;
  from = has.from;
  value = λ x. has.value x ∙ with_false (edge_value old x f) (edge_value old x g)
      (node_value old x 0) (zero_value old ok x);
}

-- the complement of an edge has the complement's value
pub complement_value : (nodes : List Node) (e f : Edge) (x : List Bool)
    → f ≡ record { node = e.node; complemented = not e.complemented }
    → edge_value nodes x f ≡ not (edge_value nodes x e)
complement_value nodes e f x is = ap (λ (g : Edge). edge_value nodes x g) is
    ∙ go e.complemented (node_value nodes x e.node)
  where
    go : (c b : Bool) → flip (not c) b ≡ not (flip c b)
    go true true = refl
    go true false = refl
    go false b = refl

-- neither both nor both complements
neither_both : (a b p q : Bool) → p ≡ not (a && b) → q ≡ not (not a && not b) → (p && q) ≡ flip a b
neither_both true true p q e f = ap (λ c. c && q) e
neither_both true false p q e f = ap (λ c. c && q) e ∙ f
neither_both false true p q e f = ap (λ c. c && q) e ∙ f
neither_both false false p q e f = ap (λ c. c && q) e ∙ f

and_same : (a b c d : Bool) → a ≡ c → b ≡ d → (a && b) ≡ (c && d)
and_same a b c d p q = ap (λ x. x && b) p ∙ ap (λ x. c && x) q

-- the difference of two functions
pub has_difference : (old one two new : List Node) → IsDiagram old → IsDiagram one → IsDiagram two → Grows old one
    → Grows one two → (f g f' g' both both' neither neither' e : Edge)
    → f.node < length old → g.node < length old
    → f' ≡ record { node = f.node; complemented = not f.complemented }
    → g' ≡ record { node = g.node; complemented = not g.complemented }
    → both' ≡ record { node = both.node; complemented = not both.complemented }
    → neither' ≡ record { node = neither.node; complemented = not neither.complemented }
    → Represents one 0 (both_true old f g) both → Represents two 0 (both_true one f' g') neither
    → Represents new 0 (both_true two both' neither') e → Represents new 0 (differs_at old f g) e
has_difference old one two new ok ok' ok'' grows grows' f g f' g' both both' neither neither' e fin gin fs
    gs bs ns b n has = record {
      inside = has.inside;
      from = has.from;
      value = λ x. has.value x
          ∙ neither_both (edge_value old x f) (edge_value old x g) (edge_value two x both') (edge_value two x neither')
          (complement_value two both both' x bs ∙ ap not
          (grown_value one two ok' ok'' grows' x both b.inside ∙ b.value x))
          (complement_value two neither neither' x ns ∙ ap not (n.value x
          ∙ and_same (edge_value one x f') (edge_value one x g') (not (edge_value old x f)) (not (edge_value old x g))
          (complement_value one f f' x fs ∙ ap not (grown_value old one ok ok' grows x f fin))
          (complement_value one g g' x gs ∙ ap not (grown_value old one ok ok' grows x g gin))));
    }

-- the part of a function where a variable is false
pub has_low_part : (old one new : List Node) → IsDiagram old → IsDiagram one → Grows old one
    → (f variable variable' e : Edge) (level : ℕ) → f.node < length old
    → variable' ≡ record { node = variable.node; complemented = not variable.complemented }
    → ((x : List Bool) → edge_value one x variable ≡ get_or x level false)
    → Represents new 0 (both_true one f variable') e → Represents new 0 (low_part old f level) e
has_low_part old one new ok ok' grows f variable variable' e level inside vs is has = record {
  inside = has.inside;
  from = has.from;
  value = λ x. has.value x
      ∙ and_same (edge_value one x f) (edge_value one x variable') (edge_value old x f) (not (get_or x level false))
      (grown_value old one ok ok' grows x f inside) (complement_value one variable variable' x vs ∙ ap not (is x));
}

-- the edge that goes on is of the diagram
pub narrowed_inside : (old new : List Node) → IsDiagram old → IsDiagram new → Grows old new
    → (side : Bool) (e low e' : Edge) → e.node < length old → low.node < length new
    → e' ≡ cond side e low → e'.node < length new
narrowed_inside old new ok ok' grows true e low e' p q is = subst (λ (f : Edge). f.node < length new) (sym is)
    (inside_grown old new ok ok' grows e.node p)
narrowed_inside old new ok ok' grows false e low e' p q is = subst (λ (f : Edge). f.node < length new) (sym is) q

flip_differ : (a b : Bool) → flip a b ≡ true → a ≢ b
flip_differ true true e same = clash false e refl
flip_differ true false e same = clash false (sym same) refl
flip_differ false true e same = clash true refl (sym same)
flip_differ false false e same = clash false e refl

differ_flip : (a b : Bool) → a ≢ b → flip a b ≡ true
differ_flip true true other = absurd (other refl)
differ_flip true false other = refl
differ_flip false true other = refl
differ_flip false false other = absurd (other refl)

not_false : (b : Bool) → not b ≡ true → b ≡ false
not_false true e = clash false e refl
not_false false e = refl

module _ (n : ℕ) (order rank : List ℕ) (is : IsOrder n order rank) (si : IsOrder n rank order) where
  -- an input's value stands at its rank
  pub arranged_at : (x : List Bool) (k : ℕ) → k < n
      → get_or (arranged order x) (get_or rank k 0) false ≡ get_or x k false
  arranged_at x k lt =
      get_or-map (λ j. get_or x j false) order (get_or rank k 0) 0 false (is.stands k lt).within
      ∙ ap (λ j. get_or x j false) ((is.stands k lt).back)

  pub arranged_long : (x : List Bool) → length (arranged rank x) ≡ n
  arranged_long x = length-map rank (λ j. get_or x j false) ∙ is.ranks

  -- each word of levels is that of a word of inputs
  pub undone : (y : List Bool) → length y ≡ n → arranged order (arranged rank y) ≡ y
  undone y long =
      ext_get_or false (arranged order (arranged rank y)) y
      (length-map order (λ j. get_or (arranged rank y) j false) ∙ is.size ∙ sym long)
      (λ j lt.
      let size = length-map order (λ j. get_or (arranged rank y) j false) in
      let within : j < length order = omega arith in
      let s = is.size in
      let at = si.stands j (omega arith) in
      get_or-map (λ j. get_or (arranged rank y) j false) order j 0 false within
      ∙ get_or-map (λ j. get_or y j false) rank (get_or order j 0) 0 false at.within
      ∙ ap (λ i. get_or y i false) at.back)

  module _ (nodes : List Node) (ok : IsDiagram nodes) (inputs : inputs_of nodes ≡ n) where
    -- a word at which an edge is true
    pub record IsTrueAt (e : Edge) : Type 0 where
      pub word : List Bool
      pub long : length word ≡ n
      pub true_at : edge_value nodes (arranged order word) e ≡ true

    -- each edge but false has one
    pub true_somewhere : (e : Edge) → e.node < length nodes → e ≢ regular 0 → IsTrueAt e
    true_somewhere e inside other =
        let d = edges_differ nodes ok e (regular 0) inside ok.some other in
        record {
          word = arranged rank d.word;
          long = arranged_long d.word;
          true_at = ap (λ (y : List Bool). edge_value nodes y e) (undone d.word (d.long ∙ inputs))
              ∙ not_not (edge_value nodes d.word e) (node_value nodes d.word 0) d.differ (zero_value nodes ok d.word);
        }
      where
        not_not : (a z : Bool) → a ≢ z → z ≡ false → a ≡ true
        not_not true z other e = refl
        not_not false z other e = absurd (other (sym e))

  -- at first: the difference of two functions
  pub narrowed_begins : (old nodes : List Node) → IsDiagram old → IsDiagram nodes → inputs_of old ≡ n
      → (f g e : Edge) (word : List Bool) → word ≡ [] → f.node < length old → g.node < length old → f ≢ g
      → Represents nodes 0 (differs_at old f g) e
      → IsNarrowed nodes order n (λ x. edge_value old (arranged order x) f)
      (λ x. edge_value old (arranged order x) g) word e 0
  narrowed_begins old nodes ok ok' inputs f g e word empty fin gin other has =
      let d = edges_differ old ok f g fin gin other in
      record {
        size = ap length empty;
        some = false_nowhere_at d.word (has.value d.word
            ∙ differ_flip (edge_value old d.word f) (edge_value old d.word g) d.differ);
        holds = λ x long true_at. (
          flip_differ (edge_value old (arranged order x) f) (edge_value old (arranged order x) g)
              (sym (has.value (arranged order x)) ∙ true_at),
          sym empty,
        );
        covers = λ x long differ same. has.value (arranged order x)
            ∙ differ_flip (edge_value old (arranged order x) f) (edge_value old (arranged order x) g) differ;
        before = λ x long before. absurd (subst (λ w. Before [] w) empty before);
      }
    where
      false_nowhere_at : (y : List Bool) → edge_value nodes y e ≡ true → e ≢ regular 0
      false_nowhere_at y holds same = clash (edge_value nodes y e) holds (ap (λ (h : Edge). edge_value nodes y h) same
          ∙ zero_value nodes ok' y)

  module _ (old new : List Node) (ok : IsDiagram old) (ok' : IsDiagram new) (grows : Grows old new)
      (inputs : inputs_of old ≡ n) (f g : List Bool → Bool) (word : List Bool) (e low : Edge) (count : ℕ)
      (narrowed : IsNarrowed old order n f g word e count)
      (inside : e.node < length old) (within : count < n)
      (has : Represents new 0 (low_part old e (get_or rank count 0)) low) where
    at : (x : List Bool) → length x ≡ n → take (count + 1) x ≡ take count x ++ get_or x count false ∷ []
    at x long = take_more x count false (omega arith)

    -- the value of the low part
    low_value : (x : List Bool)
        → edge_value new (arranged order x) low ≡ (edge_value old (arranged order x) e && not (get_or x count false))
    low_value x = has.value (arranged order x)
        ∙ ap (λ b. edge_value old (arranged order x) e && not b) (arranged_at x count within)

    low_true : (x : List Bool) → edge_value old (arranged order x) e ≡ true → get_or x count false ≡ false
        → edge_value new (arranged order x) low ≡ true
    low_true x p q = low_value x ∙ ap (λ b. b && not (get_or x count false)) p ∙ ap not q

    same_value : (x : List Bool) → edge_value new (arranged order x) e ≡ edge_value old (arranged order x) e
    same_value x = grown_value old new ok ok' grows (arranged order x) e inside

    -- the low part is false everywhere: the input is true
    where_true : low ≡ regular 0 → (x : List Bool) → edge_value old (arranged order x) e ≡ true
        → get_or x count false ≡ true
    where_true none x holds = elim (cases_Bool (get_or x count false)) [
      | inl p ↦ p
      | inr p ↦ clash (edge_value new (arranged order x) low) (low_true x holds p)
          (ap (λ (h : Edge). edge_value new (arranged order x) h) none ∙ zero_value new ok' (arranged order x))
    ]

    split : (x : List Bool) → length x ≡ n → (side : Bool) → take (count + 1) x ≡ word ++ side ∷ []
        → (take count x ≡ word) × (get_or x count false ≡ side)
    split x long side same = same_more (take count x) word (get_or x count false) side (sym (at x long) ∙ same)

    joined : (x : List Bool) → length x ≡ n → (side : Bool) → take count x ≡ word → get_or x count false ≡ side
        → take (count + 1) x ≡ word ++ side ∷ []
    joined x long side p q = at x long ∙ ap (λ (w : List Bool). w ++ get_or x count false ∷ []) p
        ∙ ap (λ b. word ++ b ∷ []) q

    earlier : (x : List Bool) → length x ≡ n → (side : Bool) → Before (take (count + 1) x) (word ++ side ∷ [])
        → (Before (take count x) word) ⊎ ((take count x ≡ word) × (get_or x count false ≡ false) × (side ≡ true))
    earlier x long side before =
        before_more (take count x) word (get_or x count false) side (length-take-le count x (omega arith)
        ∙ sym narrowed.size) (subst (λ zs. Before zs (word ++ side ∷ [])) (at x long) before)

    alike : (x : List Bool) → (f x ≢ g x → ⊥) → f x ≡ g x
    alike x never = go (f x) (g x) never
      where
        go : (a b : Bool) → (a ≢ b → ⊥) → a ≡ b
        go true true never = refl
        go false false never = refl
        go true false never = absurd (never (λ same. clash true refl same))
        go false true never = absurd (never (λ same. clash true refl (sym same)))

    more_true : low ≡ regular 0 → IsNarrowed new order n f g (word ++ true ∷ []) e (count + 1)
    more_true none = record {
      size = length-append word (true ∷ []) ∙ ap (λ k. k + 1) narrowed.size;
      some = narrowed.some;
      holds = λ x long true_at.
          (let before = sym (same_value x) ∙ true_at in
          let h = narrowed.holds x long before in
          (h.0, joined x long true h.1 (where_true none x before)));
      covers = λ x long differ same. same_value x ∙ narrowed.covers x long differ (split x long true same).0;
      before = λ x long before. elim (earlier x long true before) [
        | inl less ↦ narrowed.before x long less
        | inr here ↦ alike x (λ differ. clash (get_or x count false)
            (where_true none x (narrowed.covers x long differ here.0)) here.1)
      ];
    }

    more_false : low ≢ regular 0 → IsNarrowed new order n f g (word ++ false ∷ []) low (count + 1)
    more_false some = record {
      size = length-append word (false ∷ []) ∙ ap (λ k. k + 1) narrowed.size;
      some = some;
      holds = λ x long true_at.
          (let both = sym (low_value x) ∙ true_at in
          let h = narrowed.holds x long
          (first_so (edge_value old (arranged order x) e) (not (get_or x count false)) both) in (
            h.0,
            joined x long false h.1
                (not_false (get_or x count false)
                (second_so (edge_value old (arranged order x) e) (not (get_or x count false)) both)),
          ));
      covers = λ x long differ same.
          (let s = split x long false same in low_true x (narrowed.covers x long differ s.0) s.1);
      before = λ x long before. elim (earlier x long false before) [
        | inl less ↦ narrowed.before x long less
        | inr here ↦ clash false here.2 refl
      ];
    }

    -- one more input
    pub narrowed_more : (side : Bool) (e' : Edge) (more : List Bool)
        → MatchBool side (low ≡ regular 0) (low ≡ regular 0 → ⊥) → e' ≡ cond side e low → more ≡ word ++ side ∷ []
        → IsNarrowed new order n f g more e' (count + 1)
    narrowed_more true e' more none es ms = rw (es, ms) (more_true none)
    narrowed_more false e' more some es ms = rw (es, ms) (more_false some)

  -- at the end one word is left
  pub narrowed_ends : (nodes : List Node) → IsDiagram nodes → inputs_of nodes ≡ n
      → (f g : List Bool → Bool) (word : List Bool) (e : Edge) (count : ℕ) → count ≡ n → e.node < length nodes
      → IsNarrowed nodes order n f g word e count → IsLeastWord n f g word
  narrowed_ends nodes ok inputs f g word e count all inside narrowed =
      let t = true_somewhere nodes ok inputs e inside narrowed.some in
      let h = narrowed.holds t.word t.long t.true_at in
      let whole : (x : List Bool) → length x ≡ n
      → take count x ≡ x = λ x long. ap (λ k. take k x) (all ∙ sym long) ∙ take-length x in
      let same : t.word ≡ word = sym (whole t.word t.long) ∙ h.1 in
      record {
        long = narrowed.size ∙ all;
        differ = subst (λ (w : List Bool). f w ≢ g w) same h.0;
        least = λ x long before. narrowed.before x long (subst (λ zs. Before zs word) (sym (whole x long)) before);
      }
