-- Literals for the nodes of a graph.
use Rattle.std.specs.Prelude.{◌≡◌, ℕ, zero, suc, ◌+◌, ◌-◌, ◌/◌, ◌%◌, ◌<◌, ◌≤◌, ◌==◌, ◌⊎◌, Bool, true, false, not, cond}
use Rattle.std.specs.Prelude.{List, [], ◌∷◌, ◌++◌, length, map, Option, Some, None, IfSome}
use Rattle.std.specs.Option.{option_map}
use Rattle.std.proofs.Common.{refl, sym, ap, ◌∙◌, subst, arith, inl, inr, length-append}
use Rattle.std.proofs.lemmas.List.{length-map, map-append}
use Rattle.std.proofs.lemmas.Option.{same_Some}
use Rattle.std.proofs.lemmas.Bool.{cases_lt}
use Rattle.truth_tables.specs.Tables.{holds, index}
use Rattle.mig.specs.Graphs.{GraphView, literal_value, IsGraph, Fits, turned}
use Rattle.mig.specs.Building.{BuilderView, Grown, limit, AllThere}
use Rattle.mig.specs.Carried.{Shows, fits_graph, literal_at, AreLiterals}
use Rattle.mig.specs.Passes.{IsRebuilt}
use Rattle.mig.proofs.Built.{even_value, fits_before}
use Rattle.mig.proofs.Folded.{turned_value, turned_below}
use Rattle.mig.proofs.Shown.{shows_later}
use Rattle.mig.proofs.Valued.{some_fits}
use Rattle.mig_rewrite.specs.declared.run.Entry.{Entry}
use Rattle.mig_rewrite.specs.Code.Cones.{Agrees, IsEntry, Carries, carried_at, AreCarried, HasFirst}

head_same : {A : Type 0} {x y : A} {xs ys : List A} → x ∷ xs ≡ y ∷ ys → x ≡ y
head_same e = cc

tail_same : {A : Type 0} {x y : A} {xs ys : List A} → x ∷ xs ≡ y ∷ ys → xs ≡ ys
tail_same e = cc

pub are_seen : (found read : List (Option ℕ)) (nodes leaves literals given : List ℕ) → read ≡ found → nodes ≡ leaves
    → given ≡ literals → AreLiterals read nodes literals → AreLiterals found leaves given
are_seen found read nodes leaves literals given r s g are = ap (map Some) g ∙ are
    ∙ ap (λ ms. map (literal_at ms) nodes) r ∙ ap (map (literal_at found)) s

module _ (graph : GraphView) (b : BuilderView) (found : List (Option ℕ)) (carries : Carries graph b found) where
  pub literals_there : (nodes literals : List ℕ) → AreLiterals found nodes literals → AllThere b literals
  literals_there [] [] are = tt
  literals_there [] (l ∷ ls) are = absurd (let z : Some l ∷ map Some ls ≡ [] = are in cc)
  literals_there (s ∷ ss) [] are = tt
  literals_there (s ∷ ss) (l ∷ ls) are =
      ((carries.each s l (sym (head_same are))).below, literals_there ss ls (tail_same are))

  pub literals_show : (nodes literals : List ℕ) → AreLiterals found nodes literals
      → (word : List Bool) (v w : ℕ → Bool) → fits_graph graph word v → Fits b.inputs b.nodes word w
      → map (literal_value w) literals ≡ map v nodes
  literals_show [] [] are word v w fit in_b = refl
  literals_show [] (l ∷ ls) are word v w fit in_b = absurd (let z : Some l ∷ map Some ls ≡ [] = are in cc)
  literals_show (s ∷ ss) [] are word v w fit in_b =
      absurd (let z : [] ≡ literal_at found s ∷ map (literal_at found) ss = are in cc)
  literals_show (s ∷ ss) (l ∷ ls) are word v w fit in_b =
      ap (λ t. t ∷ map (literal_value w) ls) ((carries.each s l (sym (head_same are))).same word v w fit in_b)
      ∙ ap (λ ts. v s ∷ ts) (literals_show ss ls (tail_same are) word v w fit in_b)

  literals_size : (nodes literals : List ℕ) → AreLiterals found nodes literals → length literals ≡ length nodes
  literals_size nodes literals are = sym (length-map literals Some) ∙ ap length are
      ∙ length-map nodes (literal_at found)

  -- a recipe that computes what a node does
  pub cut_shows : (later : BuilderView) (leaves literals : List ℕ) (node : ℕ) (entry : Entry)
      → AreLiterals found leaves literals → Grown b later → Agrees graph leaves node entry.table
      → IsEntry later literals entry → Shows graph later node entry.literal
  cut_shows later leaves literals node entry are grown agrees is =
      let size = literals_size leaves literals are in
      let few = agrees.few in record {
        below = (is [] (let z : length literals + 0 ≤ 6 = omega arith in z)).below;
        same = λ word v w fit in_later.
            let idle = length-map agrees.idle v in
            (is (map v agrees.idle) (omega arith)).shows word w in_later
            ∙ ap (λ xs. holds entry.table (index (xs ++ map v agrees.idle)))
            (literals_show leaves literals are word v w fit (fits_before b later grown word w in_later))
            ∙ ap (λ xs. holds entry.table (index xs)) (sym (map-append v leaves agrees.idle))
            ∙ sym (agrees.computes.value word v fit);
      }

  -- the literal for a literal
  carried_shows : (l m : ℕ) → carried_at found l ≡ Some m
      → (m < limit b) ×
      ((word : List Bool) (v w : ℕ → Bool) → fits_graph graph word v → Fits b.inputs b.nodes word w
      → literal_value w m ≡ literal_value v l)
  unfolding literal_value
  carried_shows l m is = go (literal_at found (l / 2)) refl is
    where
      by_sign : (s : Bool) (f : ℕ) → f < limit b → cond s (turned f) f < limit b
      by_sign true f lt = turned_below (1 + b.inputs + length b.nodes) f lt
      by_sign false f lt = lt

      by_value : (s : Bool) (f : ℕ) (w : ℕ → Bool)
          → literal_value w (cond s (turned f) f) ≡ cond s (not (literal_value w f)) (literal_value w f)
      by_value true f w = turned_value w f
      by_value false f w = refl

      go : (o : Option ℕ) → literal_at found (l / 2) ≡ o → option_map (λ f. cond (l % 2 == 1) (turned f) f) o ≡ Some m
          → (m < limit b) ×
          ((word : List Bool) (v w : ℕ → Bool) → fits_graph graph word v → Fits b.inputs b.nodes word w
          → literal_value w m ≡ literal_value v l)
      go None at e = absurd (let z : None ≡ Some m = e in cc)
      go (Some f) at e =
          let same : cond (l % 2 == 1) (turned f) f ≡ m = same_Some (cond (l % 2 == 1) (turned f) f) m e in
          let shows = carries.each (l / 2) f at in (
            subst (λ k. k < limit b) same (by_sign (l % 2 == 1) f shows.below),
            λ word v w fit in_b. ap (literal_value w) (sym same) ∙ by_value (l % 2 == 1) f w
                ∙ ap (λ t. cond (l % 2 == 1) (not t) t) (shows.same word v w fit in_b),
          )

  pub carried_there : (outputs literals : List ℕ) → AreCarried found outputs literals → AllThere b literals
  carried_there [] [] are = tt
  carried_there [] (l ∷ ls) are = absurd (let z : Some l ∷ map Some ls ≡ [] = are in cc)
  carried_there (s ∷ ss) [] are = tt
  carried_there (s ∷ ss) (l ∷ ls) are =
      ((carried_shows s l (sym (head_same are))).0, carried_there ss ls (tail_same are))

  pub carried_show : (outputs literals : List ℕ) → AreCarried found outputs literals
      → (word : List Bool) (v w : ℕ → Bool) → fits_graph graph word v → Fits b.inputs b.nodes word w
      → map (literal_value w) literals ≡ map (literal_value v) outputs
  carried_show [] [] are word v w fit in_b = refl
  carried_show [] (l ∷ ls) are word v w fit in_b = absurd (let z : Some l ∷ map Some ls ≡ [] = are in cc)
  carried_show (s ∷ ss) [] are word v w fit in_b =
      absurd (let z : [] ≡ carried_at found s ∷ map (carried_at found) ss = are in cc)
  carried_show (s ∷ ss) (l ∷ ls) are word v w fit in_b =
      ap (λ t. t ∷ map (literal_value w) ls) ((carried_shows s l (sym (head_same are))).1 word v w fit in_b)
      ∙ ap (λ ts. literal_value v s ∷ ts) (carried_show ss ls (tail_same are) word v w fit in_b)

  pub carried_size : (outputs literals : List ℕ) → AreCarried found outputs literals → length literals ≡ length outputs
  carried_size outputs literals are = sym (length-map literals Some) ∙ ap length are
      ∙ length-map outputs (carried_at found)

  pub is_rebuilt : (seen literals : List ℕ) (made : GraphView) → IsGraph graph → seen ≡ graph.outputs
      → AreCarried found seen literals
      → made ≡ record { inputs = b.inputs; nodes = b.nodes; outputs = literals } → IsGraph made → IsRebuilt graph made
  is_rebuilt seen literals made ok s are is keeps = subst (IsRebuilt graph) (sym is) (record {
    keeps = subst IsGraph is keeps;
    same = record {
      same_inputs = carries.same_inputs;
      same_outputs = carried_size seen literals are ∙ ap length s;
      there = λ x y long a.
          let w = some_fits b.inputs b.nodes (subst IsGraph is keeps).are_nodes x in record {
            values = w.0;
            fit = w.1;
            shown = a.shown ∙ ap (map (literal_value a.values)) (sym s)
                ∙ sym (carried_show seen literals are x a.values w.0 a.fit w.1);
          };
      back = λ x y long a.
          let v = some_fits graph.inputs graph.nodes ok.are_nodes x in record {
            values = v.0;
            fit = v.1;
            shown = a.shown ∙ carried_show seen literals are x v.0 a.values v.1 a.fit ∙ ap (map (literal_value v.0)) s;
          };
    };
  })

-- the constant and the inputs
pub first_carries : (graph : GraphView) (b : BuilderView) (found : List (Option ℕ)) (n : ℕ) → b.inputs ≡ graph.inputs
    → n ≡ graph.inputs → HasFirst (1 + n) found → Carries graph b found
first_carries graph b found n same e first = record {
  same_inputs = same;
  each = λ i l is.
      let lt = (first.each i l is).0 in
      let at = (first.each i l is).1 in
      record {
        below = omega arith;
        same = λ word v w fit in_b.
            ap (literal_value w) at ∙ even_value w i ∙ elim (cases_lt 0 i) [
              | inl above ↦
                  let e2 : i ≡ 1 + (i - 1) = omega arith in
                  ap w e2 ∙ in_b.of_input (i - 1) (omega arith) ∙ sym (fit.of_input (i - 1) (omega arith))
                  ∙ ap v (sym e2)
              | inr least ↦ (let e3 : i ≡ 0 = omega arith in ap w e3 ∙ in_b.none ∙ sym fit.none ∙ ap v (sym e3))
            ];
      };
}

at_last : (found : List (Option ℕ)) (o : Option ℕ) (i l : ℕ) → literal_at (found ++ o ∷ []) i ≡ Some l
    → (literal_at found i ≡ Some l) ⊎ ((i ≡ length found) × (o ≡ Some l))
at_last [] o zero l is = inr (refl, is)
at_last [] o (suc i) l is = absurd (let z : None ≡ Some l = is in cc)
at_last (f ∷ fs) o zero l is = inl is
at_last (f ∷ fs) o (suc i) l is = elim (at_last fs o i l is) [ inl old ↦ inl old | inr new ↦ inr (ap suc new.0, new.1) ]

pub when_some : (P : ℕ → Type 0) (o : Option ℕ) (l : ℕ) → IfSome o P → o ≡ Some l → P l
when_some P o l h e = subst (λ (t : Option ℕ). IfSome t P) e h

pub one_longer : (found more : List (Option ℕ)) (o : Option ℕ) → more ≡ found ++ o ∷ [] → length more ≡ length found + 1
one_longer found more o is = ap length is ∙ length-append found (o ∷ [])

pub carries_more : (graph : GraphView) (a b : BuilderView) (found more : List (Option ℕ)) (o : Option ℕ) (node : ℕ)
    → node ≡ length found → Grown a b
    → ((l : ℕ) → o ≡ Some l → Shows graph b node l) → more ≡ found ++ o ∷ [] → Carries graph a found
    → Carries graph b more
carries_more graph a b found more o node e grown shows is carries = record {
  same_inputs = grown.same_inputs ∙ carries.same_inputs;
  each = λ i l at. elim (at_last found o i l (ap (λ fs. literal_at fs i) (sym is) ∙ at)) [
    | inl old ↦ shows_later graph a b i l grown (carries.each i l old)
    | inr new ↦ subst (λ k. Shows graph b k l) (e ∙ sym new.0) (shows l new.1)
  ];
}
