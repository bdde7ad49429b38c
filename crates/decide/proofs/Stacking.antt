-- The turns that make a majority, over a stack of frames.
use Rattle.std.proofs.Common.{◌≡◌, ℕ, ◌+◌, ◌-◌, ◌<◌, ◌≤◌, Bool, true, false, cond, is_some, List, [], ◌∷◌, ◌++◌, drop}
use Rattle.std.proofs.Common.{get_or, reverse, Some, None, refl, sym, ap, ◌∙◌, subst, arith}
use Rattle.std.proofs.lemmas.List.{reverse-append, drop-drop}
use Rattle.circuit.specs.PlainNets.{PlainView}
use Rattle.decide.specs.declared.edge.Edge.{Edge}
use Rattle.decide.specs.declared.edge.Triple.{Triple}
use Rattle.decide.specs.declared.edge.Node.{Node}
use Rattle.decide.specs.declared.majority.Frame.{Frame}
use Rattle.decide.specs.declared.majority.Turn.TheVariants.{Make, Made}
use Rattle.decide.specs.Code.Diagrams.{inputs_of, edge_value, majority_value, cofactor, IsDiagram}
use Rattle.decide.specs.Code.Grown.{Grows, Represents, choice}
use Rattle.decide.specs.Code.Named.{IsNamed}
use Rattle.decide.specs.Code.Majorities.{AreEdges, AreFrom, IsMajority, least_of, cofactors, IsLow, IsFrame, Awaits}
use Rattle.decide.specs.Code.Majorities.{TurnFits, Waits, Joins}
use Rattle.decide.proofs.Functions.{same_above, cofactor_value, is_cofactor}
use Rattle.decide.proofs.Choosing.{grown_value}
use Rattle.decide.proofs.Naming.{named_cofactor, named_same}
use Rattle.decide.proofs.Remembering.{majority_same, level_same, inputs_same, inside_grown, edges_grown, from_grown}
use Rattle.decide.proofs.Remembering.{from_shrunk, majority_grown}

pub pushed : (stack more : List Frame) (frame : Frame) → more ≡ stack ++ frame ∷ []
    → reverse more ≡ frame ∷ reverse stack
pushed stack more frame e = ap (λ (fs : List Frame). reverse fs) e ∙ reverse-append stack (frame ∷ [])

module _ (nodes : List Node) where
  -- the same function is awaited, and the bound is no lower
  pub awaits_move : (frames : List Frame) (bound bound' : ℕ) (f g last : List Bool → Bool) → bound ≤ bound'
      → ((x : List Bool) → g x ≡ f x) → Awaits nodes frames bound f last → Awaits nodes frames bound' g last
  awaits_move [] bound bound' f g last le same awaits = λ x. same x ∙ awaits x
  awaits_move (frame ∷ frames) bound bound' f g last le same (is, rest) = (
    record {
      operands = is.operands;
      from = is.from;
      least = is.least;
      below = (let b = is.below in omega arith);
      input = is.input;
      cofactor = λ x at. same x ∙ is.cofactor x at;
      low = is.low;
    },
    rest,
  )

module _ (old new : List Node) (ok : IsDiagram old) (ok' : IsDiagram new) (grows : Grows old new) where
  frame_grown : (frame : Frame) (bound : ℕ) (f : List Bool → Bool) → IsFrame old frame bound f
      → IsFrame new frame bound f
  frame_grown frame bound f is =
      let t = frame.operands in
      record {
        operands = edges_grown old new ok ok' grows t is.operands;
        from = from_grown old new ok ok' grows frame.level t is.operands is.from;
        least = λ v from. is.least v (from_shrunk old new ok ok' grows v t is.operands from);
        below = is.below;
        input = subst (λ n. frame.level < n) (sym (inputs_same old new ok ok' grows)) is.input;
        cofactor = λ x at. is.cofactor x at ∙ sym (majority_grown old new ok ok' grows t is.operands x);
        low = λ low some.
            (let l = is.low low some in
            record {
              inside = inside_grown old new ok ok' grows low.node l.inside;
              above = subst (λ n. frame.level < n) (sym (level_same old new ok ok' grows low.node l.inside)) l.above;
              value = λ x at. grown_value old new ok ok' grows x low l.inside ∙ l.value x at
                  ∙ sym (majority_grown old new ok ok' grows t is.operands x);
            });
      }

  pub awaits_grown : (frames : List Frame) (bound : ℕ) (f last : List Bool → Bool) → Awaits old frames bound f last
      → Awaits new frames bound f last
  awaits_grown [] bound f last awaits = awaits
  awaits_grown (frame ∷ frames) bound f last (is, rest) = (
    frame_grown frame bound f is,
    awaits_move new frames frame.level frame.level (majority_value old frame.operands)
        (majority_value new frame.operands) last (omega arith)
        (majority_grown old new ok ok' grows frame.operands is.operands)
        (awaits_grown frames frame.level (majority_value old frame.operands) last rest),
  )

later : (x y : List Bool) (v w : ℕ) → v ≤ w → drop v x ≡ drop v y → drop w x ≡ drop w y
later x y v w le same =
    let e : v + (w - v) ≡ w = omega arith in
    ap (λ n. drop n x) (sym e) ∙ sym (drop-drop (w - v) v x) ∙ ap (drop (w - v)) same
    ∙ drop-drop (w - v) v y ∙ ap (λ n. drop n y) e

module _ (nodes : List Node) (ok : IsDiagram nodes) where
  pub majority_above : (t : Triple) (v : ℕ) (x y : List Bool) → AreEdges nodes t → AreFrom nodes v t
      → drop v x ≡ drop v y → majority_value nodes t x ≡ majority_value nodes t y
  majority_above t v x y edges from same = majority_same _ _ _ _ _ _
      (same_above nodes ok x y v t.first same edges.first from.first)
      (same_above nodes ok x y v t.second same edges.second from.second)
      (same_above nodes ok x y v t.third same edges.third from.third)

  -- where the last function is named, so is each that is awaited
  pub named_awaited : (a b : PlainView) → inputs_of nodes ≡ a.inputs
      → (frames : List Frame) (bound : ℕ) (f last : List Bool → Bool) → Awaits nodes frames bound f last
      → ((x y : List Bool) → drop bound x ≡ drop bound y → f x ≡ f y) → IsNamed a b last → IsNamed a b f
  named_awaited a b inputs [] bound f last awaits reads named = named_same a b last f named (λ x. sym (awaits x))
  named_awaited a b inputs (frame ∷ frames) bound f last (is, rest) reads named =
      named_cofactor a b (majority_value nodes frame.operands) f frame.level (is_some frame.low)
      (let i = is.input in omega arith)
      (named_awaited a b inputs frames frame.level (majority_value nodes frame.operands) last rest
      (λ x y same. majority_above frame.operands frame.level x y is.operands is.from same) named)
      is.cofactor
      (λ x y same. reads x y (later x y (frame.level + 1) bound (let b = is.below in omega arith) same))

  cofactors_value : (t : Triple) (v : ℕ) (side : Bool) (x : List Bool) → AreEdges nodes t → v < inputs_of nodes
      → get_or x v false ≡ side → majority_value nodes (cofactors nodes t v side) x ≡ majority_value nodes t x
  cofactors_value t v side x edges some at = majority_same _ _ _ _ _ _
      (sym (cofactor_value nodes ok x t.first v side edges.first some at))
      (sym (cofactor_value nodes ok x t.second v side edges.second some at))
      (sym (cofactor_value nodes ok x t.third v side edges.third some at))

  cofactors_fit : (t : Triple) (v : ℕ) (side : Bool) → AreEdges nodes t → AreFrom nodes v t → v < inputs_of nodes
      → TurnFits nodes (v + 1) (Make (cofactors nodes t v side))
  cofactors_fit t v side edges from some =
      let f = is_cofactor nodes ok t.first v side edges.first some from.first in
      let s = is_cofactor nodes ok t.second v side edges.second some from.second in
      let h = is_cofactor nodes ok t.third v side edges.third some from.third in (
        record { first = f.inside; second = s.inside; third = h.inside },
        record {
          first = (let l = f.level in omega arith);
          second = (let l = s.level in omega arith);
          third =
              (let l = h.level in omega arith);
        },
      )

  -- a majority that is known
  pub waits_known : (stack : List Frame) (t : Triple) (e : Edge) (last : List Bool → Bool) → IsMajority nodes t e
      → Waits nodes stack (Make t) last → Waits nodes stack (Made e) last
  waits_known stack t e last is waits = record {
    bound = waits.bound;
    fits = (is.inside, is.from waits.bound waits.fits.1);
    awaits = awaits_move nodes (reverse stack) waits.bound waits.bound (majority_value nodes t)
        (λ x. edge_value nodes x e) last (omega arith) is.value waits.awaits;
  }

  -- a frame for a majority that is not known
  pub waits_low : (stack more : List Frame) (t cofactor : Triple) (level : ℕ) (last : List Bool → Bool)
      → level ≡ least_of nodes t → level < inputs_of nodes
      → more ≡ stack ++ record { operands = t; level = level; low = None } ∷ []
      → cofactor ≡ cofactors nodes t level false → Waits nodes stack (Make t) last
      → Waits nodes more (Make cofactor) last
  waits_low stack more t cofactor level last least some is same waits =
      let edges : AreEdges nodes t = waits.fits.0 in
      let up : AreFrom nodes waits.bound t = waits.fits.1 in
      let uf = up.first in let us = up.second in let ut = up.third in
      let from : AreFrom nodes level t = record { first = omega arith; second = omega arith; third = omega arith } in
      let frame : Frame = record { operands = t; level = level; low = None } in
      let is_frame : IsFrame nodes frame (level + 1) (majority_value nodes (cofactors nodes t level false)) = record {
        operands = edges;
        from = from;
        least = λ v f. (let a = f.first in let b = f.second in let c = f.third in omega arith);
        below = omega arith;
        input = some;
        cofactor = λ x at. cofactors_value t level false x edges some at;
        low = λ low e. absurd (let z : None ≡ Some low = e in cc);
      } in
      subst (λ h. Waits nodes more (Make h) last) (sym same)
      (record {
        bound = level + 1;
        fits = cofactors_fit t level false edges from some;
        awaits = subst (λ fs. Awaits nodes fs (level + 1) (majority_value nodes (cofactors nodes t level false)) last)
            (sym (pushed stack more frame is)) (
              is_frame,
              awaits_move nodes (reverse stack) waits.bound level (majority_value nodes t)
                  (majority_value nodes t) last (omega arith) (λ x. refl) waits.awaits,
            );
      })

  -- the low cofactor is there: on to the high one
  pub waits_high : (stack more : List Frame) (frame : Frame) (cofactor : Triple) (edge : Edge) (last : List Bool → Bool)
      → frame.low ≡ None → more ≡ stack ++ record {
        operands = frame.operands;
        level = frame.level;
        low = Some edge;
      } ∷ []
      → cofactor ≡ cofactors nodes frame.operands frame.level true → Joins nodes frame edge
      → Awaits nodes (reverse stack) frame.level (majority_value nodes frame.operands) last
      → Waits nodes more (Make cofactor) last
  waits_high stack more frame cofactor edge last none is same joins awaits =
      let is_old = joins.is in
      let t = frame.operands in
      let level = frame.level in
      let after : Frame = record { operands = t; level = level; low = Some edge } in
      let is_frame : IsFrame nodes after (level + 1) (majority_value nodes (cofactors nodes t level true)) = record {
        operands = is_old.operands;
        from = is_old.from;
        least = is_old.least;
        below = omega arith;
        input = is_old.input;
        cofactor = λ x at. cofactors_value t level true x is_old.operands is_old.input at;
        low = λ low e. subst (λ (o : Edge). IsLow nodes after o) (let z : Some edge ≡ Some low = e in cc) (record {
          inside = joins.fits.0;
          above = (let b = is_old.below in let u = joins.fits.1 in omega arith);
          value = λ x at. is_old.cofactor x (at ∙ sym (ap is_some none));
        });
      } in
      subst (λ h. Waits nodes more (Make h) last) (sym same)
      (record {
        bound = level + 1;
        fits = cofactors_fit t level true is_old.operands is_old.from is_old.input;
        awaits = subst (λ fs. Awaits nodes fs (level + 1) (majority_value nodes (cofactors nodes t level true)) last)
            (sym (pushed stack more after is)) (is_frame, awaits);
      })

  -- the choice between both cofactors is the majority
  pub choice_is : (frame : Frame) (low high : Edge) → frame.low ≡ Some low → Joins nodes frame high → (x : List Bool)
      → choice nodes frame.level low high x ≡ majority_value nodes frame.operands x
  choice_is frame low high some joins x = go (get_or x frame.level false) refl
    where
      go : (b : Bool) → get_or x frame.level false ≡ b
          → cond b (edge_value nodes x high) (edge_value nodes x low) ≡ majority_value nodes frame.operands x
      go true at = joins.is.cofactor x (at ∙ sym (ap is_some some))
      go false at = (joins.is.low low some).value x at

-- the joined edge is the majority, also of what is remembered
pub joined : (old new : List Node) → IsDiagram old → IsDiagram new → Grows old new → (frame : Frame) (low high e : Edge)
    → frame.low ≡ Some low → Joins old frame high
    → Represents new frame.level (choice old frame.level low high) e → IsMajority new frame.operands e
joined old new ok ok' grows frame low high e some joins has =
    let t = frame.operands in
    let is = joins.is in
    record {
      inside = has.inside;
      from = λ v f. (let l = is.least v (from_shrunk old new ok ok' grows v t is.operands f) in let u =
          has.from in omega arith);
      value = λ x. has.value x ∙ choice_is old ok frame low high some joins x
          ∙ sym (majority_grown old new ok ok' grows t is.operands x);
    }

-- the frames wait for the joined edge
pub waits_joined : (old new : List Node) → IsDiagram old → IsDiagram new → Grows old new
    → (stack : List Frame) (frame : Frame) (e : Edge) (last : List Bool → Bool)
    → Represents new frame.level (majority_value old frame.operands) e
    → Awaits old (reverse stack) frame.level (majority_value old frame.operands) last
    → Waits new stack (Made e) last
waits_joined old new ok ok' grows stack frame e last has awaits = record {
  bound = frame.level;
  fits = (has.inside, has.from);
  awaits = awaits_move new (reverse stack) frame.level frame.level (majority_value old frame.operands)
      (λ x. edge_value new x e) last (omega arith) has.value
      (awaits_grown old new ok ok' grows (reverse stack) frame.level (majority_value old frame.operands) last awaits);
}

pub has_same : (nodes : List Node) (bound : ℕ) (f g : List Bool → Bool) (e : Edge) → ((x : List Bool) → f x ≡ g x)
    → Represents nodes bound f e → Represents nodes bound g e
has_same nodes bound f g e same has = record { inside = has.inside; from = has.from; value = λ x. has.value x ∙ same x }
