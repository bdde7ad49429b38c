-- Each turn leaves fewer of them.
use Rattle.std.proofs.Common.{◌≡◌, ℕ, zero, suc, ◌+◌, ◌-◌, ◌<◌, ◌≤◌, Bool, true, false, List, [], ◌∷◌, ◌++◌, Option}
use Rattle.std.proofs.Common.{Some, None, refl, ap, ◌∙◌, subst, arith}
use Rattle.decide.specs.declared.edge.Edge.{Edge}
use Rattle.decide.specs.declared.edge.Node.{Node}
use Rattle.decide.specs.declared.edge.Triple.{Triple}
use Rattle.decide.specs.declared.majority.Frame.{Frame}
use Rattle.decide.specs.declared.majority.Turn.{Turn}
use Rattle.decide.specs.declared.majority.Turn.TheVariants.{Make, Made}
use Rattle.decide.specs.Code.Diagrams.{inputs_of, IsDiagram}
use Rattle.decide.specs.Code.Grown.{Grows}
use Rattle.decide.specs.Code.Majorities.{AreEdges, AreFrom, least_of, cofactors, Joins}
use Rattle.decide.specs.Code.Turns.{turns_of, cofactor_turns, frame_turns, frames_turns, turns_left}
use Rattle.decide.proofs.Functions.{is_cofactor}
use Rattle.decide.proofs.Remembering.{inputs_same}

turns_some : (n : ℕ) → 0 < turns_of n
unfolding turns_of
turns_some zero = omega arith
turns_some (suc n) = omega arith

turns_suc : (n : ℕ) → turns_of (suc n) ≡ turns_of n + turns_of n + 3
unfolding turns_of
turns_suc n = refl

turns_more : (k n : ℕ) → turns_of n ≤ turns_of (k + n)
turns_more zero n = subst (λ m. turns_of n ≤ turns_of m) (let z : n ≡ zero + n = omega arith in z) (omega arith)
turns_more (suc k) n =
    let e : suc (k + n) ≡ suc k + n = omega arith in
    subst (λ m. turns_of n ≤ turns_of m) e (let s = turns_suc (k + n) in let r = turns_more k n in omega arith)

turns_le : (m n : ℕ) → m ≤ n → turns_of m ≤ turns_of n
turns_le m n le = subst (λ k. turns_of m ≤ turns_of k)
    (let z : (n - m) + m ≡ n = omega arith in z) (turns_more (n - m) m)

frames_push : (n : ℕ) (frames : List Frame) (frame : Frame)
    → frames_turns n (frames ++ frame ∷ []) ≡ frames_turns n frames + frame_turns n frame
frames_push n [] frame = omega arith
frames_push n (f ∷ frames) frame = let r = frames_push n frames frame in omega arith

pub falls_known : (nodes : List Node) (stack : List Frame) (t : Triple) (e : Edge)
    → turns_left nodes stack (Made e) < turns_left nodes stack (Make t)
falls_known nodes stack t e = let s = turns_some (inputs_of nodes - least_of nodes t) in omega arith

module _ (nodes : List Node) (ok : IsDiagram nodes) where
  -- the cofactors read fewer inputs
  cofactor_falls : (t : Triple) (level : ℕ) (side : Bool) → AreEdges nodes t → AreFrom nodes level t
      → level < inputs_of nodes → turns_of (inputs_of nodes - least_of nodes (cofactors nodes t level side)) ≤ turns_of
      (inputs_of nodes - suc level)
  cofactor_falls t level side edges from some =
      let f = (is_cofactor nodes ok t.first level side edges.first some from.first).level in
      let s = (is_cofactor nodes ok t.second level side edges.second some from.second).level in
      let h = (is_cofactor nodes ok t.third level side edges.third some from.third).level in
      turns_le (inputs_of nodes - least_of nodes (cofactors nodes t level side))
      (inputs_of nodes - suc level) (omega arith)

  pub falls_low : (stack more : List Frame) (t cofactor : Triple) (level : ℕ) → AreEdges nodes t
      → level ≡ least_of nodes t → level < inputs_of nodes
      → more ≡ stack ++ record { operands = t; level = level; low = None } ∷ []
      → cofactor ≡ cofactors nodes t level false
      → turns_left nodes more (Make cofactor) < turns_left nodes stack (Make t)
  falls_low stack more t cofactor level edges least some is same =
      let from : AreFrom nodes level t = record { first = omega arith; second = omega arith; third = omega arith } in
      let a = cofactor_falls t level false edges from some in
      let frame : Frame = record { operands = t; level = level; low = None } in
      let push : frames_turns (inputs_of nodes) (stack ++ frame ∷ []) ≡ frames_turns
      (inputs_of nodes) stack + (turns_of (inputs_of nodes - suc level) + 2) = frames_push
      (inputs_of nodes) stack frame in
      let whole : turns_of (inputs_of nodes - least_of nodes t) ≡ turns_of (inputs_of nodes - suc level) + turns_of
      (inputs_of nodes - suc level) + 3
      = ap turns_of (let z : inputs_of nodes - least_of nodes t ≡ suc (inputs_of nodes - suc level) = omega arith in z)
      ∙ turns_suc (inputs_of nodes - suc level) in
      rw (is, same) (omega arith)

  pub falls_high : (stack more : List Frame) (frame : Frame) (cofactor : Triple) (edge : Edge) → frame.low ≡ None
      → more ≡ stack ++ record { operands = frame.operands; level = frame.level; low = Some edge } ∷ []
      → cofactor ≡ cofactors nodes frame.operands frame.level true → Joins nodes frame edge
      → turns_left nodes more (Make cofactor) < turns_left nodes (stack ++ frame ∷ []) (Made edge)
  falls_high stack more frame cofactor edge none is same joins =
      let n = inputs_of nodes in
      let a = cofactor_falls frame.operands frame.level true joins.is.operands joins.is.from joins.is.input in
      let after : Frame = record { operands = frame.operands; level = frame.level; low = Some edge } in
      let push : frames_turns n (stack ++ after ∷ []) ≡ frames_turns n stack + 1 = frames_push n stack after in
      let before : frames_turns n (stack ++ frame ∷ []) ≡ frames_turns n stack + (turns_of (n - suc frame.level) + 2) =
      frames_push n stack frame
      ∙ ap (λ (o : Option Edge). frames_turns n stack + cofactor_turns o (n - suc frame.level)) none in
      rw (is, same) (omega arith)

pub falls_joined : (old new : List Node) → IsDiagram old → IsDiagram new → Grows old new
    → (stack : List Frame) (frame : Frame) (low edge joined : Edge) → frame.low ≡ Some low
    → turns_left new stack (Made joined) < turns_left old (stack ++ frame ∷ []) (Made edge)
falls_joined old new ok ok' grows stack frame low edge joined some =
    let same : frames_turns (inputs_of new) stack ≡ frames_turns (inputs_of old) stack = ap (λ n. frames_turns n stack)
    (inputs_same old new ok ok' grows) in
    let before : frames_turns (inputs_of old) (stack ++ frame ∷ []) ≡ frames_turns (inputs_of old) stack + 1 =
    frames_push (inputs_of old) stack frame
    ∙ ap (λ (o : Option Edge). frames_turns (inputs_of old) stack + cofactor_turns o
    (inputs_of old - suc frame.level)) some in
    omega arith

-- the turns that are left are those of the values that the variables have
pub falls_moved : (new : List Node) (more more' : List Frame) (next next' : Turn) (old new' : List Node)
    (stack stack' : List Frame) (turn turn' : Turn)
    → new' ≡ new → more' ≡ more → next' ≡ next → stack' ≡ stack → turn' ≡ turn
    → turns_left new more next < turns_left old stack turn
    → turns_left new' more' next' < turns_left old stack' turn'
falls_moved new more more' next next' old new' stack stack' turn turn' a b c d e less = rw (a, b, c, d, e) less
