-- The loop that makes a majority: what holds at each turn.
use Rattle.std.proofs.Common.{◌≡◌, Bool, List, [], ◌∷◌, ◌++◌, reverse, refl, sym, ◌∙◌, subst, arith}
use Rattle.circuit.specs.PlainNets.{PlainView}
use Rattle.decide.specs.declared.edge.Edge.{Edge}
use Rattle.decide.specs.declared.edge.Triple.{Triple}
use Rattle.decide.specs.declared.edge.Node.{Node}
use Rattle.decide.specs.declared.majority.Frame.{Frame}
use Rattle.decide.specs.declared.majority.Turn.{Turn}
use Rattle.decide.specs.declared.majority.Turn.TheVariants.{Make, Made}
use Rattle.decide.specs.Code.Diagrams.{inputs_of, edge_value, majority_value, IsDiagram}
use Rattle.decide.specs.Code.Grown.{Grows, Represents}
use Rattle.decide.specs.Code.Named.{IsNamed, AreNamed}
use Rattle.decide.specs.Code.Majorities.{AreEdges, Awaits, Waits, Joins}
use Rattle.decide.proofs.Choosing.{grows_same, grows_then}
use Rattle.decide.proofs.Remembering.{inputs_same}
use Rattle.decide.proofs.Stacking.{pushed, named_awaited, majority_above}

pub record IsRun (start now : List Node) (stack : List Frame) (turn : Turn) (operands : Triple) : Type 0 where
  pub grows : Grows start now
  pub waits : Waits now stack turn (majority_value start operands)
  pub named : (a b : PlainView) → inputs_of start ≡ a.inputs → AreNamed a b start
      → IsNamed a b (majority_value start operands) → AreNamed a b now

pub run_begins : (nodes : List Node) (stack : List Frame) (operands : Triple) → AreEdges nodes operands → stack ≡ []
    → IsRun nodes nodes stack (Make operands) operands
run_begins nodes stack operands edges empty = record {
  grows = grows_same nodes;
  waits = record {
    bound = 0;
    fits = (edges, record { first = omega arith; second = omega arith; third = omega arith });
    awaits = subst (λ (fs : List Frame). Awaits nodes (reverse fs) 0 (majority_value nodes operands)
        (majority_value nodes operands)) (sym empty) (λ x. refl);
  };
  named = λ a b inputs named is. named;
}

module _ (start now : List Node) (stack : List Frame) (turn : Turn) (operands : Triple)
    (run : IsRun start now stack turn operands) where
  pub run_edges : (triple : Triple) → turn ≡ Make triple → AreEdges now triple
  run_edges triple is = (subst (λ t. Waits now stack t (majority_value start operands)) is run.waits).fits.0

  waits_made : (e : Edge) → turn ≡ Made e → Waits now stack (Made e) (majority_value start operands)
  waits_made e is = subst (λ t. Waits now stack t (majority_value start operands)) is run.waits

  -- the last edge
  pub run_ends : (e : Edge) → turn ≡ Made e → stack ≡ [] → Represents now 0 (majority_value start operands) e
  run_ends e is empty =
      let w = waits_made e is in
      record {
        inside = w.fits.0;
        from = omega arith;
        value = subst (λ (fs : List Frame). Awaits now (reverse fs) w.bound (λ x. edge_value now x e)
            (majority_value start operands)) empty w.awaits;
      }

  module _ (e : Edge) (is : turn ≡ Made e) (rest : List Frame) (frame : Frame)
      (popped : stack ≡ rest ++ frame ∷ []) where
    w : Waits now stack (Made e) (majority_value start operands)
    w = waits_made e is

    both : Awaits now (frame ∷ reverse rest) w.bound (λ x. edge_value now x e) (majority_value start operands)
    both = subst (λ (fs : List Frame). Awaits now fs w.bound (λ x. edge_value now x e) (majority_value start operands))
        (pushed rest stack frame popped) w.awaits

    -- the frame waits for the edge
    pub run_joins : Joins now frame e
    run_joins = record { bound = w.bound; fits = w.fits; is = both.0 }

    pub run_rest : Awaits now (reverse rest) frame.level (majority_value now frame.operands)
        (majority_value start operands)
    run_rest = both.1

    frame_named : IsDiagram start → IsDiagram now → (a b : PlainView) → inputs_of start ≡ a.inputs
        → IsNamed a b (majority_value start operands) → IsNamed a b (majority_value now frame.operands)
    frame_named ok ok' a b inputs named =
        named_awaited now ok' a b (inputs_same start now ok ok' run.grows ∙ inputs) (reverse rest) frame.level
        (majority_value now frame.operands) (majority_value start operands) run_rest
        (λ x y same. majority_above now ok' frame.operands frame.level x y both.0.operands both.0.from same) named

    pub run_named : (new : List Node) → IsDiagram start → IsDiagram now
        → ((a b : PlainView) → AreNamed a b now → IsNamed a b (majority_value now frame.operands) → AreNamed a b new)
        → (a b : PlainView) → inputs_of start ≡ a.inputs → AreNamed a b start
        → IsNamed a b (majority_value start operands) → AreNamed a b new
    run_named new ok ok' step a b inputs named last = step a b (run.named a b inputs named last)
        (frame_named ok ok' a b inputs last)

    pub run_given : (new : List Node) (after : List Frame) (next : Turn) → IsDiagram start
        → IsDiagram now → Grows now new
        → ((last : List Bool → Bool) → Awaits now (reverse rest) frame.level (majority_value now frame.operands) last
        → Waits new after next last)
        → ((a b : PlainView) → AreNamed a b now → IsNamed a b (majority_value now frame.operands) → AreNamed a b new)
        → IsRun start new after next operands
    run_given new after next ok ok' grows waits step = record {
      grows = grows_then start now new run.grows grows;
      waits = waits (majority_value start operands) run_rest;
      named = run_named new ok ok' step;
    }
