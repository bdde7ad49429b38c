-- Graphs that are added to others of the same netlist.
use Rattle.std.specs.Prelude.{◌≡◌, ℕ, zero, suc, List, [], ◌∷◌, ◌++◌, length, Some, slice_get}
use Rattle.std.proofs.Common.{sym, ap, ◌∙◌, subst}
use Rattle.blif_read.specs.Parts.{NetView}
use Rattle.mig.specs.Graphs.{GraphView}
use Rattle.mig.specs.Passes.{IsRebuilt}
use Rattle.mig_from_netlist.specs.Passes.{IsGraphOf}
use Rattle.mig_from_netlist.proofs.Signals.{graph_then}
use Rattle.plan_compact.specs.Variants.{AreGraphsOf}

-- no graphs
pub no_graphs : (net : NetView) → AreGraphsOf net []
no_graphs net = record { each = λ k graph is. absurd (cc) }

-- one graph more
pub one_more : (net : NetView) (graphs more : List GraphView) (last : GraphView) → more ≡ graphs ++ last ∷ []
    → AreGraphsOf net graphs → IsGraphOf net last → AreGraphsOf net more
one_more net graphs more last is are new = record {
  each = λ k graph at. go graphs k graph are.each (ap (λ gs. slice_get gs k) (sym is) ∙ at);
}
  where
    go : (gs : List GraphView) (k : ℕ) (graph : GraphView)
        → ((j : ℕ) (g : GraphView) → slice_get gs j ≡ Some g → IsGraphOf net g)
        → slice_get (gs ++ last ∷ []) k ≡ Some graph → IsGraphOf net graph
    go [] zero graph each at = (let e : last ≡ graph = cc in subst (IsGraphOf net) e new)
    go [] (suc k) graph each at = absurd (cc)
    go (g ∷ gs) zero graph each at = each 0 graph at
    go (g ∷ gs) (suc k) graph each at = go gs k graph (λ j. each (suc j)) at

-- a list without graphs
pub none_yet : (net : NetView) (graphs : List GraphView) → graphs ≡ [] → AreGraphsOf net graphs
none_yet net graphs is = subst (AreGraphsOf net) (sym is) (no_graphs net)

-- what is made of one of the graphs
pub made_of : (net : NetView) (graphs : List GraphView) (k : ℕ) (last made : GraphView) → AreGraphsOf net graphs
    → Some last ≡ slice_get graphs k → IsRebuilt last made → IsGraphOf net made
made_of net graphs k last made are at rebuilt = graph_then net last made (are.each k last (sym at)) rebuilt

-- one of the graphs
pub one_of : (net : NetView) (graphs : List GraphView) (k : ℕ) (graph : GraphView) → AreGraphsOf net graphs
    → Some graph ≡ slice_get graphs k → IsGraphOf net graph
one_of net graphs k graph are at = are.each k graph (sym at)

pub ruleset chained = (none_yet, one_more, made_of, graph_then)
