use Rattle.std.proofs.Common.{List, sym, subst, ap, ◌∙◌, length}
use Rattle.mig.specs.declared.node.Node.{Node}
use Rattle.mig.specs.Graphs.{GraphView, AreNodes}
use Rattle.mig.proofs.Valued.{shown_answers}
use Rattle.mig.proofs.graph.GraphAnswers.answer.Goals as goal

pub node_values-requires : goal.node_values-requires
node_values-requires c =
    subst (λ n. AreNodes n c.as_slice.result.now)
    (sym (ap length c.as_slice-2.ensures ∙ c.requires ∙ sym (ap (λ (g : GraphView). g.inputs) c.self.view_is)))
    (subst (λ (ns : List Node). AreNodes c.self.inside.inputs ns)
    (sym c.as_slice.ensures.value) c.self.invariant.are_nodes)

pub returns : goal.returns
returns c =
    shown_answers c.shown.result _ _ _ _ _ _ _ _ c.self.view_is c.as_slice.ensures.value c.as_slice-3.ensures.value
    c.as_slice-2.ensures
    c.deref.ensures.value c.requires c.in_ok-values.ensures c.shown.ensures
