use Rattle.mig_replace.proofs.Carrying.{carries_later}
use Rattle.mig_replace.proofs.replaced.node_literal.Goals as goal

pub plain-requires-clause-carries : goal.plain-requires-clause-carries
plain-requires-clause-carries c =
    carries_later c.args.graph.now c.args.builder.now _ c.args.found.now c.if_replaced.ensures.grown c.requires.carries
