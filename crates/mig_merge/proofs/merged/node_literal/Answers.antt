use Rattle.mig_replace.proofs.Carrying.{if_node}
use Rattle.mig_merge.proofs.merged.node_literal.Goals as goal

pub returns-clause-shown : goal.returns-clause-shown
returns-clause-shown c =
    if_node c.args.graph.now c.args.merging.now c.args.found.now c.requires.carries c.known.ensures c.args.number
    c.node-node.result c.node-node.ensures c.requires.before
    _ _ _ c.carried-x.ensures c.carried-y.ensures c.carried-z.ensures
    c.maj.result _ c.maj.ensures.grown c.maj.ensures.given
