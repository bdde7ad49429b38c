use Rattle.std.proofs.Common.{rules}
use Rattle.mig.proofs.RebuiltGraphs.{three_below, if_node}
use Rattle.mig.proofs.rebuilt.node_literal.Goals as goal

pub shallow-requires : goal.shallow-requires
shallow-requires c =
    three_below _ c.known.ensures c.args.marks.now _ c.args.found.now c.requires.carried c.args.number
    c.node-node.result c.node-node.ensures c.requires.before c.requires.closed
    _ _ _ c.carried-x.ensures c.carried-y.ensures c.carried-z.ensures (search rules)

pub maj-requires : goal.maj-requires
maj-requires c =
    three_below _ c.known.ensures c.args.marks.now _ c.args.found.now c.requires.carried c.args.number
    c.node-node.result c.node-node.ensures c.requires.before c.requires.closed
    _ _ _ c.carried-x.ensures c.carried-y.ensures c.carried-z.ensures (search rules)

pub returns-then-is_critical-clause-shown : goal.returns-then-is_critical-clause-shown
returns-then-is_critical-clause-shown c =
    if_node _ c.known.ensures c.args.marks.now _ c.args.found.now c.requires.carried c.args.number c.node-node.result
    c.node-node.ensures c.requires.before c.requires.closed
    _ _ _ c.carried-x.ensures c.carried-y.ensures c.carried-z.ensures
    (search rules) c.shallow.result _ c.shallow.ensures.grown c.shallow.ensures.given

pub returns-else-is_critical-clause-shown : goal.returns-else-is_critical-clause-shown
returns-else-is_critical-clause-shown c =
    if_node _ c.known.ensures c.args.marks.now _ c.args.found.now c.requires.carried c.args.number c.node-node.result
    c.node-node.ensures c.requires.before c.requires.closed
    _ _ _ c.carried-x.ensures c.carried-y.ensures c.carried-z.ensures
    (search rules) c.maj.result _ c.maj.ensures.grown c.maj.ensures.given
