use Rattle.mig.proofs.Built.{seen_turn, seen_add}
use Rattle.mig.proofs.builder.Builder.maj.Goals as goal

pub returns-in_ok-literal-clause-given : goal.returns-in_ok-literal-clause-given
returns-in_ok-literal-clause-given c =
    seen_turn _ _ c.sorted-node.result c.turned_node.result c.in_ok-literal.literal c.turned.result
    c.sorted-node.ensures c.turned_node.ensures c.turned.ensures c.in_ok-literal.ensures.given

pub returns-else-is_turned-clause-given : goal.returns-else-is_turned-clause-given
returns-else-is_turned-clause-given c =
    seen_add c.add-else-is_turned.result _ _ c.sorted-node.result c.sorted-node.ensures
    c.add-else-is_turned.ensures.given
