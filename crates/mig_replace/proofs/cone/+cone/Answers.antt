use Rattle.std.proofs.Common.{arith, refl}
use Rattle.std.proofs.lemmas.Option.{slice_get_within}
use Rattle.mig_replace.proofs.Computing.{none_computes, leaf_computes, node_computes}
use Rattle.mig_replace.proofs.cone.+cone.Goals as goal

pub returns-then-node-eq0 : goal.returns-then-node-eq0
returns-then-node-eq0 t c = none_computes c.args.graph.now c.args.leaves.now c.args.node c.if-node-eq0.true

pub leaf_table-requires-clause-here : goal.leaf_table-requires-clause-here
leaf_table-requires-clause-here t c = slice_get_within c.args.leaves.now c.in-Some.place c.args.node c.in-Some.ensures

pub returns-in-Some : goal.returns-in-Some
returns-in-Some t c =
    leaf_computes c.args.graph.now c.args.leaves.now c.in-Some.place c.args.node _ c.requires c.in-Some.ensures
    c.leaf_table.ensures

pub returns : goal.returns
returns t c =
    node_computes c.args.graph.now c.args.leaves.now c.args.node _ _ c.node-operands.result _ _ _ _ _ _
    c.majority_table.result c.requires
    (let e = c.inputs-first.ensures in omega arith) c.if-node-first.false refl c.node-operands.ensures
    c.in-Some-cone.ensures c.in-Some-cone-2.ensures c.in-Some-cone-3.ensures
    c.signed.ensures c.signed-2.ensures c.signed-3.ensures c.majority_table.ensures
