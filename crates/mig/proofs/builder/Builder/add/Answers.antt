use Rattle.std.proofs.Common.{rules}
use Rattle.mig.proofs.Built.{seen_found, seen_builder, seen_grown, seen_last}
use Rattle.mig.proofs.builder.Builder.add.Goals as goal

pub returns-in-Some-clause-given : goal.returns-in-Some-clause-given
returns-in-Some-clause-given c =
    seen_found _ c.self.inside.inputs c.self.inside.nodes.items c.in-Some.number c.as_slice.result.now c.args.node
    c.self.view_is c.as_slice.ensures.value c.in-Some.ensures

pub invariant_of-self-in_err-take_last : goal.invariant_of-self-in_err-take_last
invariant_of-self-in_err-take_last c =
    seen_builder _ c.self.inside.inputs c.self.inside.nodes.items _ c.args.node c.self.view_is
    c.in_ok-push-2.ensures.items (search rules) c.requires c.self.invariant.are_nodes

pub returns-in_err-take_last-clause-grown : goal.returns-in_err-take_last-clause-grown
returns-in_err-take_last-clause-grown c =
    seen_grown _ c.self.inside.inputs c.self.inside.nodes.items _ c.args.node c.self.view_is
    c.in_ok-push-2.ensures.items

pub invariant_of-self-2 : goal.invariant_of-self-2
invariant_of-self-2 c =
    seen_builder _ c.self.inside.inputs c.self.inside.nodes.items _ c.args.node c.self.view_is
    c.in_ok-push-2.ensures.items (search rules) c.requires c.self.invariant.are_nodes

pub returns-clause-grown : goal.returns-clause-grown
returns-clause-grown c =
    seen_grown _ c.self.inside.inputs c.self.inside.nodes.items _ c.args.node c.self.view_is
    c.in_ok-push-2.ensures.items

pub returns-clause-given : goal.returns-clause-given
returns-clause-given c =
    seen_last c.self.inside.inputs c.len-count.result c.self.inside.nodes.items _ c.args.node
    (search rules) c.in_ok-push-2.ensures.items
