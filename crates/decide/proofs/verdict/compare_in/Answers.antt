use Rattle.std.proofs.Common.{length, refl, ◌∙◌}
use Rattle.circuit.specs.CellNets.{circuit}
use Rattle.decide.specs.Code.Orders.{arranged}
use Rattle.decide.proofs.Comparing.{outputs_inside, edge_read, same_least, all_alike, least_difference}
use Rattle.decide.proofs.Reordered.{read_again, reads_again, undone_order}
use Rattle.decide.proofs.verdict.compare_in.Goals as goal

pub new-requires-clause-first : goal.new-requires-clause-first
new-requires-clause-first c =
    reads_again (length c.args.order.now.rank.now) c.args.order.now.inputs.now c.args.order.now.rank.now
    (c.if-not-undoes.ensures refl) c.args.gates.now c.deref.result.now c.requires.first.gates_read
    (c.deref.ensures.value ∙ c.in_ok-again.ensures)

pub new-requires-clause-second : goal.new-requires-clause-second
new-requires-clause-second c =
    reads_again (length c.args.order.now.rank.now) c.args.order.now.inputs.now c.args.order.now.rank.now
    (c.if-not-undoes.ensures refl) c.args.other_gates.now c.deref-2.result.now c.requires.second.gates_read
    (c.deref-2.ensures.value ∙ c.in_ok-other.ensures)

pub first_difference-requires-clause-first : goal.first_difference-requires-clause-first
first_difference-requires-clause-first c =
    let values = read_again (length c.args.order.now.rank.now) c.args.order.now.inputs.now c.args.order.now.rank.now
    (c.if-not-undoes.ensures refl) c.in-Ok.both.diagram.table.nodes.keys c.in-Ok.both.first.items
    c.args.gates.now c.deref.result.now
    c.requires.first.gates_read (c.deref.ensures.value ∙ c.in_ok-again.ensures) c.in-Ok.ensures.first in
    outputs_inside (circuit (length c.args.order.now.rank.now) c.args.gates.now c.args.outputs.now) c.in-Ok.both.first.items
    c.requires.first values.size

pub first_difference-requires-clause-second : goal.first_difference-requires-clause-second
first_difference-requires-clause-second c =
    let values = read_again (length c.args.order.now.rank.now) c.args.order.now.inputs.now c.args.order.now.rank.now
    (c.if-not-undoes.ensures refl) c.in-Ok.both.diagram.table.nodes.keys c.in-Ok.both.second.items
    c.args.other_gates.now c.deref-2.result.now
    c.requires.second.gates_read (c.deref-2.ensures.value ∙ c.in_ok-other.ensures) c.in-Ok.ensures.second in
    outputs_inside (circuit (length c.args.order.now.rank.now) c.args.other_gates.now c.args.other_outputs.now)
    c.in-Ok.both.second.items c.requires.second values.size

pub returns-in-None : goal.returns-in-None
returns-in-None c =
    let n = length c.args.order.now.rank.now in
    let nodes = c.in-Ok.both.diagram.table.nodes.keys in
    let order = c.if-not-undoes.ensures refl in
    all_alike nodes (arranged c.args.order.now.inputs.now) (circuit n c.args.gates.now c.args.outputs.now)
    (circuit n c.args.other_gates.now c.args.other_outputs.now) c.requires.first c.requires.second
    c.in-Ok.both.first.items c.in-Ok.both.second.items
    (read_again n c.args.order.now.inputs.now c.args.order.now.rank.now order nodes c.in-Ok.both.first.items c.args.gates.now
    c.deref.result.now c.requires.first.gates_read (c.deref.ensures.value
    ∙ c.in_ok-again.ensures) c.in-Ok.ensures.first)
    (read_again n c.args.order.now.inputs.now c.args.order.now.rank.now order nodes c.in-Ok.both.second.items c.args.other_gates.now
    c.deref-2.result.now c.requires.second.gates_read (c.deref-2.ensures.value
    ∙ c.in_ok-other.ensures) c.in-Ok.ensures.second)
    c.requires.outputs refl c.in-None.ensures.none

pub returns-in-Ok-least_word_in : goal.returns-in-Ok-least_word_in
returns-in-Ok-least_word_in c =
    let n = length c.args.order.now.rank.now in
    let nodes = c.in-Ok.both.diagram.table.nodes.keys in
    let order = c.if-not-undoes.ensures refl in
    let first = c.in-Ok.both.first.items in
    let second = c.in-Ok.both.second.items in
    let found = c.in-Some.ensures.some in
    least_difference nodes (arranged c.args.order.now.inputs.now) (circuit n c.args.gates.now c.args.outputs.now)
    (circuit n c.args.other_gates.now c.args.other_outputs.now) c.requires.first c.requires.second first second
    (read_again n c.args.order.now.inputs.now c.args.order.now.rank.now order nodes first c.args.gates.now c.deref.result.now
    c.requires.first.gates_read (c.deref.ensures.value ∙ c.in_ok-again.ensures) c.in-Ok.ensures.first)
    (read_again n c.args.order.now.inputs.now c.args.order.now.rank.now order nodes second c.args.other_gates.now c.deref-2.result.now
    c.requires.second.gates_read (c.deref-2.ensures.value ∙ c.in_ok-other.ensures) c.in-Ok.ensures.second)
    c.requires.outputs c.in-Some.output c.in-Ok-least_word_in.word found.within found.before
    (same_least n nodes (arranged c.args.order.now.inputs.now) _ _ _ _ c.in-Ok-least_word_in.word
    (edge_read first _ c.args.outputs.now c.in-Some.output _ c.edge_of-left.ensures c.deref-in-Some.ensures.value)
    (edge_read second _ c.args.other_outputs.now c.in-Some.output _ c.edge_of-right.ensures
    c.deref-in-Some-2.ensures.value)
    (c.in-Ok-least_word_in.ensures c.args.order.now.inputs.now order
    (undone_order c.args.order.now.inputs.now c.args.order.now.rank.now order (c.if-not-undoes-2.ensures refl))))
