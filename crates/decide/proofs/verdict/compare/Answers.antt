use Rattle.std.proofs.Common.{refl}
use Rattle.circuit.specs.CellNets.{circuit}
use Rattle.decide.specs.Verdicts.{IsRefusal}
use Rattle.decide.proofs.Comparing.{err_is, outputs_inside, read_values, edge_read, same_least, all_alike}
use Rattle.decide.proofs.Comparing.{least_difference}
use Rattle.decide.proofs.verdict.compare.Goals as goal

pub returns-in_err-both-clause-refusal : goal.returns-in_err-both-clause-refusal
returns-in_err-both-clause-refusal c =
    err_is (IsRefusal (circuit c.args.inputs c.args.gates.now c.args.outputs.now)
    (circuit c.args.inputs c.args.other_gates.now c.args.other_outputs.now)) _ c.in_err-both.field-0.0
    c.from_residual.ensures.1 (c.in_err-both.ensures.refusal c.args.outputs.now c.args.other_outputs.now)

pub first_difference-requires-clause-first : goal.first_difference-requires-clause-first
first_difference-requires-clause-first c =
    outputs_inside (circuit c.args.inputs c.args.gates.now c.args.outputs.now) c.in_ok-both.both.first.items
    c.requires.first c.in_ok-both.ensures.first.size

pub first_difference-requires-clause-second : goal.first_difference-requires-clause-second
first_difference-requires-clause-second c =
    outputs_inside (circuit c.args.inputs c.args.other_gates.now c.args.other_outputs.now)
    c.in_ok-both.both.second.items c.requires.second c.in_ok-both.ensures.second.size

pub returns-in-None-clause-verdict : goal.returns-in-None-clause-verdict
returns-in-None-clause-verdict c =
    let nodes = c.in_ok-both.both.diagram.table.nodes.keys in
    all_alike nodes (λ x. x) (circuit c.args.inputs c.args.gates.now c.args.outputs.now)
    (circuit c.args.inputs c.args.other_gates.now c.args.other_outputs.now) c.requires.first c.requires.second
    c.in_ok-both.both.first.items c.in_ok-both.both.second.items
    (read_values nodes _ c.args.gates.now c.in_ok-both.ensures.first)
    (read_values nodes _ c.args.other_gates.now c.in_ok-both.ensures.second)
    c.requires.outputs refl c.in-None.ensures.none

pub returns-clause-verdict : goal.returns-clause-verdict
returns-clause-verdict c =
    let nodes = c.in_ok-both.both.diagram.table.nodes.keys in
    let first = c.in_ok-both.both.first.items in
    let second = c.in_ok-both.both.second.items in
    let found = c.in-Some.ensures.some in
    least_difference nodes (λ x. x) (circuit c.args.inputs c.args.gates.now c.args.outputs.now)
    (circuit c.args.inputs c.args.other_gates.now c.args.other_outputs.now) c.requires.first c.requires.second
    first second (read_values nodes _ c.args.gates.now c.in_ok-both.ensures.first)
    (read_values nodes _ c.args.other_gates.now c.in_ok-both.ensures.second)
    c.requires.outputs c.in-Some.output c.in_ok-word-in-Some.word found.within found.before
    (same_least c.args.inputs nodes (λ x. x) _ _ _ _ c.in_ok-word-in-Some.word
    (edge_read first _ c.args.outputs.now c.in-Some.output _ c.edge_of-left.ensures c.deref.ensures.value)
    (edge_read second _ c.args.other_outputs.now c.in-Some.output _ c.edge_of-right.ensures
    c.deref-in-Some.ensures.value)
    c.in_ok-word-in-Some.ensures)
