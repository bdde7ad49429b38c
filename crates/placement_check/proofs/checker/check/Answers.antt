use Rattle.std.proofs.Common.{◌≡◌, false, sym, ◌∙◌, rules}
use Rattle.placement_check.proofs.Sound.{sound_test, sound_net, sound_placed, sound_answers}
use Rattle.placement_check.proofs.checker.check.Goals as goal

pub returns-then-not-branch-clause-accepts : goal.returns-then-not-branch-clause-accepts
returns-then-not-branch-clause-accepts c = λ known.
    let d = c.args.draft in
    let no : c.in_ok-is_sound.field-0 ≡ false = search rules in
    sym no ∙ sound_test c.args.graph.now d.rows d.labels d.slots c.in_ok-is_sound.field-0 c.in_ok-is_sound.ensures known

pub invariant_of-result : goal.invariant_of-result
invariant_of-result c =
    let d = c.args.draft in
    sound_net c.args.graph.now d.rows d.labels d.slots c.in_ok-is_sound.field-0 c.in_ok-is_sound.ensures
    c.if-not-branch.false
    c.input_count.result c.output_count.result c.input_count.ensures.count c.output_count.ensures

pub invariant_of-result-2 : goal.invariant_of-result-2
invariant_of-result-2 c =
    let d = c.args.draft in
    sound_placed c.args.graph.now d.rows d.labels d.slots c.in_ok-is_sound.field-0 c.in_ok-is_sound.ensures
    c.if-not-branch.false
    c.input_count.result c.output_count.result c.input_count.ensures.count c.output_count.ensures

pub returns-clause-net : goal.returns-clause-net
returns-clause-net c =
    let d = c.args.draft in
    sound_placed c.args.graph.now d.rows d.labels d.slots c.in_ok-is_sound.field-0 c.in_ok-is_sound.ensures
    c.if-not-branch.false
    c.input_count.result c.output_count.result c.input_count.ensures.count c.output_count.ensures

pub returns-clause-same : goal.returns-clause-same
returns-clause-same c =
    let d = c.args.draft in
    sound_answers c.args.graph.now d.rows d.labels d.slots c.in_ok-is_sound.field-0 c.in_ok-is_sound.ensures
    c.if-not-branch.false
    c.input_count.result c.output_count.result c.input_count.ensures.count c.output_count.ensures
    c.input_count.ensures.once
