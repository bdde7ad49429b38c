use Rattle.std.proofs.Common.{◌≡◌, false, sym, ◌∙◌, rules}
use Rattle.placement_check.proofs.SoundWide.{wide_test, wide_net, wide_placed, is_wider, wide_answers}
use Rattle.placement_check.proofs.wider.check_wider.Goals as goal

pub returns-then-not-branch-clause-accepts : goal.returns-then-not-branch-clause-accepts
returns-then-not-branch-clause-accepts c = λ known.
    let d = c.args.draft in
    let no : c.in_ok-is_wide.field-0 ≡ false = search rules in
    sym no ∙ wide_test c.args.net.now d.rows d.slots d.became d.places d.marks c.in_ok-is_wide.field-0
    c.in_ok-is_wide.ensures known

pub invariant_of-result : goal.invariant_of-result
invariant_of-result c =
    let d = c.args.draft in
    let i : c.net.inside.inputs ≡ c.args.net.now.inputs = search rules in
    let o : c.net.inside.outputs ≡ c.args.net.now.outputs = search rules in
    wide_net c.args.net.now d.rows d.slots d.became d.places d.marks c.in_ok-is_wide.field-0 c.in_ok-is_wide.ensures
    c.if-not-branch.false c.net.inside.inputs c.net.inside.outputs i o

pub invariant_of-result-2 : goal.invariant_of-result-2
invariant_of-result-2 c =
    let d = c.args.draft in
    let i : c.net.inside.inputs ≡ c.args.net.now.inputs = search rules in
    let o : c.net.inside.outputs ≡ c.args.net.now.outputs = search rules in
    wide_placed c.args.net.now d.rows d.slots d.became d.places d.marks c.in_ok-is_wide.field-0 c.in_ok-is_wide.ensures
    c.if-not-branch.false c.net.inside.inputs c.net.inside.outputs i o

pub returns-clause-net : goal.returns-clause-net
returns-clause-net c =
    let d = c.args.draft in
    let i : c.net.inside.inputs ≡ c.args.net.now.inputs = search rules in
    let o : c.net.inside.outputs ≡ c.args.net.now.outputs = search rules in
    wide_placed c.args.net.now d.rows d.slots d.became d.places d.marks c.in_ok-is_wide.field-0 c.in_ok-is_wide.ensures
    c.if-not-branch.false c.net.inside.inputs c.net.inside.outputs i o

pub returns-clause-wider : goal.returns-clause-wider
returns-clause-wider c =
    let d = c.args.draft in
    let i : c.net.inside.inputs ≡ c.args.net.now.inputs = search rules in
    let o : c.net.inside.outputs ≡ c.args.net.now.outputs = search rules in
    is_wider c.args.net.now d.rows d.slots d.became d.places d.marks c.in_ok-is_wide.field-0 c.in_ok-is_wide.ensures
    c.if-not-branch.false c.net.inside.inputs c.net.inside.outputs i o

pub returns-clause-same : goal.returns-clause-same
returns-clause-same c =
    let d = c.args.draft in
    let i : c.net.inside.inputs ≡ c.args.net.now.inputs = search rules in
    let o : c.net.inside.outputs ≡ c.args.net.now.outputs = search rules in
    wide_answers c.args.net.now d.rows d.slots d.became d.places d.marks c.in_ok-is_wide.field-0 c.in_ok-is_wide.ensures
    c.if-not-branch.false c.net.inside.inputs c.net.inside.outputs i o c.known.ensures
