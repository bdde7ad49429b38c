use Rattle.std.proofs.Common.{get_or}
use Rattle.std.proofs.lemmas.Option.{slice_get-get_or}
use Rattle.layout_rules.specs.GeometryRules.{are_too_close}
use Rattle.shape_extract.proofs.Members.{together_from}
use Rattle.rule_check.specs.Code.Seen.{limits_seen}
use Rattle.rule_check.proofs.Geometry.{first_above_of, no_group_none, group_too_close}
use Rattle.rule_check.proofs.spacing.SpacingPart.second.Goals as goal

pub list_passing-requires-clause-planar : goal.list_passing-requires-clause-planar
list_passing-requires-clause-planar c = λ s h. c.in-Some.ensures s
    (group_too_close c.args.self.now.limits.now.space
    c.get-first.result.now s h)

pub returns : goal.returns
returns c = first_above_of (are_too_close c.args.self.now.limits.now.space) c.args.self.now.kinds.now c.args.a _ _
    (rw c.as_slice.ensures.value (together_from (are_too_close c.args.self.now.limits.now.space)
    c.args.self.now.kinds.now c.args.a _ c.list_passing.new.found.items
    c.get-first.ensures
    c.in_ok-list_passing.ensures)) c.first_above-above.ensures

pub returns-in_default : goal.returns-in_default
returns-in_default c = no_group_none (limits_seen c.args.self.now.limits.now) c.args.self.now.kinds.now c.args.a _
    c.get-first.ensures c.in_default.ensures
