use Rattle.std.proofs.Common.{sym, ◌∙◌}
use Rattle.rule_check.proofs.Geometry.{lower_group, via_group, upper_group}
use Rattle.rule_check.proofs.spacing.group_of.Goals as goal

pub returns-then-is_lower : goal.returns-then-is_lower
returns-then-is_lower c = λ t g. lower_group c.args.s.now t (sym c.is_lower.ensures ∙ c.if-is_lower.true) g

pub returns-then-is_via : goal.returns-then-is_via
returns-then-is_via c = λ t g. via_group c.args.s.now t (sym c.is_lower.ensures ∙ c.if-is_lower.false)
    (sym c.is_via.ensures ∙ c.if-is_via.true) g

pub returns-then-is_upper : goal.returns-then-is_upper
returns-then-is_upper c = λ t g. upper_group c.args.s.now t (sym c.is_lower.ensures ∙ c.if-is_lower.false)
    (sym c.is_via.ensures ∙ c.if-is_via.false) g
