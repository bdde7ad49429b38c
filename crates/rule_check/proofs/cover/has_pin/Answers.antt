use Rattle.std.proofs.Common.{sym, ◌∙◌}
use Rattle.rule_check.specs.Code.Cover.{is_at_pin_of}
use Rattle.rule_check.proofs.Geometry.{none_more, any_at_here, any_at_none, got_through}
use Rattle.rule_check.proofs.cover.has_pin.Goals as goal

pub returns-then-is_at_pin_of : goal.returns-then-is_at_pin_of
returns-then-is_at_pin_of c =
    sym (any_at_here (is_at_pin_of c.args.metal.now c.args.frame.now) c.args.kinds.now c.args.numbers.now
    c.loop-number.number-index 0 c.loop-number-test.true
    (got_through (is_at_pin_of c.args.metal.now c.args.frame.now) c.args.kinds.now _
    c.get.result.now _ c.get.ensures
    (sym c.is_at_pin_of.ensures ∙ c.if-is_at_pin_of.true)))

pub loop-number-preserved : goal.loop-number-preserved
loop-number-preserved c =
    none_more (is_at_pin_of c.args.metal.now c.args.frame.now) c.args.kinds.now c.args.numbers.now
    c.loop-number.number-index c.loop-number.invariant
    (got_through (is_at_pin_of c.args.metal.now c.args.frame.now) c.args.kinds.now _
    c.get.result.now _ c.get.ensures
    (sym c.is_at_pin_of.ensures ∙ c.if-is_at_pin_of.false))

pub returns : goal.returns
returns c = sym (any_at_none (is_at_pin_of c.args.metal.now c.args.frame.now) c.args.kinds.now c.args.numbers.now
    c.loop-number.number-index c.loop-number-test.false c.loop-number.invariant)
