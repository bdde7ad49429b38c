use Rattle.std.proofs.Common.{sym, ◌∙◌}
use Rattle.geom.specs.declared.shapes.Shape.{Shape}
use Rattle.rule_check.specs.Code.Bands.{collide_across}
use Rattle.rule_check.proofs.Geometry.{none_more, any_at_here, any_at_none, read_through}
use Rattle.rule_check.proofs.frames.any_across.Goals as goal

pub returns-then-is_across : goal.returns-then-is_across
returns-then-is_across c =
    sym (any_at_here (λ (band : Shape). collide_across c.args.frame.now band.rect) c.args.bands.now c.args.numbers.now
    c.loop-number.number-index 0 c.loop-number-test.true
    (read_through (λ (band : Shape). collide_across c.args.frame.now band.rect) c.args.bands.now c.args.numbers.now
    c.loop-number.number-index c.index-bands-number.result _ c.loop-number-test.true
    (c.requires c.loop-number.number-index 0 c.loop-number-test.true) c.index-bands-number.is
    (sym c.is_across.ensures ∙ c.if-is_across.true)))

pub loop-number-preserved : goal.loop-number-preserved
loop-number-preserved c =
    none_more (λ (band : Shape). collide_across c.args.frame.now band.rect) c.args.bands.now c.args.numbers.now
    c.loop-number.number-index c.loop-number.invariant
    (read_through (λ (band : Shape). collide_across c.args.frame.now band.rect) c.args.bands.now c.args.numbers.now
    c.loop-number.number-index c.index-bands-number.result _ c.loop-number-test.true
    (c.requires c.loop-number.number-index 0 c.loop-number-test.true) c.index-bands-number.is
    (sym c.is_across.ensures ∙ c.if-is_across.false))

pub returns : goal.returns
returns c = sym (any_at_none (λ (band : Shape). collide_across c.args.frame.now band.rect) c.args.bands.now
    c.args.numbers.now c.loop-number.number-index c.loop-number-test.false c.loop-number.invariant)
