use Rattle.std.proofs.Common.{arith}
use Rattle.std.specs.Prelude.{slice_index}
use Rattle.shape_extract.proofs.PartWays.{few_reached, none_below, way_more, ways_all}
use Rattle.shape_extract.proofs.lines.ways.write_ways.Goals as goal

pub loop-number-init : goal.loop-number-init
loop-number-init c = none_below _ _ _ _ c.requires.long c.requires.none

pub way_to-way-requires-clause-within : goal.way_to-way-requires-clause-within
way_to-way-requires-clause-within c = c.requires.walk.within c.loop-number.number-index c.loop-number-test.true

pub way_to-way-requires-clause-before : goal.way_to-way-requires-clause-before
way_to-way-requires-clause-before c = c.requires.walk.long

pub way_to-way-requires-clause-ways : goal.way_to-way-requires-clause-ways
way_to-way-requires-clause-ways c = c.loop-number.invariant.long

pub way_to-way-requires-clause-reached : goal.way_to-way-requires-clause-reached
way_to-way-requires-clause-reached c = c.requires.walk.reached c.loop-number.number-index c.loop-number-test.true

pub way_to-way-requires-clause-small : goal.way_to-way-requires-clause-small
way_to-way-requires-clause-small c = omega (
  arith,
  c.loop-number.invariant.small
      (slice_index c.args.before.now (slice_index c.args.order.now c.loop-number.number-index)),
  few_reached c.args.shapes.now c.args.before.now c.args.order.now c.requires.walk,
)

pub loop-number-preserved : goal.loop-number-preserved
loop-number-preserved c =
    way_more c.args.shapes.now c.args.before.now c.args.order.now c.requires.lines c.requires.cut_off
    c.requires.walk c.requires.walked
    (c.ways_add_up.ensures.first c.args.shapes.now) (c.ways_add_up.ensures.next c.args.shapes.now)
    c.loop-number.ways c.loop-number.number-index c.way_to-way.result c.loop-number.invariant
    c.loop-number-test.true c.way_to-way.ensures.is c.way_to-way.ensures.small

pub returns : goal.returns
returns c =
    ways_all c.args.shapes.now c.args.before.now c.args.order.now c.requires.lines c.requires.cut_off
    c.requires.walk c.requires.walked c.loop-number.ways c.loop-number.number-index c.loop-number.invariant
    c.loop-number-test.false
    (omega (arith, few_reached c.args.shapes.now c.args.before.now c.args.order.now c.requires.walk))
