use Rattle.std.proofs.Common.{◌≤◌, get_or, sym, ◌∙◌, arith}
use Rattle.std.proofs.lemmas.Bool.{both_ways}
use Rattle.geom.proofs.Filing.{read_at}
use Rattle.layout_rules.proofs.NetLaws.{Joined-self}
use Rattle.rule_check.specs.Code.Seen.{limits_seen}
use Rattle.rule_check.proofs.Lengthy.{first_long_is, none_long, short_more}
use Rattle.rule_check.proofs.lengths.first_long.Goals as goal
use Rattle.rule_check.proofs.lengths.first_long.Goals.{else-is_metal-via-then-is_metal+else-lengths-nets}
use Rattle.rule_check.proofs.lengths.first_long.Goals.{else-is_metal-via-else-is_metal}

pub bounds-lengths-nets : goal.bounds-lengths-nets
bounds-lengths-nets c = (let le : get_or c.args.nets.now c.loop-n.n 0 ≤ c.loop-n.n =
    c.requires.nets.least c.loop-n.n c.loop-n.n c.loop-n-test.true (Joined-self c.args.shapes.now c.loop-n.n) in
    omega (arith, c.requires.each))

pub returns-then-lengths-nets : goal.returns-then-lengths-nets
returns-then-lengths-nets c = first_long_is (limits_seen c.args.limits.now) c.args.shapes.now c.args.nets.now
    c.args.lengths.now c.requires.nets c.requires.lengths c.requires.each c.requires.limit c.loop-n.n
    c.index-shapes-n.result c.loop-n.invariant (read_at _ _ _ c.loop-n-test.true c.index-shapes-n.is)
    (sym c.is_metal.ensures ∙ c.if-is_metal.true) c.if-lengths-nets.true

pub loop-n-preserved : goal.loop-n-preserved
loop-n-preserved c = short_more c.args.shapes.now c.args.nets.now c.args.lengths.now c.args.limits.now.limit c.loop-n.n
    c.index-shapes-n.result c.loop-n.invariant (read_at _ _ _ c.loop-n-test.true c.index-shapes-n.is)
    (elim c.else-is_metal.branch [
      | else-is_metal-via-then-is_metal+else-lengths-nets w ↦ λ metal. w.if-lengths-nets.false
      | else-is_metal-via-else-is_metal w ↦
          λ metal. absurd (both_ways c.is_metal.result w.if-is_metal.false (c.is_metal.ensures ∙ metal))
    ])

pub returns : goal.returns
returns c = none_long (limits_seen c.args.limits.now) c.args.shapes.now c.args.nets.now c.args.lengths.now
    c.requires.nets c.requires.lengths c.requires.each c.requires.limit c.loop-n.n c.loop-n-test.false
    c.loop-n.invariant
