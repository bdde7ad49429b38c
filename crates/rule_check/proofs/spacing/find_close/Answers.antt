use Rattle.layout_rules.specs.GeometryRules.{SpacingBroken}
use Rattle.rule_check.specs.Code.Seen.{limits_seen}
use Rattle.shape_extract.specs.Distinct.{kinds_at}
use Rattle.rule_check.proofs.Represented.{finds_named, places_of, spacing_represents, proper_own}
use Rattle.rule_check.proofs.spacing.find_close.Goals as goal

pub among-kinds-requires : goal.among-kinds-requires
among-kinds-requires c = c.requires.sheet.distinct.within

pub named-requires : goal.named-requires
named-requires c =
    rw c.as_slice.ensures.value
    (places_of c.args.sheet.now.kinds.numbers.items (SpacingBroken (limits_seen c.args.limits.now) c.args.shapes.now)
    (SpacingBroken (limits_seen c.args.limits.now) (kinds_at c.args.shapes.now c.args.sheet.now.kinds.numbers.items))
    c.in_ok-found.found
    (spacing_represents c.args.shapes.now c.args.sheet.now.kinds.numbers.items (kinds_at c.args.shapes.now
    c.args.sheet.now.kinds.numbers.items)
    c.requires.sheet.distinct (limits_seen c.args.limits.now)
    (proper_own (kinds_at c.args.shapes.now c.args.sheet.now.kinds.numbers.items) (rw c.among-kinds.ensures at
    c.known.ensures)))
    (rw c.among-kinds.ensures at c.in_ok-found.ensures))

pub returns : goal.returns
returns c =
    rw (c.named.ensures, c.as_slice.ensures.value)
    (finds_named c.args.sheet.now.kinds.numbers.items (SpacingBroken (limits_seen c.args.limits.now) c.args.shapes.now)
    (SpacingBroken (limits_seen c.args.limits.now) (kinds_at c.args.shapes.now c.args.sheet.now.kinds.numbers.items))
    c.in_ok-found.found
    c.requires.sheet.distinct.rising
    (spacing_represents c.args.shapes.now c.args.sheet.now.kinds.numbers.items (kinds_at c.args.shapes.now
    c.args.sheet.now.kinds.numbers.items)
    c.requires.sheet.distinct (limits_seen c.args.limits.now)
    (proper_own (kinds_at c.args.shapes.now c.args.sheet.now.kinds.numbers.items) (rw c.among-kinds.ensures at
    c.known.ensures)))
    (rw c.among-kinds.ensures at c.in_ok-found.ensures))
