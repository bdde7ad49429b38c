use Rattle.layout_rules.specs.GeometryRules.{EnclosureBroken}
use Rattle.rule_check.specs.Code.Seen.{limits_seen}
use Rattle.shape_extract.specs.Distinct.{kinds_at}
use Rattle.rule_check.proofs.Represented.{finds_named, places_of, enclosure_represents}
use Rattle.rule_check.proofs.enclosure.find_bare.Goals as goal

pub among-kinds-requires : goal.among-kinds-requires
among-kinds-requires c = c.requires.distinct.within

pub named-requires : goal.named-requires
named-requires c =
    rw c.as_slice.ensures.value
    (places_of c.args.sheet.now.kinds.numbers.items (EnclosureBroken (limits_seen c.args.limits.now) c.args.shapes.now)
    (EnclosureBroken (limits_seen c.args.limits.now) (kinds_at c.args.shapes.now c.args.sheet.now.kinds.numbers.items))
    c.in_ok-found.found
    (enclosure_represents c.args.shapes.now c.args.sheet.now.kinds.numbers.items
    (kinds_at c.args.shapes.now c.args.sheet.now.kinds.numbers.items) c.requires.distinct
    (limits_seen c.args.limits.now)) (rw c.among-kinds.ensures at c.in_ok-found.ensures))

pub returns : goal.returns
returns c =
    rw (c.named.ensures, c.as_slice.ensures.value)
    (finds_named c.args.sheet.now.kinds.numbers.items
    (EnclosureBroken (limits_seen c.args.limits.now) c.args.shapes.now)
    (EnclosureBroken (limits_seen c.args.limits.now) (kinds_at c.args.shapes.now c.args.sheet.now.kinds.numbers.items))
    c.in_ok-found.found
    c.requires.distinct.rising
    (enclosure_represents c.args.shapes.now c.args.sheet.now.kinds.numbers.items
    (kinds_at c.args.shapes.now c.args.sheet.now.kinds.numbers.items) c.requires.distinct
    (limits_seen c.args.limits.now)) (rw c.among-kinds.ensures at c.in_ok-found.ensures))
