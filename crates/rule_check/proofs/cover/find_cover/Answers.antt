use Rattle.layout_rules.specs.GeometryRules.{CoverBroken}
use Rattle.shape_extract.specs.Distinct.{kinds_at}
use Rattle.rule_check.proofs.Represented.{finds_named, places_of, cover_represents}
use Rattle.rule_check.proofs.cover.find_cover.Goals as goal

pub among-kinds-requires : goal.among-kinds-requires
among-kinds-requires c = c.requires.distinct.within

pub named-requires : goal.named-requires
named-requires c =
    rw c.as_slice.ensures.value (places_of c.args.sheet.now.kinds.numbers.items (CoverBroken c.args.shapes.now)
    (CoverBroken (kinds_at c.args.shapes.now c.args.sheet.now.kinds.numbers.items)) c.in_ok-found.found
    (cover_represents c.args.shapes.now c.args.sheet.now.kinds.numbers.items
    (kinds_at c.args.shapes.now c.args.sheet.now.kinds.numbers.items) c.requires.distinct)
    (rw c.among-kinds.ensures at c.in_ok-found.ensures))

pub returns : goal.returns
returns c =
    rw (c.named.ensures, c.as_slice.ensures.value)
    (finds_named c.args.sheet.now.kinds.numbers.items (CoverBroken c.args.shapes.now)
    (CoverBroken (kinds_at c.args.shapes.now c.args.sheet.now.kinds.numbers.items)) c.in_ok-found.found
    c.requires.distinct.rising
    (cover_represents c.args.shapes.now c.args.sheet.now.kinds.numbers.items
    (kinds_at c.args.shapes.now c.args.sheet.now.kinds.numbers.items) c.requires.distinct)
    (rw c.among-kinds.ensures at c.in_ok-found.ensures))
