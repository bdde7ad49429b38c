use Rattle.std.proofs.Common.{◌≡◌, ◌<◌, ◌∙◌, length, ap, arith}
use Rattle.std.specs.Prelude.{slice_index}
use Rattle.std.proofs.lemmas.Grind.{get_or_default_zero}
use Rattle.shape_extract.proofs.Members.{members_more, members_all}
use Rattle.shape_extract.proofs.filed_shapes.list_members.Goals as goal

pub loop-at-preserved : goal.loop-at-preserved
loop-at-preserved c =
    let lt : c.loop-at.at < length c.args.found.now.items = omega arith in
    let within : c.loop-at.at < length c.loop-at.found.items = omega (arith, c.loop-at.invariant.longer) in
    let kind_is : c.index.result.now ≡ slice_index c.args.found.now.items c.loop-at.at =
    c.index.ensures ∙ (get_or_default_zero _ _ _ within
    ∙ c.loop-at.invariant.rest c.loop-at.at (omega arith) lt) in
    members_more c.loop-at.at c.args.numbers.now c.args.places.now c.args.found.now.items c.loop-at.found.items
    c.list_rest.new.found.items c.requires.firsts c.requires.kinds c.loop-at.invariant lt
    (slice_index c.args.numbers.now c.index.result.now) (ap (slice_index c.args.numbers.now) kind_is)
    c.in_ok-list_rest.ensures

pub returns : goal.returns
returns c = members_all c.args.numbers.now c.args.places.now c.args.found.now.items c.loop-at.found.items
    c.requires.firsts c.requires.kinds c.loop-at.at (omega arith) c.loop-at.invariant
