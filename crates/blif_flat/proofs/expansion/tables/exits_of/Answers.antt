use Rattle.std.proofs.Common.{◌<◌, ◌∙◌, ap, [], length, arith}
use Rattle.blif_flat.specs.Code.Blocks.{place_in}
use Rattle.blif_flat.proofs.Assembling.{pushed_first}
use Rattle.blif_flat.proofs.expansion.tables.exits_of.Goals as goal

pub loop-number-preserved : goal.loop-number-preserved
loop-number-preserved c =
    let lt : c.loop-number.number < length c.args.names.now =
    omega (arith, c.len-number-end.ensures.count, c.loop-number-test.true) in
    pushed_first (place_in c.args.places.now) c.args.names.now c.loop-number.number [] _ _
    c.place-place.result lt c.loop-number.invariant c.in_ok-push.ensures.items
    (c.place-place.ensures ∙ ap (place_in c.args.places.now) c.at.ensures)
