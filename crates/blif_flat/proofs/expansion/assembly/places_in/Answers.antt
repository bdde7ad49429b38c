use Rattle.std.proofs.Common.{◌∙◌, ap}
use Rattle.blif_flat.specs.Code.Blocks.{place_in}
use Rattle.blif_flat.proofs.Assembling.{pushed_first}
use Rattle.blif_flat.proofs.expansion.assembly.places_in.Goals as goal

pub loop-name-preserved : goal.loop-name-preserved
loop-name-preserved c =
    pushed_first (place_in c.args.places.now) c.args.names.now c.loop-name.name-index c.name-item.result _ _
    c.place-place.result c.loop-name-test.true c.loop-name.invariant c.in_ok-push.ensures.ok
    (c.place-place.ensures ∙ ap (place_in c.args.places.now) (c.as_slice.ensures ∙ c.name-item.is))
