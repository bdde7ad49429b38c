use Rattle.std.proofs.Common.{◌∙◌, ap, None}
use Rattle.blif_flat.specs.declared.expansion.pieces.Piece.TheVariants.{Own}
use Rattle.blif_flat.specs.Code.Blocks.{place_in, buffer_of}
use Rattle.blif_flat.specs.Code.Joins.{first_actual}
use Rattle.blif_flat.proofs.Assembling.{pushed}
use Rattle.blif_flat.proofs.expansion.assembly.push_entries.Goals as goal

pub loop-port-preserved : goal.loop-port-preserved
loop-port-preserved c =
    pushed (λ p. Own (buffer_of c.args.call.now.line (place_in c.args.places.now (first_actual c.args.call.now p))))
    c.args.ports.now c.loop-port.port-index None c.args.pieces.now c.loop-port.pieces _ (Own c.in_ok-def.def)
    c.loop-port-test.true c.loop-port.invariant c.in_ok-push.ensures.ok
    (ap (λ (d : _). Own d) (c.in_ok-def.ensures
    ∙ ap (buffer_of c.args.call.now.line) (c.place.ensures
    ∙ ap (place_in c.args.places.now) c.first_actual-actual.ensures)))
