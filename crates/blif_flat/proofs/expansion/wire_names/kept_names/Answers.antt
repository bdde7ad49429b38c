use Rattle.blif_flat.proofs.WireNames.{kept_more}
use Rattle.blif_flat.proofs.expansion.wire_names.kept_names.Goals as goal

pub loop-number-preserved : goal.loop-number-preserved
loop-number-preserved c = kept_more c.args.places.now c.loop-number.number c.narrow.result _
    c.loop-number.names c.push.new.self c.in_ok-name.name c.loop-number-test.true c.narrow.ensures
    c.in_ok-name.ensures c.in_ok-push.ensures.ok c.loop-number.invariant
