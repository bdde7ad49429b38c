use Rattle.blif_flat.specs.Code.Joining.{call_faults}
use Rattle.blif_flat.proofs.Ported.{call_step}
use Rattle.blif_flat.proofs.faults.told.calls_told.Goals as goal

pub loop-call-preserved : goal.loop-call-preserved
loop-call-preserved c = call_step (call_faults c.args.design.now) c.loop-call.best c.in_ok-best.best _ c.args.calls.now
    c.loop-call.call-index c.call-item.result
    c.loop-call-test.true c.call-item.is c.in_ok-best.ensures c.loop-call.invariant
