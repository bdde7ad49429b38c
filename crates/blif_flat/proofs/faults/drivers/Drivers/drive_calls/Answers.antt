use Rattle.blif_flat.specs.Designs.{actuals, output_ports}
use Rattle.blif_flat.specs.Code.Joining.{driving}
use Rattle.blif_flat.proofs.DrivenLines.{driven_step}
use Rattle.blif_flat.proofs.faults.drivers.Drivers.drive_calls.Goals as goal

pub loop-call-preserved : goal.loop-call-preserved
loop-call-preserved c = driven_step (λ x. actuals x.line (output_ports c.args.design.now x)) (driving c.loop-call.self)
    (driving c.drive_call.new.self) _ c.args.calls.now c.loop-call.call-index c.call-item.result
    c.loop-call-test.true c.call-item.is c.in_ok-drive_call.ensures c.loop-call.invariant
