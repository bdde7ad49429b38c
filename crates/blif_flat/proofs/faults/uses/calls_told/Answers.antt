use Rattle.blif_flat.specs.Designs.{actuals, input_ports}
use Rattle.blif_flat.specs.Code.Numbering.{number_in}
use Rattle.blif_flat.proofs.Ported.{told_step}
use Rattle.blif_flat.proofs.faults.uses.calls_told.Goals as goal

pub loop-call-preserved : goal.loop-call-preserved
loop-call-preserved c = told_step (λ x. actuals x.line (input_ports c.args.design.now x))
    (number_in c.args.drivers.now.lines.entries) c.loop-call.best c.call_told-best.result _ c.args.calls.now
    c.loop-call.call-index c.call-item.result
    c.loop-call-test.true c.call-item.is c.call_told-best.ensures c.loop-call.invariant
