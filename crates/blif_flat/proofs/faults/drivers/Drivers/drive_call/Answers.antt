use Rattle.std.proofs.Common.{◌∙◌, ap, sym}
use Rattle.std.specs.Prelude.{is_some}
use Rattle.blif_flat.specs.Designs.{actuals}
use Rattle.blif_flat.specs.Code.Joining.{drive_all, driving}
use Rattle.blif_flat.proofs.Ported.{no_outputs}
use Rattle.blif_flat.proofs.faults.drivers.Drivers.drive_call.Goals as goal

pub returns-in_default : goal.returns-in_default
returns-in_default c = ap (λ ps. drive_all (driving c.args.self.now) (actuals c.args.call.now.line ps))
    (sym (no_outputs c.args.design.now c.args.call.now (ap is_some (sym c.in_default.is) ∙ c.called.ensures.found)))
