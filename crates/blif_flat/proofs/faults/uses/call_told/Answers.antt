use Rattle.std.proofs.Common.{◌∙◌, ap, sym}
use Rattle.std.specs.Prelude.{is_some}
use Rattle.blif_flat.specs.Designs.{actuals}
use Rattle.blif_flat.specs.Code.Numbering.{number_in}
use Rattle.blif_flat.specs.Code.Joining.{least_of, undefined_in}
use Rattle.blif_flat.proofs.Ported.{no_inputs}
use Rattle.blif_flat.proofs.faults.uses.call_told.Goals as goal

pub returns-in_default : goal.returns-in_default
returns-in_default c = ap (λ ps. least_of c.args.best
    (undefined_in (number_in c.args.drivers.now.lines.entries) (actuals c.args.call.now.line ps)))
    (sym (no_inputs c.args.design.now c.args.call.now (ap is_some (sym c.in_default.is) ∙ c.called.ensures.found)))
