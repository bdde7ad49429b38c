use Rattle.std.proofs.Common.{◌∙◌, ap}
use Rattle.std.specs.List.{flat_map}
use Rattle.blif_flat.specs.Designs.{used}
use Rattle.blif_flat.specs.Code.Joining.{least_of, call_faults, undefined_in, driving}
use Rattle.blif_flat.proofs.Ported.{model_joined}
use Rattle.blif_flat.proofs.faults.told.model_told.Goals as goal

pub returns : goal.returns
returns c =
    let end = driving c.drive_model.new.self in
    model_joined c.args.design.now c.args.model.now c.args.best c.in_ok-best.best c.uses_told.result
    c.new-drivers.result c.drive_model.new.self
    (c.in_ok-best.ensures ∙ ap (λ xs. least_of c.args.best
    (flat_map (call_faults c.args.design.now) xs)) c.as_slice.ensures)
    c.new-drivers.ensures c.in_ok-drive_model.ensures
    (c.uses_told.ensures ∙ ap (λ o. least_of o
    (undefined_in end.lines (used c.args.design.now c.args.model.now))) c.told.ensures)
