use Rattle.std.proofs.Common.{◌∙◌, ap, map}
use Rattle.std.specs.List.{flat_map}
use Rattle.indexmap.proofs.MapLemmas.{OnOk-map}
use Rattle.blif_read.specs.Models.{named}
use Rattle.blif_flat.specs.Designs.{actuals, output_ports}
use Rattle.blif_flat.specs.Code.Joining.{drive_all, driving}
use Rattle.blif_flat.proofs.DrivenLines.{driven_joined}
use Rattle.blif_flat.proofs.faults.drivers.Drivers.drive_model.Goals as goal

pub returns : goal.returns
returns c =
    let inputs = driving c.drive_inputs.new.self in
    let defs = driving c.drive_defs.new.self in
    OnOk-map c.drive_calls.result _ _
    (λ calls. driven_joined (driving c.args.self.now) inputs defs (driving c.drive_calls.new.self)
    c.args.model.now.inputs (map (λ d. named d.line d.output) c.args.model.now.defs)
    (flat_map (λ x. actuals x.line (output_ports c.args.design.now x)) c.args.model.now.calls)
    (c.in_ok-drive_inputs.ensures ∙ ap (drive_all (driving c.args.self.now)) c.as_slice.ensures)
    (c.in_ok-drive_defs.ensures
    ∙ ap (λ xs. drive_all inputs (map (λ d. named d.line d.output) xs)) c.as_slice-2.ensures)
    (calls ∙ ap (λ xs. drive_all defs
    (flat_map (λ x. actuals x.line (output_ports c.args.design.now x)) xs)) c.as_slice-3.ensures))
    c.drive_calls.ensures
