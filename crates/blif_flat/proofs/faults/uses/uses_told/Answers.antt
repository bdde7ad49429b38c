use Rattle.std.proofs.Common.{◌∙◌, ap, map}
use Rattle.std.specs.List.{flat_map}
use Rattle.blif_read.specs.Models.{named}
use Rattle.blif_flat.specs.Designs.{actuals, input_ports}
use Rattle.blif_flat.specs.Code.Numbering.{number_in}
use Rattle.blif_flat.specs.Code.Joining.{least_of, undefined_in}
use Rattle.blif_flat.proofs.Ported.{uses_joined}
use Rattle.blif_flat.proofs.faults.uses.uses_told.Goals as goal

pub returns : goal.returns
returns c =
    let lines = number_in c.args.drivers.now.lines.entries in
    uses_joined lines (flat_map (λ d. map (named d.line) d.inputs) c.args.model.now.defs)
    (flat_map (λ x. actuals x.line (input_ports c.args.design.now x)) c.args.model.now.calls)
    c.args.model.now.outputs
    c.args.best c.defs_told-best.result c.calls_told-best.result c.outputs_told.result
    (c.defs_told-best.ensures
    ∙ ap (λ xs. least_of c.args.best
    (undefined_in lines (flat_map (λ d. map (named d.line) d.inputs) xs))) c.as_slice.ensures)
    (c.calls_told-best.ensures
    ∙ ap (λ xs. least_of c.defs_told-best.result
    (undefined_in lines (flat_map (λ x. actuals x.line (input_ports c.args.design.now x)) xs)))
    c.as_slice-2.ensures)
    (c.outputs_told.ensures ∙ ap (λ xs. least_of c.calls_told-best.result (undefined_in lines xs)) c.as_slice-3.ensures)
