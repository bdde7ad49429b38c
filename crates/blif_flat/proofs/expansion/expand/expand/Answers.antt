use Rattle.std.proofs.Common.{◌∙◌, sym, ap, subst}
use Rattle.blif_read.specs.Netlist.{AreParts}
use Rattle.blif_flat.specs.Code.Wired.{wires_of}
use Rattle.blif_flat.proofs.Finishing.{whole, are_expanded, expand_ok, expand_err, few_places, few_inputs}
use Rattle.blif_flat.proofs.expansion.expand.expand.Goals as goal

pub finish-requires : goal.finish-requires
finish-requires c =
    subst AreParts (sym (whole c.args.models.now c.narrow-inputs.result (wires_of c.as_slice-3.result.now)
    c.in_ok-defs.defs c.in_ok-outputs.outputs
    (are_expanded c.args.models.now c.index-models-0.result c.narrow-inputs.result c.len.result
    (wires_of c.as_slice-3.result.now) (wires_of c.as_slice.result.now) c.in_ok-defs.defs c.in_ok-outputs.outputs
    c.as_slice-2.result.now c.requires.some c.index-models-0.is c.narrow-inputs.ensures c.len.ensures
    (ap wires_of c.as_slice-3.ensures.value ∙ c.in_ok-places.ensures) (ap wires_of c.as_slice.ensures.value
    ∙ c.in_ok-places.ensures)
    c.in_ok-defs.ensures c.in_ok-outputs.ensures c.as_slice-2.ensures))) c.requires.parts

pub returns-clause-ok : goal.returns-clause-ok
returns-clause-ok c =
    expand_ok c.args.models.now c.narrow-inputs.result (wires_of c.as_slice-3.result.now)
    c.in_ok-defs.defs c.in_ok-outputs.outputs
    (are_expanded c.args.models.now c.index-models-0.result c.narrow-inputs.result c.len.result
    (wires_of c.as_slice-3.result.now) (wires_of c.as_slice.result.now) c.in_ok-defs.defs c.in_ok-outputs.outputs
    c.as_slice-2.result.now c.requires.some c.index-models-0.is c.narrow-inputs.ensures c.len.ensures
    (ap wires_of c.as_slice-3.ensures.value ∙ c.in_ok-places.ensures) (ap wires_of c.as_slice.ensures.value
    ∙ c.in_ok-places.ensures)
    c.in_ok-defs.ensures c.in_ok-outputs.ensures c.as_slice-2.ensures)
    c.requires.buildable c.finish.result c.finish.ensures.ok c.finish.ensures.sound

pub returns-clause-err : goal.returns-clause-err
returns-clause-err c =
    expand_err c.args.models.now c.narrow-inputs.result (wires_of c.as_slice-3.result.now)
    c.in_ok-defs.defs c.in_ok-outputs.outputs
    (are_expanded c.args.models.now c.index-models-0.result c.narrow-inputs.result c.len.result
    (wires_of c.as_slice-3.result.now) (wires_of c.as_slice.result.now) c.in_ok-defs.defs c.in_ok-outputs.outputs
    c.as_slice-2.result.now c.requires.some c.index-models-0.is c.narrow-inputs.ensures c.len.ensures
    (ap wires_of c.as_slice-3.ensures.value ∙ c.in_ok-places.ensures) (ap wires_of c.as_slice.ensures.value
    ∙ c.in_ok-places.ensures)
    c.in_ok-defs.ensures c.in_ok-outputs.ensures c.as_slice-2.ensures)
    c.requires.buildable c.finish.result c.finish.ensures.refused

pub output_numbers-requires : goal.output_numbers-requires
output_numbers-requires c =
    few_places c.args.models.now c.as_slice.result.now c.requires.parts
    (ap wires_of c.as_slice.ensures.value ∙ c.in_ok-places.ensures)

pub narrow-inputs-requires : goal.narrow-inputs-requires
narrow-inputs-requires c =
    few_inputs c.args.models.now c.index-models-0.result c.len.result c.requires.parts
    c.requires.some c.index-models-0.is
    c.len.ensures
