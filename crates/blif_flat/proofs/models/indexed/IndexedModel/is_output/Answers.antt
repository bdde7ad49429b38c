use Rattle.std.proofs.Common.{◌∙◌, ap}
use Rattle.blif_read.specs.Parts.{is_defined}
use Rattle.blif_read.specs.declared.models.BlifModel.{BlifModel}
use Rattle.blif_flat.specs.Designs.{names_in}
use Rattle.blif_flat.proofs.Indexes.{index_defines}
use Rattle.blif_flat.proofs.models.indexed.IndexedModel.is_output.Goals as goal

pub returns : goal.returns
returns c = c.has.ensures
    ∙ index_defines c.self.inside.outputs
    (names_in c.self.inside.model.now.outputs) c.args.name.now c.self.invariant.has_outputs
    ∙ ap (λ (m : BlifModel). is_defined (names_in m.outputs) c.args.name.now) c.self.view_is
