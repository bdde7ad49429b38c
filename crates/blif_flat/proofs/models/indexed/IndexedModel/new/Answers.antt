use Rattle.std.proofs.Common.{◌∙◌, ap, not, []}
use Rattle.std.specs.List.{list_all}
use Rattle.std.specs.Str.{bytes_eq}
use Rattle.indexmap.specs.IndexSet.{insert_all}
use Rattle.blif_read.specs.Parts.{is_defined}
use Rattle.blif_flat.specs.Designs.{names_in}
use Rattle.blif_flat.proofs.Indexes.{index_defines, all_same}
use Rattle.blif_flat.proofs.models.indexed.IndexedModel.new.Goals as goal

pub invariant_of-result : goal.invariant_of-result
invariant_of-result c =
    let outputs = c.in_ok-outputs.ensures
    ∙ ap (λ ns. insert_all bytes_eq [] (names_in ns)) c.as_slice-2.ensures in record {
      has_inputs = c.in_ok-inputs.ensures ∙ ap (λ ns. insert_all bytes_eq [] (names_in ns)) c.as_slice.ensures;
      has_outputs = outputs;
      is_apart = c.are_apart-apart.ensures
          ∙ ap (list_all (λ n. not (is_defined c.in_ok-outputs.outputs n.name))) c.as_slice-3.ensures
          ∙ all_same _ _ (λ n. ap not
          (index_defines c.in_ok-outputs.outputs (names_in c.args.model.now.outputs) n.name outputs))
          c.args.model.now.inputs;
    }
