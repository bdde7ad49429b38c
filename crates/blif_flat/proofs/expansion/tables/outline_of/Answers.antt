use Rattle.std.proofs.Common.{◌∙◌, ap, [], map}
use Rattle.blif_read.proofs.Distinct.{all_inserted}
use Rattle.blif_flat.specs.Designs.{names_in, distinct_outputs}
use Rattle.blif_flat.specs.Code.Blocks.{place_in}
use Rattle.blif_flat.proofs.expansion.tables.outline_of.Goals as goal

pub returns : goal.returns
returns c = record {
  inputs = all_inserted [] (names_in c.args.places.now.model.inputs) c.requires.distinct;
  exits = c.in_ok-exits.ensures
      ∙ ap (map (place_in c.args.places.now)) (c.outputs.ensures ∙ ap distinct_outputs c.requires.same);
  width = c.width.ensures ∙ c.requires.full;
  full = c.requires.full;
}
