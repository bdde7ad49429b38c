use Rattle.std.proofs.Common.{◌∙◌, ap, map}
use Rattle.blif_flat.specs.Code.Blocks.{place_in}
use Rattle.blif_flat.proofs.Assembling.{def_same}
use Rattle.blif_flat.proofs.expansion.assembly.placed.Goals as goal

pub returns : goal.returns
returns c =
    def_same c.args.def.now.line _ _ c.args.def.now.on _ _
    (c.in_ok-inputs.ensures ∙ ap (map (place_in c.args.places.now)) c.as_slice.ensures) c.in_ok-cubes.ensures
