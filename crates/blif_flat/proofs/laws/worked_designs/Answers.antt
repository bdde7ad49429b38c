use Rattle.std.proofs.Common.{refl}
use Rattle.std.specs.Fmt.{digits}
use Rattle.blif_flat.specs.DesignSize.{design_size}
use Rattle.blif_flat.specs.Expansion.{expansion}
use Rattle.blif_flat.proofs.laws.worked_designs.Goals as goal

pub returns : goal.returns
unfolding expansion design_size digits
returns c = record {
  names = refl;
  told = refl;
  defs = refl;
  outputs = refl;
  size = refl;
  nested = refl;
  straight = refl;
  itself = refl;
  in_line = refl;
}
