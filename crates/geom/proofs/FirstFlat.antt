-- The shapes and labels of the first chip, by computation.
use Rattle.std.proofs.Common.{◌≡◌, refl}
use Rattle.geom.specs.FlatForm.{flat_of}
use Rattle.geom.specs.FirstChip.{first_layout, first_flat, first_buffer, first_top}

-- the flat form of the first layout is the one that is written out
pub first_flat_form : flat_of first_layout ≡ first_flat
unfolding flat_of first_layout first_buffer first_top first_flat
first_flat_form = refl
