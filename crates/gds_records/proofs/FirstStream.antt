-- The bytes of the first chip are those of its layout, which can be written.
use Rattle.std.proofs.Common.{◌≡◌, refl}
use Rattle.geom.specs.FirstChip.{first_layout, first_buffer, first_top}
use Rattle.gds_records.specs.Writing.{bytes_of}
use Rattle.gds_records.specs.FirstChip.{first_bytes}

pub first_written : bytes_of first_layout ≡ first_bytes
unfolding bytes_of first_layout first_buffer first_top first_bytes
first_written = refl
