-- The bytes of the first chip as a wide stream, computed.
use Rattle.std.proofs.Common.{◌≡◌, None, refl}
use Rattle.geom.specs.FirstChip.{first_flat}
use Rattle.poly_cut.specs.Cuts.{ring_cut}
use Rattle.poly_cut.specs.FlatForm.{wide_flat}
use Rattle.gds_records.specs.FirstChip.{first_bytes}
use Rattle.gds_records.specs.Profiles.{wide}
use Rattle.gds_records.specs.Profiled.{first_fault_in}
use Rattle.gds_records.specs.Scan.{wide_layout_in}

pub first_is_wide : first_fault_in wide first_bytes ≡ None
unfolding first_bytes ring_cut
first_is_wide = refl

pub first_flat_is : wide_flat (wide_layout_in first_bytes) ≡ first_flat
unfolding first_bytes ring_cut wide_flat first_flat
first_flat_is = refl
