-- The worked chips, computed.
use Rattle.std.proofs.Common.{◌≡◌, refl}
use Rattle.std.specs.Fmt.{digits}
use Rattle.geom.specs.FirstChip.{first_layout, first_buffer, first_top}
use Rattle.geom.specs.FlatForm.{flat_of}
use Rattle.cell_library.specs.LibraryA.{library_a_view}
use Rattle.layout_make.specs.Sheet.{centre, edge, track_centre}
use Rattle.layout_make.specs.Tags.{sheet}
use Rattle.layout_make.specs.Draw.{draw}
use Rattle.layout_make.specs.Chips.{first_placed, second_placed, second_flat, third_placed, third_flat}
use Rattle.layout_make.specs.Chips.{least_library, least_flat, wide_library, wide_flat}

pub first_drawn : draw first_placed library_a_view ≡ first_layout
unfolding centre edge track_centre sheet draw digits first_layout first_buffer first_top
first_drawn = refl

pub second_drawn : flat_of (draw second_placed library_a_view) ≡ second_flat
unfolding centre edge track_centre sheet draw digits flat_of second_flat
second_drawn = refl

pub third_drawn : flat_of (draw third_placed library_a_view) ≡ third_flat
unfolding centre edge track_centre sheet draw digits flat_of third_flat
third_drawn = refl

pub least_drawn : flat_of (draw third_placed least_library) ≡ least_flat
unfolding centre edge track_centre sheet draw digits flat_of least_flat
least_drawn = refl

pub wide_drawn : flat_of (draw first_placed wide_library) ≡ wide_flat
unfolding centre edge track_centre sheet draw digits flat_of wide_flat
wide_drawn = refl
