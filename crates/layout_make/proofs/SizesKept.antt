-- Every library's sizes are so.
use Rattle.std.proofs.Common.{arith}
use Rattle.cell_library.specs.Library.{LibraryView}
use Rattle.cell_library.specs.Laws.{IsLibrary}
use Rattle.layout_make.specs.Code.Sizes.{AreSizes}
use Rattle.layout_make.proofs.Ready.{lawful}

pub are_sizes : (l : LibraryView) → IsLibrary l → AreSizes l
are_sizes l known =
    let laws = lawful l known in
    let r = known.draft.ranges in
    let wire = laws.wire_even in let wire_some = r.wire_some in
    let via = laws.via_even in let via_some = r.via_some in
    let a = laws.encloses in let b = laws.spaced in let c = laws.tall in let d = laws.space_some in
    record {
      wire_half = omega arith;
      via_half = omega arith;
      wire_most = r.wire_most;
      via_most = r.via_most;
      pin_some = r.pin_some;
      pin_most = r.pin_most;
      pin_low = omega arith;
      wire_in_pin = laws.pin_wide;
      via_in_wire = omega arith;
      height_most = r.height_most;
      wire_in_pitch = omega arith;
      pitch_most = r.pitch_most;
      columns_some = r.columns_some;
      columns_most = r.columns_most;
      capacity_most = r.capacity_most;
    }
