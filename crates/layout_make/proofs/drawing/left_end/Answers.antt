use Rattle.std.proofs.Common.{arith, ◌≤◌}
use Rattle.layout_make.proofs.RowsDrawn.{slot_fits}
use Rattle.layout_make.proofs.drawing.left_end.Goals as goal

pub overflow_mul-result-2 : goal.overflow_mul-result-2
overflow_mul-result-2 c =
    let columns : c.columns.result ≤ 1000 = omega (arith, c.columns.ensures, c.known_sizes.ensures.columns_most) in
    let pitch : c.pitch.result ≤ 1000000 = omega (arith, c.pitch.ensures, c.known_sizes.ensures.pitch_most) in
    omega (
      arith,
      slot_fits c.from.result c.columns.result c.pitch.result
          (omega (arith, c.from.ensures, c.ranges.slot.fits)) columns pitch,
    )
