use Rattle.std.proofs.Common.{arith, ◌≤◌}
use Rattle.layout_make.proofs.Columns.{centre_rises}
use Rattle.layout_make.proofs.SizesKept.{are_sizes}
use Rattle.layout_make.proofs.areas.across_area.Goals as goal

pub returns-clause-wide : goal.returns-clause-wide
returns-clause-wide c =
    let half = (are_sizes c.args.library.now c.known.ensures.library).wire_half in
    let less : c.min.result ≤ c.max.result = omega (arith, c.min.ensures, c.max.ensures) in
    let rise = centre_rises c.args.library.now c.min.result c.max.result less in
    omega (
      arith,
      c.saturating_sub.ensures,
      c.centre.ensures.value,
      c.centre-2.ensures.value,
      c.wire-half.ensures,
      half,
      rise,
    )
