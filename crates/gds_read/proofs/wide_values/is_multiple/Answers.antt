use Rattle.gds_read.proofs.WideFields.{multiple_is}
use Rattle.gds_read.proofs.wide_values.is_multiple.Goals as goal

pub returns : goal.returns
returns c =
    multiple_is c.args.count c.args.a c.args.b _ _ c.ranges.a c.ranges.b c.if-count-eq0.false c.ranges.count.fits
    c.distance-distance.ensures c.from.ensures
