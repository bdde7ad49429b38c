use Rattle.std.proofs.Common.{rules}
use Rattle.gds_records.proofs.Appends.{boundary_at}
use Rattle.gds_records.proofs.spelling.put_box.Goals as goal

pub returns : goal.returns
returns c =
    boundary_at c.bits.result c.bits-2.result c.bits-3.result c.bits-4.result c.args.shape.now (search rules)
    (search rules) (search rules) (search rules) c.in_ok-put_boundary.ensures
