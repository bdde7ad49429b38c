use Rattle.std.proofs.Common.{rules}
use Rattle.gds_records.proofs.Appends.{then, last, point_at}
use Rattle.gds_records.proofs.spelling.put_reference.Goals as goal

pub returns : goal.returns
returns c =
    then c.in_ok-put_mark.ensures
    (then c.in_ok-put_text.ensures
    (then (point_at c.bits.result c.bits-2.result c.args.x c.args.y (search rules)
    (search rules) c.in_ok-put_place.ensures)
    (last c.in_ok-put_mark-2.ensures)))
