use Rattle.std.proofs.Common.{rules}
use Rattle.gds_records.proofs.Appends.{then, last, point_at, text_at}
use Rattle.gds_records.proofs.spelling.put_label.Goals as goal

pub returns : goal.returns
returns c =
    then c.in_ok-put_mark.ensures
    (then c.in_ok-put_number.ensures
    (then c.in_ok-put_number-2.ensures
    (then (point_at c.bits.result c.bits-2.result c.args.label.now.x c.args.label.now.y (search rules)
    (search rules) c.in_ok-put_place.ensures)
    (then (text_at 25 c.as_slice.result.now c.args.label.now.text c.as_slice.ensures c.in_ok-put_text.ensures)
    (last c.in_ok-put_mark-2.ensures)))))
