use Rattle.shape_extract.proofs.LineStarts.{has_start, lacks_start}
use Rattle.shape_extract.proofs.lines.starts.find_start_fault.Goals as goal

pub returns-then-count_starts-eq1 : goal.returns-then-count_starts-eq1
returns-then-count_starts-eq1 c =
    has_start c.args.shapes.now c.args.layer _ c.count_starts.ensures c.if-count_starts-eq1.true

pub returns : goal.returns
returns c = lacks_start c.args.shapes.now c.args.layer _ _ c.in_ok-first.ensures c.count_starts.ensures
    c.if-count_starts-eq1.false
