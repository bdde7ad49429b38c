use Rattle.shape_extract.proofs.StandIns.{distinct_from}
use Rattle.shape_extract.proofs.distinct_shapes.distinct_of.Goals as goal

pub returns-clause-distinct : goal.returns-clause-distinct
returns-clause-distinct c = distinct_from c.args.shapes.now c.in_ok-heads.heads.items
    c.in_ok-distinct.distinct.numbers.items c.in_ok-distinct.distinct.places.items c.in_ok-heads.ensures.least
    (rw c.as_slice.ensures.value at c.in_ok-distinct.ensures.own) c.in_ok-distinct.ensures.places
