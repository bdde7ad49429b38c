use Rattle.shape_extract.specs.Code.Walk.{IsSpreadTo}
use Rattle.shape_extract.proofs.connectivity.net_walk.spread.Given as goal

abbrev pub invariant-loop-number : goal.invariant-loop-number
invariant-loop-number l =
    IsSpreadTo l.number-index l.kinds l.numbers l.fn.labels l.fn.order.items l.labels l.order.items l.from
