use Rattle.std.proofs.Common.{◌≡◌}
use Rattle.shape_extract.specs.Code.Walk.{net_at}
use Rattle.shape_extract.proofs.PinFrameLists.{NumbersTo}
use Rattle.shape_extract.proofs.connectivity.net_walk.own_nets.Given as goal

abbrev pub invariant-loop-n : goal.invariant-loop-n
invariant-loop-n l = NumbersTo
    (λ p m. m ≡ net_at l.kinds.numbers.items l.kinds.places.items l.walked.labels.items l.walked.touched.items p) l.n
    l.nets.items
