use Rattle.std.proofs.Common.{◌≡◌}
use Rattle.shape_extract.proofs.PinFrameLists.{NumbersTo}
use Rattle.shape_extract.proofs.distinct_shapes.own_heads.Given as goal

abbrev pub invariant-loop-n : goal.invariant-loop-n
invariant-loop-n l = NumbersTo (λ p m. m ≡ p) l.n l.heads.items
