use Rattle.mig_from_netlist.proofs.Planes.{one_narrows, zero_narrows, other_narrows}
use Rattle.mig_from_netlist.proofs.cover.narrowed.Goals as goal

pub returns-then-byte-eq49 : goal.returns-then-byte-eq49
returns-then-byte-eq49 c =
    λ i lt. one_narrows c.args.table c.mask.result c.args.byte c.args.place i c.if-byte-eq49.true c.mask.ensures
    c.requires lt

pub returns-then-byte-eq48 : goal.returns-then-byte-eq48
returns-then-byte-eq48 c =
    λ i lt. zero_narrows c.args.table c.mask-then-byte-eq48.result c.args.byte c.args.place i c.if-byte-eq48.true
    c.mask-then-byte-eq48.ensures c.mask-then-byte-eq48.type_inv c.requires lt

pub returns-else-byte-eq48 : goal.returns-else-byte-eq48
returns-else-byte-eq48 c =
    λ i lt. other_narrows c.args.table c.args.byte c.args.place i c.if-byte-eq45.false c.if-byte-eq49.false
    c.if-byte-eq48.false
