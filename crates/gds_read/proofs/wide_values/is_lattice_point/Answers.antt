use Rattle.std.proofs.Common.{arith}
use Rattle.gds_read.proofs.WideFields.{both_multiples}
use Rattle.gds_read.proofs.wide_values.is_lattice_point.Goals as goal

pub returns-then-is_multiple : goal.returns-then-is_multiple
returns-then-is_multiple c =
    both_multiples c.args.count c.args.xy.now (λ i. omega (arith, c.type_inv.xy i)) c.args.i _ _ _ _ _ _
    c.narrow.ensures c.narrow-x.ensures c.narrow-then-is_multiple.ensures
    c.narrow-y.ensures c.is_multiple.ensures c.if-is_multiple.true c.is_multiple-then-is_multiple.ensures
