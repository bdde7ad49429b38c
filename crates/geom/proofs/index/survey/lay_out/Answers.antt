use Rattle.std.proofs.Common.{arith, ◌^◌}
use Rattle.std.proofs.lemmas.Nat.{mul-le}
use Rattle.geom.proofs.index.survey.lay_out.Goals as goal

pub overflow_mul-columns : goal.overflow_mul-columns
overflow_mul-columns c = omega
    (arith, mul-le c.loop.columns c.loop.rows (2 ^ 16) (2 ^ 11) c.loop.invariant.few_columns c.loop.invariant.few_rows)
