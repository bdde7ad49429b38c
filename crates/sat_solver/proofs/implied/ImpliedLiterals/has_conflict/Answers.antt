use Rattle.std.proofs.Common.{refl}
use Rattle.sat_solver.proofs.Followed.{implied_conflict}
use Rattle.sat_solver.proofs.implied.ImpliedLiterals.has_conflict.Goals as goal

pub returns-then-has : goal.returns-then-has
returns-then-has c is =
    implied_conflict _ c.args.literal _ (c.if-has.ensures refl) c.turned.ensures (c.has-then-has.ensures is)
