use Rattle.std.proofs.Common.{arith}
use Rattle.poly_cut.proofs.OffWindows.{reached_last}
use Rattle.poly_cut.proofs.windows.is_past.Goals as goal

pub returns-else-number-ends-clause-no : goal.returns-else-number-ends-clause-no
returns-else-number-ends-clause-no c = λ h. reached_last c.args.ends.now c.args.number c.args.wall c.requires
    (omega arith)
