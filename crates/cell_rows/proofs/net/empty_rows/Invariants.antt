use Rattle.std.proofs.Common.{◌≡◌, []}
use Rattle.cell_rows.specs.Members.{listed}
use Rattle.cell_rows.proofs.net.empty_rows.Given as goal

abbrev pub invariant-loop-row : goal.invariant-loop-row
invariant-loop-row l = l.rows.items ≡ listed (λ _. []) l._row
