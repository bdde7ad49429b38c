use Rattle.std.proofs.Common.{ℕ, subst}
use Rattle.mig_replace.specs.Code.Cones.{HasTable}
use Rattle.mig_replace.proofs.Computing.{same_table}
use Rattle.mig_replace.proofs.other_form.by_form.Goals as goal

pub returns-then-entry-table-clause-same : goal.returns-then-entry-table-clause-same
returns-then-entry-table-clause-same c =
    same_table c.args.builder.now c.run.new.builder c.as_slice-leaves.result.now c.args.literal
    c.in_ok-entry.entry.literal c.in-Some-2.table c.in_ok-entry.ensures.grown
    (rw c.in-Some-2.is at c.in_ok-table.ensures)
    (subst (λ (t : ℕ). HasTable c.run.new.builder c.as_slice-leaves.result.now c.in_ok-entry.entry.literal t)
    c.if-entry-table.true c.in_ok-entry.ensures.entry)
