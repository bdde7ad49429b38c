use Rattle.mig_replace.proofs.Computing.{signed_entry}
use Rattle.mig_replace.proofs.run.operand.Goals as goal

pub returns : goal.returns
returns c =
    λ b leaves few all.
    signed_entry b leaves c.entry_at-entry.result c.args.literal _ _ few c.signed_literal.ensures
    c.signed-table.ensures (c.entry_at-entry.ensures b leaves all)
