use Rattle.std.proofs.Common.{sym, ◌∙◌}
use Rattle.mig_replace.proofs.Computing.{signed_entry}
use Rattle.mig_replace.proofs.other_form.known_table.Goals as goal

pub returns-then-signed_literal-literal : goal.returns-then-signed_literal-literal
returns-then-signed_literal-literal c =
    λ b leaves few all.
    signed_entry b leaves c.entry_at-entry.result c.args.literal _ _ few
    (sym c.if-signed_literal-literal.true ∙ c.signed_literal.ensures) c.signed-table.ensures
    (c.entry_at-entry.ensures b leaves all)
