use Rattle.mig_replace.proofs.Computing.{none_entry}
use Rattle.mig_replace.proofs.run.entry_at.Goals as goal

pub returns-else-number-entries : goal.returns-else-number-entries
returns-else-number-entries c = λ b leaves all. none_entry b leaves
