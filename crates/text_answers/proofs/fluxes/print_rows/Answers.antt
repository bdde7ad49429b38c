use Rattle.text_answers.proofs.Pages.{refuses_line}
use Rattle.text_answers.proofs.fluxes.print_rows.Goals as goal

pub returns-in-Err-clause-refused : goal.returns-in-Err-clause-refused
returns-in-Err-clause-refused g c = refuses_line _ _ _
