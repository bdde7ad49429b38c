use Rattle.blif_flat.proofs.CircuitAnswers.{written_answers}
use Rattle.blif_flat.proofs.laws.written_answers.Goals as goal

pub returns : goal.returns
returns c = written_answers
