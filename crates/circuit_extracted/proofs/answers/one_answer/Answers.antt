use Rattle.circuit_extracted.proofs.Valuations.{some_answer, only_answer}
use Rattle.circuit_extracted.proofs.answers.one_answer.Goals as goal

pub returns-clause-some : goal.returns-clause-some
returns-clause-some c = λ circuit word keeps. some_answer circuit keeps word

pub returns-clause-only : goal.returns-clause-only
returns-clause-only c = λ circuit word first second keeps. only_answer circuit keeps word first second
