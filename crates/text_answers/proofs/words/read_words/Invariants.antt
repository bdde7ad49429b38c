use Rattle.std.proofs.Common.{length}
use Rattle.text_answers.proofs.Reading.{IsReadTo}
use Rattle.text_answers.proofs.words.read_words.Given as goal

abbrev pub invariant-loop-rest : goal.invariant-loop-rest
invariant-loop-rest l = IsReadTo l.fn.width l.fn.text l.rest l.count

abbrev pub decreases-loop-rest : goal.decreases-loop-rest
decreases-loop-rest l = length l.rest
