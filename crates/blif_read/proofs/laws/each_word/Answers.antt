use Rattle.blif_read.proofs.OneAnswer.{some_valuation, one_valuation}
use Rattle.blif_read.proofs.laws.each_word.Goals as goal

pub returns-clause-some : goal.returns-clause-some
returns-clause-some c = some_valuation

pub returns-clause-only : goal.returns-clause-only
returns-clause-only c = one_valuation
