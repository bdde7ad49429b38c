use Rattle.blif_read.proofs.Numbering.{number_step, number_missing}
use Rattle.blif_read.proofs.signals.push_numbers.Goals as goal

pub tokens-preserved : goal.tokens-preserved
tokens-preserved c = number_step _ _ _ _ _ _ _ _ _ _ c.in-Some.ensures.some c.in_ok-place.ensures c.in-Some-2.is
    c.in_ok-push-in-Some-2.ensures.ok c.tokens.invariant.0 c.tokens.invariant.1

pub returns-in-None-clause-all : goal.returns-in-None-clause-all
returns-in-None-clause-all c =
    number_missing _ _ _ _ _ _ c.in-Some.ensures.some c.in_ok-place.ensures c.in-None.is c.tokens.invariant.1
