use Rattle.std.proofs.Common.{◌∙◌, sym}
use Rattle.blif_read.proofs.Passing.{token_before, last_token}
use Rattle.blif_read.proofs.token_list.token_in.Goals as goal

pub returns-then-token-gt0-clause-some : goal.returns-then-token-gt0-clause-some
returns-then-token-gt0-clause-some c = token_before _ _ _ _ _ _ (sym c.first_blank.ensures
    ∙ c.in-Some.is) c.split_at.ensures.front c.split_at.ensures.back c.split_at-in-Some.ensures.back
    c.if-token-gt0.true c.loop-at.invariant

pub returns-then-rest-gt0-clause-some : goal.returns-then-rest-gt0-clause-some
returns-then-rest-gt0-clause-some c = last_token _ _ (sym c.first_blank.ensures
    ∙ c.in_default.is) c.if-rest-gt0.true c.loop-at.invariant
