use Rattle.std.proofs.Common.{◌≡◌, ◌+◌, length, Option, None, Some, ℕ, List, Bor}
use Rattle.std.specs.Option.{option_map}
use Rattle.blif_read.specs.Code.Reading.{tokens_left}
use Rattle.blif_read.proofs.token_list.first_token.Given as goal

abbrev pub size : Option (Bor (List ℕ)) → ℕ
size None = 0
size (Some text) = length text.now + 1

abbrev pub invariant-parts : goal.invariant-parts
invariant-parts l = tokens_left l.line (option_map (λ t. t.now) l.more) ≡ tokens_left l.fn.rest.line.now
    (option_map (λ t. t.now) l.fn.rest.more)

abbrev pub decreases-parts : goal.decreases-parts
decreases-parts l = size l.more
