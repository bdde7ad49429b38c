-- What any store hears of a `sample` that ends well, and what it prints.
use Rattle.std.specs.Prelude.{ℕ, ◌≡◌, List}
use Rattle.aq_base.specs.Output.{Output}
use Rattle.aq_base.specs.Output as output
use Rattle.aq_base.specs.History.{Event}
use Rattle.aqfp_top.specs.Samples.{IsSampled}

-- The store heard nothing: no file is asked for. `out` gained the text of the sample, and nothing else.
pub record HearsSample (bits : ℕ) (history history' : List Event) (before after : Output) : Type 0 where
  pub history_is : history' ≡ history
  pub sampled : IsSampled bits (λ text. after ≡ output.printed text before)
