-- Text on its way to a sink, of which a part waits on a page.
use Rattle.std.specs.Prelude.{ℕ, ◌≡◌, List, ◌++◌}
use Rattle.aq_base.specs.Output.{Output, printed}

-- the sink took the text but for what waits on the page
pub record Pends (before now : Output) (page text : List ℕ) : Type 0 where
  pub put : List ℕ
  pub gain : now ≡ printed put before
  pub whole : text ≡ put ++ page
