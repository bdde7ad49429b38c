-- What the history of a sink over std says is what the calls of std were.
use Rattle.std.specs.Prelude.{◌≡◌, List, [], ◌∷◌}
use Rattle.aq_base.specs.declared.acts.Act.TheVariants as act
use Rattle.aq_base.specs.History.{Event, NotAppended, all_taken}
use Rattle.aq_base.specs.Acts.{Did, Done, all_wrote}

-- unless a piece was refused, the last call flushed what was written
abbrev pub IsFlushed : List Did → List Event → Type 0
IsFlushed [] history = Unit {0}
IsFlushed (Done act.Flush ∷ done) history = Unit {0}
IsFlushed done (NotAppended why ∷ history) = Unit {0}
IsFlushed done history = ⊥

-- the bytes that writes took are those of the pieces that were put, all of them and in order, and no others
pub record Puts (done : List Did) (history : List Event) : Type 0 where
  pub bytes : all_wrote done ≡ all_taken history
  pub flushed : IsFlushed done history
