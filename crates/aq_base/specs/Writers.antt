-- How a write to a writer ends early.
use Rattle.std.specs.Prelude.{ℕ, ◌≡◌, ◌≤◌, ◌⊎◌, List, ◌∷◌, length, take, Option}
use Rattle.std.specs.Io.KnownBytes.{Appends}
use Rattle.aq_base.specs.declared.acts.Act.TheVariants as act
use Rattle.aq_base.specs.Acts.{Did, Refused, wrote}

-- some first bytes of a piece, as many as this, went into a writer, of which `contents` are the bytes
abbrev pub TakenPart : Option (List ℕ) → Option (List ℕ) → List ℕ → ℕ → Type 0
TakenPart before after piece count = (count ≤ length piece) × Appends before after (take count piece)

-- writes took some first bytes of a piece, as many as this, and then no more
pub record WritesPart (before after : List Did) (piece : List ℕ) (count : ℕ) : Type 0 where
  pub within : count ≤ length piece
  pub calls : (after ≡ wrote (take count piece) before) ⊎ (after ≡ Refused act.Write ∷ wrote (take count piece) before)
