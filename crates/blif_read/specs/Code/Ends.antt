-- What one walk over the tokens of a line keeps of them.
use Rattle.std.specs.Prelude.{◌≡◌, ℕ, List, [], ◌∷◌, length}
use Rattle.std.specs.List.{list_any}
use Rattle.blif_read.specs.Faults.{is_control}
use Rattle.blif_read.specs.declared.ends.Ends.{Ends}

-- the first token, and an empty one where there is none
abbrev pub first_of : List (List ℕ) → List ℕ
first_of [] = []
first_of (token ∷ tokens) = token

-- the last token, and the given one where there is none
abbrev pub last_after : List ℕ → List (List ℕ) → List ℕ
last_after last [] = last
last_after last (token ∷ tokens) = last_after token tokens

-- how many tokens there are, the first and the last, and whether one has a control byte
pub record AreEnds (ends : Ends) (tokens : List (List ℕ)) : Type 0 where
  pub count : ends.count ≡ length tokens
  pub control : ends.control ≡ list_any (list_any is_control) tokens
  pub first : ends.first.now ≡ first_of tokens
  pub last : ends.last.now ≡ last_after [] tokens
