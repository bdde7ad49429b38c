-- The least word at which two literals differ, and what a sweep finds.
use Rattle.std.specs.Prelude.{◌≡◌, ℕ, ◌+◌, ◌<◌, Bool, true, false, List, length, slice_index_or}
use Rattle.sat_solver.specs.Clauses.{AreTrue}
use Rattle.circuit.specs.PlainNets.{PlainView}
use Rattle.decide.specs.Verdicts.{Before, answer_alike, IsLeastDifference}
use Rattle.decide.specs.declared.verdict.Verdict.{Verdict}
use Rattle.decide.specs.declared.verdict.Verdict.TheVariants as verdict
use Rattle.mig.specs.Graphs.{literal_value, Fits}
use Rattle.mig.specs.Building.{BuilderView}
use Rattle.sat_sweep.specs.Code.Merging.{AreAlikeBelow, AreAllAlike}
use Rattle.sat_sweep.specs.Code.Differences.{IsDifference}
use Rattle.sat_sweep.specs.declared.sweep_result.SweepResult.{SweepResult}
use Rattle.sat_sweep.specs.declared.sweep_result.SweepResult.TheVariants as swept

-- two literals have one value where these first literals are true, and one more is
pub record AreAlikeWhere (b : BuilderView) (first : List ℕ) (more one other : ℕ) : Type 0 where
  pub shows : (word : List Bool) (v : ℕ → Bool) → Fits b.inputs b.nodes word v → AreTrue v first
      → literal_value v more ≡ true → literal_value v one ≡ literal_value v other

-- the literal that an input has at a word: its own, or the next one where it is false. Where it is true, two literals
-- have one value where the first literals are true and it is false
pub record IsNextLiteral (b : BuilderView) (first : List ℕ) (own : ℕ) (here : Bool) (one other next : ℕ) : Type 0 where
  pub on : here ≡ true → next ≡ own
  pub off : here ≡ false → next ≡ own + 1
  pub alike : here ≡ true → AreAlikeWhere b first (own + 1) one other

-- two literals have one value at each word before this one
pub record AreAlikeBefore (b : BuilderView) (word : List Bool) (one other : ℕ) : Type 0 where
  pub shows : (x : List Bool) (v : ℕ → Bool) → Fits b.inputs b.nodes x v → length x ≡ b.inputs → Before x word
      → literal_value v one ≡ literal_value v other

-- the word is long enough, and two literals have one value at each word before it
pub record IsLeastWord (b : BuilderView) (one other : ℕ) (word : List Bool) : Type 0 where
  pub long : length word ≡ b.inputs
  pub before : AreAlikeBefore b word one other

-- the literals of a place differ at no word before this one, and those of the places before have one value
pub record IsLeastCandidate (b : BuilderView) (ones others : List ℕ) (place : ℕ) (word : List Bool) : Type 0 where
  pub within : place < length ones
  pub below : AreAlikeBelow b ones others place
  pub least : IsLeastWord b (slice_index_or ones place 0) (slice_index_or others place 0) word

-- what a sweep finds of two lists of literals
abbrev pub IsSweepResult : BuilderView → List ℕ → List ℕ → SweepResult → Type 0
IsSweepResult b ones others swept.Equal = AreAllAlike b ones others
IsSweepResult b ones others (swept.LeastCounterexample place word) = IsLeastCandidate b ones others place word
IsSweepResult b ones others (swept.Counterexample place word) = (place < length ones) × (length word ≡ b.inputs)
IsSweepResult b ones others swept.Undecided = Unit {0}

-- what is found of two circuits without a diagram: that they are alike, or their first difference, or some difference
abbrev pub IsFound : PlainView → PlainView → Verdict → Type 0
IsFound a b verdict.Equal = answer_alike a b
IsFound a b (verdict.LeastDifference output word) = IsLeastDifference a b output word
IsFound a b (verdict.SomeDifference output word) = IsDifference a b output word
