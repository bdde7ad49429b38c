-- What a comparison of two circuits may say.
use Rattle.std.specs.Prelude.{◌≡◌, ◌≢◌, ◌⊎◌, ℕ, ◌<◌, Bool, true, false, List, [], ◌∷◌, length, slice_index_or}
use Rattle.circuit.specs.PlainNets.{PlainView, IsAnswer}
use Rattle.circuit.specs.SameAnswers.{SameAnswers}
use Rattle.circuit.specs.CellNets.{value}
use Rattle.decide.specs.Subfunctions.{HasAtMost}
use Rattle.decide.specs.declared.verdict.Verdict.{Verdict}
use Rattle.decide.specs.declared.verdict.Verdict.TheVariants as verdict
use Rattle.decide.specs.declared.refusal.DecideRefusal.{DecideRefusal}
use Rattle.decide.specs.declared.refusal.DecideRefusal.TheVariants as refusal

-- the first word comes before the second: input 0 decides first, and false comes before true
abbrev pub Before : List Bool → List Bool → Type 0
Before [] ys = ⊥
Before (x ∷ xs) [] = ⊥
Before (x ∷ xs) (y ∷ ys) = ((x ≡ false) × (y ≡ true)) ⊎ ((x ≡ y) × Before xs ys)

-- the value of an output at a word
abbrev pub shown : PlainView → ℕ → List Bool → Bool
shown net k word = value net.gates word (slice_index_or net.outputs k 0)

-- both circuits have the same counts, and the same answers to every word
abbrev pub answer_alike : PlainView → PlainView → Type 0
answer_alike a b =
    SameAnswers a.inputs b.inputs (length a.outputs) (length b.outputs) (IsAnswer a) (IsAnswer b)

-- the output is the least on which some word gives different values, and the word is the least such word for it
pub record IsLeastDifference (a b : PlainView) (output : ℕ) (word : List Bool) : Type 0 where
  pub output_within : output < length a.outputs
  pub long : length word ≡ a.inputs
  pub differ : shown a output word ≢ shown b output word
  pub least_output : (k : ℕ) (x : List Bool) → k < output → length x ≡ a.inputs → shown a k x ≡ shown b k x
  pub least_word : (x : List Bool) → length x ≡ a.inputs → Before x word → shown a output x ≡ shown b output x

-- the output differs at the word, and the two circuits have more than 1,000,000 subfunctions
pub record IsSomeDifference (a b : PlainView) (output : ℕ) (word : List Bool) : Type 0 where
  pub output_within : output < length a.outputs
  pub long : length word ≡ a.inputs
  pub differ : shown a output word ≢ shown b output word
  pub many : ¬ HasAtMost a b 1000000

-- what a verdict says
abbrev pub IsVerdict : PlainView → PlainView → Verdict → Type 0
IsVerdict a b verdict.Equal = answer_alike a b
IsVerdict a b (verdict.LeastDifference output word) = IsLeastDifference a b output word
IsVerdict a b (verdict.SomeDifference output word) = IsSomeDifference a b output word

-- what a refusal says: too many comes only where it is so, and want of memory may always come
abbrev pub IsRefusal : PlainView → PlainView → DecideRefusal → Type 0
IsRefusal a b (refusal.TooMany functions) = (functions ≡ 1000001) × ¬ HasAtMost a b 1000000
IsRefusal a b refusal.Memory = Unit {0}
