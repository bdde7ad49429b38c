-- The eight words of the sample: a value for each bit of the two numbers, in the order of the netlist's inputs.
use Rattle.std.specs.Prelude.{ℕ, zero, suc, ◌+◌, ◌*◌, ◌%◌, Bool, nat_lt, List, [], ◌∷◌, ◌++◌}

-- value i of word k
abbrev pub sample_value : ℕ → ℕ → Bool
sample_value k i = nat_lt ((k + 1) * (i + 3) % 11) 5

-- the first values of word k
abbrev pub sample_word : ℕ → ℕ → List Bool
sample_word k zero = []
sample_word k (suc i) = sample_word k i ++ sample_value k i ∷ []

-- the first words, each of so many values
abbrev pub first_words : ℕ → ℕ → List (List Bool)
first_words width zero = []
first_words width (suc k) = first_words width k ++ sample_word k width ∷ []

-- the eight words for numbers of so many bits
unfoldable pub eight : ℕ → List (List Bool)
eight bits = first_words (2 * bits) 8
