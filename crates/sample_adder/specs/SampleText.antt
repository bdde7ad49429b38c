-- What the sample prints: the number of bits and the counts of its chip in one line, and the answer to each word.
use Rattle.std.specs.Prelude.{ℕ, Bool, List, ◌++◌, codes}
use Rattle.std.specs.List.{flat_map}
use Rattle.std.specs.Fmt.{decimal}
use Rattle.text_answers.specs.Counts.{counts_text}
use Rattle.text_answers.specs.WordLines.{word_line}

-- the first line: the bits of a number, and the counts of the chip
unfoldable pub sample_line : ℕ → ℕ → ℕ → ℕ → List ℕ
sample_line bits rows cells wires = codes "bits " ++ decimal bits ++ codes " " ++ counts_text rows cells wires

-- the first line, and a line for each answer
unfoldable pub sample_text : ℕ → ℕ → ℕ → ℕ → List (List Bool) → List ℕ
sample_text bits rows cells wires answers = sample_line bits rows cells wires ++ flat_map word_line answers
