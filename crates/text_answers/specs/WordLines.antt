-- Word lines: the answers that a circuit shows to words, each a line with a digit for each output.
use Rattle.std.specs.Prelude.{ℕ, zero, suc, ◌+◌, ◌*◌, Bool, true, false, List, [], ◌∷◌, ◌++◌, codes, length, map}
use Rattle.std.specs.List.{flat_map}
use Rattle.circuit_extracted.specs.Circuits.{CircuitView}
use Rattle.pulse_sim.specs.Pulsing.{is_plus}
use Rattle.pulse_sim.specs.Settled.{settled_run}
use Rattle.pulse_sim.specs.Shows.{fluxes_at}
use Rattle.text_answers.specs.Counts.{counts_line, delay_of}

-- the digit of a value, 0 or 1, in ASCII
abbrev pub digit_of : Bool → ℕ
digit_of false = 48
digit_of true = 49

-- a line with a digit for each value of the word, and a line feed
abbrev pub word_line : List Bool → List ℕ
word_line word = map digit_of word ++ codes "\n"

-- the values at the outputs after the tick of this time, in the settled run
abbrev pub values_at : CircuitView → List (List Bool) → ℕ → List Bool
values_at circuit words time = map is_plus (fluxes_at circuit.outputs (settled_run circuit words (suc time)))

-- the first n answers; word k enters at time 4k, and its answer stands at the outputs as many ticks later as the delay
-- says
abbrev pub first_answers : CircuitView → List (List Bool) → ℕ → List (List Bool)
first_answers circuit words zero = []
first_answers circuit words (suc k) = first_answers circuit words k
    ++ values_at circuit words (4 * k + delay_of circuit) ∷ []

-- an answer for each word
abbrev pub answers_to : CircuitView → List (List Bool) → List (List Bool)
answers_to circuit words = first_answers circuit words (length words)

-- the counts line, and a line for each of these answers
unfoldable pub answers_text : CircuitView → List (List Bool) → List ℕ
answers_text circuit answers = counts_line circuit ++ flat_map word_line answers
