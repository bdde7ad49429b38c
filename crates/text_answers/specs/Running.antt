-- A run of a circuit under the words of a text: the circuit, the words and the time.
use Rattle.std.specs.Prelude.{◌≡◌, ◌≢◌, ℕ, ◌+◌, ◌/◌, ◌%◌, Bool, All, List, length, drop, Option, Some, None, slice_get}
use Rattle.std.specs.Prelude.{cond}
use Rattle.std.specs.Str.Lines.{lines}
use Rattle.circuit_extracted.specs.Circuits.{CircuitView}
use Rattle.pulse_sim.specs.Settled.{settled_run}
use Rattle.pulse_sim.specs.Pulsing.{Pulsing}
use Rattle.text_answers.specs.WordsText.{words_of}

-- what contracts see of a run
pub record Running : Type 0 where
  pub circuit : CircuitView
  pub words : List (List Bool)
  pub time : ℕ

-- how many words have entered before the tick of this time
abbrev pub entered : ℕ → ℕ
entered time = (time + 3) / 4

-- the present word, if there is one
abbrev pub present_word : Bool → List Bool → Option (List Bool)
present_word is_given word = cond is_given (Some word) None

-- Before a tick the rest of the text has the words that are to enter, and while a word is present it stands in the
-- buffer, which has a value for each input.
pub record IsWaiting (text rest : List ℕ) (word : List Bool) (is_given : Bool) (time width : ℕ) : Type 0 where
  pub wide : All (λ w. length w ≡ width) (words_of text)
  pub buffer : length word ≡ width
  pub to_enter : lines rest ≡ drop (entered time) (lines text)
  pub present : time % 4 ≢ 0 → slice_get (words_of text) (time / 4) ≡ present_word is_given word

-- the word of the time, if there is one, has entered
pub record IsFed (text rest : List ℕ) (word : List Bool) (is_given : Bool) (time width : ℕ) : Type 0 where
  pub wide : All (λ w. length w ≡ width) (words_of text)
  pub buffer : length word ≡ width
  pub to_enter : lines rest ≡ drop (entered (time + 1)) (lines text)
  pub present : slice_get (words_of text) (time / 4) ≡ present_word is_given word

-- the simulation is in the settled run
pub record IsRunning (text rest : List ℕ) (word : List Bool) (is_given : Bool) (pulses : Pulsing) : Type 0 where
  pub waiting : IsWaiting text rest word is_given pulses.time pulses.circuit.inputs
  pub settled : pulses.fluxes ≡ settled_run pulses.circuit (words_of text) pulses.time
