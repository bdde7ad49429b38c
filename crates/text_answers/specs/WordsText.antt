-- Words texts: each line of a text is a word, with a digit for each input of a circuit.
use Rattle.std.specs.Prelude.{◌≡◌, ℕ, ◌+◌, ◌==◌, ◌&&◌, ◌||◌, Bool, true, false, All, List, length, map, take, slice_get}
use Rattle.std.specs.Prelude.{Some}
use Rattle.std.specs.List.{list_all}
use Rattle.std.specs.Str.Lines.{lines}

-- 0 or 1
abbrev pub is_digit : ℕ → Bool
is_digit b = b == 48 || b == 49

-- the digit 1, which stands for true (ASCII 49)
abbrev pub is_one : ℕ → Bool
is_one b = b == 49

-- the line is a word of this many values
abbrev pub is_word : ℕ → List ℕ → Bool
is_word width line = length line == width && list_all is_digit line

-- the values that a line of digits writes, in the order of the inputs
abbrev pub word_of : List ℕ → List Bool
word_of line = map is_one line

-- the words of a text, line by line
abbrev pub words_of : List ℕ → List (List Bool)
words_of text = map word_of (lines text)

-- each line of the text is a word of this many values
abbrev pub SaysWords : ℕ → List ℕ → Type 0
SaysWords width text = All (λ line. is_word width line ≡ true) (lines text)

-- the first line of the text that is no word of this many values, counted from 1
pub record IsBadLine (width : ℕ) (text : List ℕ) (number : ℕ) : Type 0 where
  pub index : ℕ
  pub number_is : number ≡ index + 1
  pub line : List ℕ
  pub line_is : slice_get (lines text) index ≡ Some line
  pub bad : is_word width line ≡ false
  pub before : All (λ earlier. is_word width earlier ≡ true) (take index (lines text))
