-- The numbers that decimal texts write: digits without a sign, the first one not zero unless it stands alone.
use Rattle.std.specs.Prelude.{ℕ, ◌≡◌, ◌<◌, ◌≤◌, ◌^◌, ◌⊎◌, List, [], length, slice_index, EachIndex, SomeIndex}
use Rattle.std.specs.Char.{IsAsciiDigit}
use Rattle.std.specs.Str.Parse.{digits_value}

-- each byte is a digit
abbrev pub IsAllDigits : List ℕ → Type 0
IsAllDigits text = EachIndex text (λ i. IsAsciiDigit (slice_index text i))

-- some byte is no digit
abbrev pub HasOtherByte : List ℕ → Type 0
HasOtherByte text = SomeIndex text (λ i. ¬ IsAsciiDigit (slice_index text i))

-- the text begins with a zero and goes on
abbrev pub HasLeadingZero : List ℕ → Type 0
HasLeadingZero text = (1 < length text) × (slice_index text 0 ≡ 48)

-- the text writes no number of 64 bits: it is empty, holds another byte than a digit, has a leading zero, or its number
-- is too large
abbrev pub IsUnreadable : List ℕ → Type 0
IsUnreadable text = (text ≡ []) ⊎ (HasOtherByte text ⊎ (HasLeadingZero text ⊎ (2 ^ 64 ≤ digits_value 10 text)))
