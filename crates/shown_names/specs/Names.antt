-- How a line shows a name: control bytes are spelled out, and of a long name a beginning stands.
use Rattle.std.specs.Prelude.{ℕ, zero, suc, ◌/◌, ◌%◌, Bool, cond, nat_lt, nat_le, ◌==◌, ◌&&◌, ◌||◌}
use Rattle.std.specs.Prelude.{List, [], ◌∷◌, ◌++◌, length, take, get_or, codes}
use Rattle.std.specs.List.{flat_map}
use Rattle.std.specs.Char.{digit_char}

-- a control byte: it may end the line, or steer the terminal that the line goes to
abbrev pub is_control : ℕ → Bool
is_control byte = nat_lt byte 32 || byte == 127

-- a byte as a line shows it: a control byte as `\x` and its two hexadecimal digits, any other as it is
abbrev pub shown_byte : ℕ → List ℕ
shown_byte byte =
    cond (is_control byte) (codes "\\x" ++ digit_char (byte / 16) ∷ digit_char (byte % 16) ∷ []) (byte ∷ [])

-- the bytes as a line shows them
abbrev pub shown_bytes : List ℕ → List ℕ
shown_bytes bytes = flat_map shown_byte bytes

-- the byte goes on with a character of UTF-8 that began before it
abbrev pub goes_on : ℕ → Bool
goes_on byte = nat_le 128 byte && nat_lt byte 192

-- the greatest number of bytes, up to the given one, after which no character goes on
unfoldable pub whole_length : List ℕ → ℕ → ℕ
whole_length name zero = zero
whole_length name (suc n) = cond (goes_on (get_or name (suc n) 0)) (whole_length name n) (suc n)

-- the longest beginning of at most 200 bytes that cuts no character
abbrev pub beginning : List ℕ → List ℕ
beginning name = take (whole_length name 200) name

-- a name as a line shows it: whole, or its beginning and two dots where it has more than 200 bytes
unfoldable pub shown_name : List ℕ → List ℕ
shown_name name = cond (nat_le (length name) 200) (shown_bytes name) (shown_bytes (beginning name) ++ codes "..")
