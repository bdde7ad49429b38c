-- What a TOML table has under its keys. Keys are compared by their bytes.
use Rattle.std.specs.Prelude.{ℕ, ℤ, pos, negsuc, List, [], ◌∷◌, Bool, not, ◌&&◌, nat_le, filter, if◌then◌else◌}
use Rattle.std.specs.Prelude.{Option, Some, None, option_map, option_and_then}
use Rattle.std.specs.Option.{option_map_or}
use Rattle.std.specs.Ordering.{nat_cmp, is_lt}
use Rattle.std.specs.List.{list_any}
use Rattle.std.specs.Str.{bytes_eq}
use Rattle.std.specs.Cmp.Lexicographic.{slice_cmp}
use Rattle.toml.specs.Data.{Data, Items, no_items, item, Members, no_members, member, integer, array}
use Rattle.toml.specs.Data.{get_member, as_integer, as_table}

-- the integers of an array that holds nothing else
abbrev pub integers_of : Items → Option (List ℤ)
integers_of no_items = Some []
integers_of (item (integer z) rest) = option_map (λ zs. z ∷ zs) (integers_of rest)
integers_of (item _ rest) = None

-- the integers of a value that is such an array
abbrev pub as_integers : Data → Option (List ℤ)
as_integers (array items) = integers_of items
as_integers _ = None

-- the integer under a key
abbrev pub integer_under : Members → List ℕ → Option ℤ
integer_under ms key = option_and_then as_integer (get_member key ms)

-- the integers of the array under a key
abbrev pub integers_under : Members → List ℕ → Option (List ℤ)
integers_under ms key = option_and_then as_integers (get_member key ms)

-- the table under a key
abbrev pub table_under : Members → List ℕ → Option Members
table_under ms key = option_and_then as_table (get_member key ms)

-- the integer as a natural number, where it has these bounds
abbrev pub natural_within : ℕ → ℕ → ℤ → Option ℕ
natural_within least most (pos n) = if nat_le least n && nat_le n most then Some n else None
natural_within least most (negsuc n) = None

-- the keys of a table
abbrev pub keys_of : Members → List (List ℕ)
keys_of no_members = []
keys_of (member key value rest) = key ∷ keys_of rest

-- the text is one of these
abbrev pub is_among : List (List ℕ) → List ℕ → Bool
is_among known key = list_any (bytes_eq key) known

-- the keys of a table that are none of these
abbrev pub other_keys : List (List ℕ) → Members → List (List ℕ)
other_keys known ms = filter (λ key. not (is_among known key)) (keys_of ms)

-- the lesser of two keys
abbrev pub lesser : List ℕ → List ℕ → List ℕ
lesser a b = if is_lt (slice_cmp nat_cmp a b) then a else b

-- the least of some keys
abbrev pub least : List (List ℕ) → Option (List ℕ)
least [] = None
least (key ∷ keys) = Some (option_map_or (lesser key) (least keys) key)
