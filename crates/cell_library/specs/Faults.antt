-- The first fault of a library file that is a TOML document: of its keys and numbers, in the order in which they are
-- looked at, and then of its laws.
use Rattle.std.specs.Prelude.{ℕ, ℤ, List, [], ◌∷◌, ◌++◌, map, find, codes}
use Rattle.std.specs.Prelude.{Option, Some, None, option_map, option_and_then, is_none}
use Rattle.std.specs.Option.{option_or}
use Rattle.toml.specs.Data.{Members, get_member}
use Rattle.circuit.specs.declared.cell_kind.CellKind.{CellKind}
use Rattle.cell_library.specs.declared.fault.LibraryFault.{LibraryFault}
use Rattle.cell_library.specs.declared.fault.LibraryFault.TheVariants.{Key, Value, Missing}
use Rattle.cell_library.specs.Kinds.{all_kinds, mandatory_kinds, key_of}
use Rattle.cell_library.specs.Numbers.{Number, numbers}
use Rattle.cell_library.specs.Documents.{integer_under, integers_under, table_under, natural_within, other_keys, least}

-- the first that is there
abbrev pub first_some : {X : Type 0} → List (Option X) → Option X
first_some [] = None
first_some (x ∷ xs) = option_or x (first_some xs)

-- the keys that may stand at the top
abbrev pub top_keys : List (List ℕ)
top_keys = codes "name" ∷ map (λ number. number.key) numbers ++ map key_of all_kinds

-- the keys that may stand in the table of a kind
abbrev pub pins_keys : List (List ℕ)
pins_keys = codes "inputs" ∷ codes "outputs" ∷ []

-- a key that may not stand at the top: the least
abbrev pub unknown_key_fault : Members → Option LibraryFault
unknown_key_fault ms = option_map (λ key. Key key) (least (other_keys top_keys ms))

-- an integer that is out of its range
abbrev pub range_fault : List ℕ → ℤ → Option ℕ → Option LibraryFault
range_fault key z (Some n) = None
range_fault key z None = Some (Value key z)

-- a number that is absent or no integer, or out of its range
abbrev pub integer_fault : Number → Option ℤ → Option LibraryFault
integer_fault number None = Some (Key number.key)
integer_fault number (Some z) = range_fault number.key z (natural_within 1 number.most z)

-- what is wrong with a number of the file
abbrev pub number_fault : Members → Number → Option LibraryFault
number_fault ms number = integer_fault number (integer_under ms number.key)

-- with the first number with which something is
abbrev pub numbers_fault : Members → Option LibraryFault
numbers_fault ms = first_some (map (number_fault ms) numbers)

-- a kind that no library may leave out
abbrev pub missing_fault : Members → Option LibraryFault
missing_fault ms =
    option_map (λ kind. Missing kind) (find (λ kind. is_none (get_member (key_of kind) ms)) mandatory_kinds)

-- a key of a kind's table, with the kind's before it
abbrev pub dotted : CellKind → List ℕ → List ℕ
dotted kind key = key_of kind ++ 46 ∷ key

-- columns that are no array of integers, or the first that is out of range
abbrev pub columns_fault_of : List ℕ → Option (List ℤ) → Option LibraryFault
columns_fault_of key None = Some (Key key)
columns_fault_of key (Some zs) = option_map (λ z. Value key z) (find (λ z. is_none (natural_within 0 2999 z)) zs)

-- what is wrong with the columns of a kind's inputs or outputs
abbrev pub columns_fault : Members → CellKind → List ℕ → Option LibraryFault
columns_fault inner kind part = columns_fault_of (dotted kind part) (integers_under inner part)

-- a key in a kind's table that may not stand there: the least
abbrev pub inner_key_fault : Members → CellKind → Option LibraryFault
inner_key_fault inner kind = option_map (λ key. Key (dotted kind key)) (least (other_keys pins_keys inner))

-- what is wrong with a kind that is given
abbrev pub inner_fault : CellKind → Option Members → Option LibraryFault
inner_fault kind None = Some (Key (key_of kind))
inner_fault kind (Some inner) =
    first_some (inner_key_fault inner kind ∷ columns_fault inner kind (codes "inputs")
    ∷ columns_fault inner kind (codes "outputs") ∷ [])

-- what is wrong with its table
abbrev pub given_fault : Members → CellKind → Option LibraryFault
given_fault ms kind = inner_fault kind (table_under ms (key_of kind))

-- what is wrong with a kind, if it is given
abbrev pub kind_fault : Members → CellKind → Option LibraryFault
kind_fault ms kind = option_and_then (λ value. given_fault ms kind) (get_member (key_of kind) ms)

-- with the first kind with which something is
abbrev pub kinds_fault : Members → Option LibraryFault
kinds_fault ms = first_some (map (kind_fault ms) all_kinds)

-- the first fault before the laws
abbrev pub table_fault : Members → Option LibraryFault
table_fault ms = first_some (unknown_key_fault ms ∷ numbers_fault ms ∷ missing_fault ms ∷ kinds_fault ms ∷ [])
