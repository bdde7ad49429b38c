-- The files that the commands load: the places of their names among the words, and how many bytes they may have.
use Rattle.std.specs.Prelude.{ℕ, ◌≡◌, ◌⊎◌, ◌<◌, List, [], ◌∷◌}

-- a file to load: the place of its name among the words, counted from 0, and the most bytes that it may have
pub record Load : Type 0 where
  pub place : ℕ
  pub limit : ℕ

-- the most bytes that the text of a netlist may have: 16 MiB
abbrev pub net_limit : ℕ
net_limit = 16777216

-- the most bytes that the text of a library may have: 1 MiB
abbrev pub lib_limit : ℕ
lib_limit = 1048576

-- the most bytes that a file in GDSII Stream Format may have: 256 MiB
abbrev pub gds_limit : ℕ
gds_limit = 268435456

-- the most bytes that a file of words may have: 16 MiB
abbrev pub words_limit : ℕ
words_limit = 16777216

-- a first file of at most so many bytes, and LIB
abbrev pub two_loads : ℕ → List Load
two_loads limit = record { place = 1; limit = limit } ∷ record { place = 2; limit = lib_limit } ∷ []

-- NET and LIB
abbrev pub build_loads : List Load
build_loads = two_loads net_limit

-- GDS and LIB
abbrev pub write_loads : List Load
write_loads = two_loads gds_limit

-- GDS
abbrev pub shapes_loads : List Load
shapes_loads = record { place = 1; limit = gds_limit } ∷ []

-- GDS, LIB and a third file of at most so many bytes
abbrev pub three_loads : ℕ → List Load
three_loads limit =
    record { place = 1; limit = gds_limit } ∷ record { place = 2; limit = lib_limit }
    ∷ record { place = 3; limit = limit } ∷ []

-- GDS, LIB and NET
abbrev pub equal_loads : List Load
equal_loads = three_loads net_limit

-- GDS, LIB and WORDS
abbrev pub check_loads : List Load
check_loads = three_loads words_limit

-- some load of these is of the file at this place
abbrev pub IsLoaded : List Load → ℕ → Type 0
IsLoaded [] place = ⊥
IsLoaded (load ∷ loads) place = (place ≡ load.place) ⊎ IsLoaded loads place

-- and its limit is below the number of bytes
abbrev pub IsPast : List Load → ℕ → ℕ → Type 0
IsPast [] place taken = ⊥
IsPast (load ∷ loads) place taken = ((place ≡ load.place) × (load.limit < taken)) ⊎ IsPast loads place taken
