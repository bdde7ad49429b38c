-- The report of the first chip: a buffer in each of two rows, and one wire between them.
use Rattle.std.specs.Prelude.{ℕ, List, [], ◌∷◌, ◌++◌, codes, slice_index}

-- the excitation comes to both cells at once, and passes each after 8 micrometres
abbrev pub first_near : ℕ → ℕ
first_near c = 0

abbrev pub first_far : ℕ → ℕ
first_far c = slice_index (8000 ∷ 8000 ∷ []) c

-- where wires may be 180 micrometres long
unfoldable pub first_report : List ℕ
first_report =
    codes "rows 2 cells 2 wires 1 delay 1"
    ++ codes "\nbuffers 2 inverters 0 zeros 0 ones 0 splitters 0 0 majorities 0"
    ++ codes "\njunctions 4"
    ++ codes "\nwidth 8000 height 24000"
    ++ codes "\nlongest 10000 of 180000"
    ++ codes "\nskew 8000 even 8000 odd 8000"
    ++ codes "\nrow 0 phase 0 cells 1 wires 1 longest 10000 skew 8000"
    ++ codes "\nrow 1 phase 1 cells 1 wires 0 longest 0 skew 0\n"
