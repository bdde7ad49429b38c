-- The kinds of cells as a library file names them. Every library gives all of them but the splitter of three.
use Rattle.std.specs.Prelude.{ℕ, List, [], ◌∷◌, codes}
use Rattle.circuit.specs.declared.cell_kind.CellKind.{CellKind}
use Rattle.circuit.specs.declared.cell_kind.CellKind.TheVariants.{Buffer, Inverter, Zero, One, Split2, Split3, Majority}

-- the kinds, by rising number
abbrev pub all_kinds : List CellKind
all_kinds = Buffer ∷ Inverter ∷ Zero ∷ One ∷ Split2 ∷ Split3 ∷ Majority ∷ []

-- the kinds that no library may leave out, by rising number
abbrev pub mandatory_kinds : List CellKind
mandatory_kinds = Buffer ∷ Inverter ∷ Zero ∷ One ∷ Split2 ∷ Majority ∷ []

-- the key of a kind's table in a library file
abbrev pub key_of : CellKind → List ℕ
key_of Buffer = codes "buffer"
key_of Inverter = codes "inverter"
key_of Zero = codes "zero"
key_of One = codes "one"
key_of Split2 = codes "split2"
key_of Split3 = codes "split3"
key_of Majority = codes "majority"
