-- The table of cell kinds: a small set after the minimalist-design cell library of AQFP logic.
use Rattle.std.specs.Prelude.{ℕ}
use Rattle.circuit.specs.declared.cell_kind.CellKind.{CellKind}
use Rattle.circuit.specs.declared.cell_kind.CellKind.TheVariants.{Buffer, Inverter, Zero, One, Split2, Split3, Majority}

-- the number of a kind, which is the datatype of its frame
abbrev pub number_of : CellKind → ℕ
number_of Buffer = 1
number_of Inverter = 2
number_of Zero = 3
number_of One = 4
number_of Split2 = 5
number_of Split3 = 6
number_of Majority = 7

abbrev pub inputs_of : CellKind → ℕ
inputs_of Buffer = 1
inputs_of Inverter = 1
inputs_of Zero = 0
inputs_of One = 0
inputs_of Split2 = 1
inputs_of Split3 = 1
inputs_of Majority = 3

abbrev pub outputs_of : CellKind → ℕ
outputs_of Buffer = 1
outputs_of Inverter = 1
outputs_of Zero = 1
outputs_of One = 1
outputs_of Split2 = 2
outputs_of Split3 = 3
outputs_of Majority = 1

-- how many slots of its row a cell takes: a slot has room for one input pin and one output pin
abbrev pub slots_of : CellKind → ℕ
slots_of Buffer = 1
slots_of Inverter = 1
slots_of Zero = 1
slots_of One = 1
slots_of Split2 = 2
slots_of Split3 = 3
slots_of Majority = 3
