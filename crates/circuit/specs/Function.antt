-- The truth function of each cell kind. All outputs of a splitter show the one value of the cell.
use Rattle.std.specs.Prelude.{Bool, true, false, not, ◌&&◌, ◌||◌}
use Rattle.circuit.specs.declared.cell_kind.CellKind.{CellKind}
use Rattle.circuit.specs.declared.cell_kind.CellKind.TheVariants.{Buffer, Inverter, Zero, One, Split2, Split3, Majority}

-- the value that at least two of three have
abbrev pub majority : Bool → Bool → Bool → Bool
majority a b c = (a && b) || (a && c) || (b && c)

-- the value of a cell whose inputs 0, 1 and 2 have these values; an input that the kind lacks is not read
abbrev pub value_of : CellKind → Bool → Bool → Bool → Bool
value_of Buffer a b c = a
value_of Inverter a b c = not a
value_of Zero a b c = false
value_of One a b c = true
value_of Split2 a b c = a
value_of Split3 a b c = a
value_of Majority a b c = majority a b c
