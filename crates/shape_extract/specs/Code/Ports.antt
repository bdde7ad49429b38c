-- What a pin is to the outside of a chip, and for a whole layout the list of it.
use Rattle.std.specs.Prelude.{Bool, true, false, List, map}
use Rattle.geom.specs.declared.shapes.Shape.{Shape}
use Rattle.layout_rules.specs.Pins.{is_entry, is_exit}
use Rattle.shape_extract.specs.declared.tables.ports.Port.{Port}
use Rattle.shape_extract.specs.declared.tables.ports.Port.TheVariants.{Entry, Exit, Inner}

-- what a pin is that enters, or leaves
abbrev pub port_by : Bool → Bool → Port
port_by true leaves = Entry
port_by false true = Exit
port_by false false = Inner

-- an input pin of the lowest row, an output pin of the last row, or any other shape
abbrev pub port_of : List Shape → Shape → Port
port_of shapes s = port_by (is_entry shapes s) (is_exit shapes s)

-- what each shape is
abbrev pub ports_of : List Shape → List Port
ports_of shapes = map (port_of shapes) shapes

-- a word enters here
abbrev pub enters : Port → Bool
enters Entry = true
enters Exit = false
enters Inner = false

-- an answer leaves here
abbrev pub leaves : Port → Bool
leaves Entry = false
leaves Exit = true
leaves Inner = false

-- one or the other
abbrev pub crosses : Port → Bool
crosses Entry = true
crosses Exit = true
crosses Inner = false
