-- The line that each fault puts to `err`.
use Rattle.std.specs.Prelude.{ℕ, suc, ◌≡◌, ◌<◌, ◌⊎◌, length, List, ◌∷◌, ◌++◌, codes, Option, Some, None, ℤ, pos}
use Rattle.std.specs.Prelude.{negsuc}
use Rattle.std.specs.List.{flat_map}
use Rattle.std.specs.Fmt.{decimal}
use Rattle.aq_base.specs.declared.store.StoreRefusal.{StoreRefusal}
use Rattle.aq_base.specs.Output.{Output, printed, PrintsPart}
use Rattle.circuit.specs.declared.cell_kind.CellKind.{CellKind}
use Rattle.cell_library.specs.Kinds.{key_of}
use Rattle.blif_read.specs.declared.netlist.LineKind.{LineKind}
use Rattle.blif_read.specs.declared.netlist.LineKind.TheVariants.{Token, Unsupported, SecondModel, RowShape, RowValue}
use Rattle.blif_read.specs.declared.netlist.LineKind.TheVariants.{RowAlone, Duplicate, Undefined, NoOutputs}
use Rattle.blif_read.specs.declared.netlist.BlifFault.{BlifFault}
use Rattle.blif_read.specs.declared.netlist.BlifFault.TheVariants as blif
use Rattle.blif_flat.specs.declared.design.FlatKind.{FlatKind}
use Rattle.blif_flat.specs.declared.design.FlatKind.TheVariants as flat
use Rattle.cell_netlist.specs.declared.fault.CellFault.{CellFault}
use Rattle.cell_netlist.specs.declared.fault.CellFault.TheVariants as cells
use Rattle.cell_library.specs.declared.fault.LibraryFault.{LibraryFault}
use Rattle.cell_library.specs.declared.fault.LibraryFault.TheVariants as library
use Rattle.gds_records.specs.declared.fault.StreamKind.{StreamKind}
use Rattle.gds_records.specs.declared.fault.StreamKind.TheVariants as stream
use Rattle.layout_rules.specs.RuleTable.{name_of}
use Rattle.shown_names.specs.Names.{shown_name}
use Rattle.aqfp_top.specs.declared.fault.Large.{Large}
use Rattle.aqfp_top.specs.declared.fault.Large.TheVariants.{Slots, Rows, Cells, Elements, Shapes, Functions, Design}
use Rattle.aqfp_top.specs.Words.{word_at}
use Rattle.aqfp_top.specs.declared.fault.Fault.{Fault}
use Rattle.aqfp_top.specs.declared.fault.Fault.TheVariants.{Usage, Absent, TooLong, ReadFault, WriteFault, BadBlif}
use Rattle.aqfp_top.specs.declared.fault.Fault.TheVariants.{BadDesign, BadLibrary, MissingCell, TooLarge, BadStream}
use Rattle.aqfp_top.specs.declared.fault.Fault.TheVariants.{RuleBroken, BadWords, Widths, NoShape, NotCells, Memory}

-- the line about the file that a word names, control bytes of the name being spelled and a long one cut
abbrev pub named : List (List ℕ) → ℕ → List ℕ → List ℕ
named words place tail = codes "aqfp: " ++ shown_name (word_at words place) ++ tail

-- what is wrong with a line of a netlist
abbrev pub line_kind_text : LineKind → List ℕ
line_kind_text Token = codes "token"
line_kind_text Unsupported = codes "unsupported"
line_kind_text SecondModel = codes "second model"
line_kind_text RowShape = codes "row shape"
line_kind_text RowValue = codes "row value"
line_kind_text RowAlone = codes "row alone"
line_kind_text Duplicate = codes "duplicate"
line_kind_text Undefined = codes "undefined"
line_kind_text NoOutputs = codes "no outputs"

-- what is wrong with a line of a design
abbrev pub design_kind_text : FlatKind → List ℕ
design_kind_text flat.ModelTwice = codes "model twice"
design_kind_text flat.UnknownModel = codes "unknown model"
design_kind_text flat.Ports = codes "ports"
design_kind_text flat.Duplicate = codes "duplicate"
design_kind_text flat.Undefined = codes "undefined"
design_kind_text flat.Recursive = codes "recursive"
design_kind_text flat.NoOutputs = codes "no outputs"

-- why a netlist is none of cells
abbrev pub cell_fault_text : CellFault → List ℕ
cell_fault_text cells.Cover = codes "cover"
cell_fault_text cells.Uses = codes "uses"
cell_fault_text cells.Level = codes "level"
cell_fault_text cells.Outputs = codes "outputs"

-- the signals, each after a blank
abbrev pub signals_text : List (List ℕ) → List ℕ
signals_text signals = flat_map (λ signal. 32 ∷ signal) signals

-- the line about a netlist: the number of the line at fault, and what is wrong with it or the signals of the cycle
abbrev pub netlist_line : BlifFault → List ℕ
netlist_line (blif.Line line kind) =
    codes "aqfp: line " ++ decimal line ++ codes ": " ++ line_kind_text kind ++ codes "\n"
netlist_line (blif.Cycle line signals) =
    codes "aqfp: line " ++ decimal line ++ codes ": cycle" ++ signals_text signals ++ codes "\n"

-- an integer in decimal digits, after a minus sign where it is negative
abbrev pub integer_text : ℤ → List ℕ
integer_text (pos n) = decimal n
integer_text (negsuc n) = codes "-" ++ decimal (suc n)

-- the line about a kind of cell that the library lacks
abbrev pub missing_line : CellKind → List ℕ
missing_line kind = codes "aqfp: library: missing " ++ key_of kind ++ codes "\n"

-- the line about a library of cells: its text, a key, a value, a law of its numbers, or a cell that it lacks; keys are
-- shown as names of files are
abbrev pub library_line : LibraryFault → List ℕ
library_line library.Text = codes "aqfp: library: text\n"
library_line (library.Key key) = codes "aqfp: library: key " ++ shown_name key ++ codes "\n"
library_line (library.Value key value) =
    codes "aqfp: library: " ++ shown_name key ++ codes " = " ++ integer_text value ++ codes "\n"
library_line (library.Law number) = codes "aqfp: library: law " ++ decimal number ++ codes "\n"
library_line (library.Missing kind) = missing_line kind

-- of what there is too much
abbrev pub large_text : Large → List ℕ
large_text Slots = codes "slots"
large_text Rows = codes "rows"
large_text Cells = codes "cells"
large_text Elements = codes "elements"
large_text Shapes = codes "shapes"
large_text Functions = codes "functions"
large_text Design = codes "design"

-- what is wrong with a stream
abbrev pub stream_kind_text : StreamKind → List ℕ
stream_kind_text stream.Truncated = codes "truncated"
stream_kind_text stream.Length = codes "length"
stream_kind_text stream.Order = codes "order"
stream_kind_text stream.DataType = codes "data type"
stream_kind_text stream.Value = codes "value"
stream_kind_text stream.Unsupported = codes "unsupported"
stream_kind_text stream.UnknownName = codes "unknown name"
stream_kind_text stream.NotRectangle = codes "not a rectangle"
stream_kind_text stream.SeveralTops = codes "several tops"
stream_kind_text stream.NoTop = codes "no top"

-- two numbers, with a blank between them
abbrev pub pair_text : ℕ → ℕ → List ℕ
pair_text first second = decimal first ++ 32 ∷ decimal second

-- the whole line of a fault
abbrev pub line_of : List (List ℕ) → Fault → List ℕ
line_of words Usage =
    codes "aqfp: usage: build NET LIB OUT, compact NET LIB OUT, draw NET LIB OUT, verify GDS LIB WORDS, "
    ++ codes "trace GDS LIB WORDS, sample N, netlist GDS LIB OUT, equal GDS LIB NET, report GDS LIB, shapes GDS A B\n"
line_of words (Absent place) = named words place (codes ": absent\n")
line_of words (TooLong place taken) = named words place (codes ": too long\n")
line_of words (ReadFault place) = named words place (codes ": read failed\n")
line_of words (WriteFault call) = codes "aqfp: write failed\n"
line_of words (BadBlif fault) = netlist_line fault
line_of words (BadDesign line kind) =
    codes "aqfp: line " ++ decimal line ++ codes ": subckt " ++ design_kind_text kind ++ codes "\n"
line_of words (BadLibrary fault) = library_line fault
line_of words (MissingCell kind) = missing_line kind
line_of words (TooLarge what count) =
    codes "aqfp: too large: " ++ decimal count ++ codes " " ++ large_text what ++ codes "\n"
line_of words (BadStream offset kind) =
    codes "aqfp: stream: byte " ++ decimal offset ++ codes ": " ++ stream_kind_text kind ++ codes "\n"
line_of words (RuleBroken rule first second) =
    codes "aqfp: rule " ++ name_of rule ++ codes ": shapes " ++ pair_text first second ++ codes "\n"
line_of words (BadWords line) = codes "aqfp: words: line " ++ decimal line ++ codes "\n"
line_of words (Widths chip_inputs chip_outputs net_inputs net_outputs) =
    codes "aqfp: widths: " ++ pair_text chip_inputs chip_outputs ++ codes " and " ++ pair_text net_inputs net_outputs
    ++ codes "\n"
line_of words (NoShape number count) =
    codes "aqfp: no shape " ++ decimal number ++ codes " of " ++ decimal count ++ codes "\n"
line_of words (NotCells line kind) =
    codes "aqfp: line " ++ decimal line ++ codes ": cells " ++ cell_fault_text kind ++ codes "\n"
line_of words Memory = codes "aqfp: out of memory\n"

-- some first bytes of the line were taken, and then the sink took no more, for some reason
pub record IsCutShort (before after : Output) (line : List ℕ) : Type 0 where
  pub why : StoreRefusal
  pub part : PrintsPart before after line why

-- the place that a fault names is one of the words
abbrev pub HasPlace : List (List ℕ) → Fault → Type 0
HasPlace words (Absent place) = place < length words
HasPlace words (TooLong place taken) = place < length words
HasPlace words (ReadFault place) = place < length words
HasPlace words _ = Unit {0}

-- what `err` gains: nothing after a success, and otherwise the fault's line, which it takes whole or cut in this way
abbrev pub Reports : (Output → Output → List ℕ → Type 0) → Output → Output → List (List ℕ) → Option Fault → Type 0
Reports Cut before after words None = after ≡ before
Reports Cut before after words (Some fault) =
    (after ≡ printed (line_of words fault) before) ⊎ Cut before after (line_of words fault)
