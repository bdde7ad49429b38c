-- The status of an ending, a number for each fault.
use Rattle.std.specs.Prelude.{ℕ, Option, Some, None}
use Rattle.aqfp_top.specs.declared.fault.Fault.{Fault}
use Rattle.aqfp_top.specs.declared.fault.Fault.TheVariants.{Usage, Absent, TooLong, ReadFault, WriteFault, BadBlif}
use Rattle.aqfp_top.specs.declared.fault.Fault.TheVariants.{BadDesign, BadLibrary, MissingCell, TooLarge, BadStream}
use Rattle.aqfp_top.specs.declared.fault.Fault.TheVariants.{RuleBroken, BadWords, Widths, NoShape, NotCells, Memory}

-- the exit status of the command: 0 for success, and for each kind of fault a number of its own
abbrev pub status_of : Option Fault → ℕ
status_of None = 0
status_of (Some Usage) = 1
status_of (Some (Absent place)) = 2
status_of (Some (TooLong place taken)) = 3
status_of (Some (ReadFault place)) = 4
status_of (Some (WriteFault call)) = 5
status_of (Some (BadBlif fault)) = 6
status_of (Some (BadLibrary fault)) = 7
status_of (Some (MissingCell kind)) = 8
status_of (Some (TooLarge what count)) = 10
status_of (Some (BadStream offset kind)) = 11
status_of (Some (RuleBroken rule first second)) = 12
status_of (Some (BadWords line)) = 13
status_of (Some Memory) = 14
status_of (Some (BadDesign line kind)) = 16
status_of (Some (Widths chip_inputs chip_outputs net_inputs net_outputs)) = 17
status_of (Some (NoShape number count)) = 18
status_of (Some (NotCells line kind)) = 19
