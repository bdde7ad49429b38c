-- How work ends for which nothing is due.
use Rattle.std.specs.Prelude.{List, Option, Some, None}
use Rattle.aqfp_top.specs.Stages.{Stage, SomeGivesUp}
use Rattle.aqfp_top.specs.declared.fault.Fault.{Fault}
use Rattle.aqfp_top.specs.declared.fault.Fault.TheVariants.{ReadFault, WriteFault, TooLarge, Memory}

-- Where no stage of the texts finds a fault, the work on them is done, but for want of memory, for the outside, and for
-- the size for which a stage gives up.
abbrev pub IsDoneOrGivesUp : List Stage → Option Fault → Type 0
IsDoneOrGivesUp stages None = Unit {0}
IsDoneOrGivesUp stages (Some Memory) = Unit {0}
IsDoneOrGivesUp stages (Some (ReadFault place)) = Unit {0}
IsDoneOrGivesUp stages (Some (WriteFault call)) = Unit {0}
IsDoneOrGivesUp stages (Some (TooLarge what count)) = SomeGivesUp stages what count
IsDoneOrGivesUp stages (Some _) = ⊥
