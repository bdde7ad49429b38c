-- What stages in turn may answer: a stage finds a fault, or finds none and the stages after it go on.
use Rattle.std.proofs.Common.{ℕ, List, [], ◌∷◌, ◌++◌, Option, Some, None, inl, inr}
use Rattle.aqfp_top.specs.Stages as stage
use Rattle.aqfp_top.specs.Stages.{Stage, Finds, FindsNone, IsFirst, Answers}
use Rattle.aqfp_top.specs.Code.Staging.{OrMemory}
use Rattle.aqfp_top.specs.declared.planner.Planner.TheVariants.{Build, Compact, Draw}
use Rattle.aqfp_top.specs.declared.fault.WriteCall.{WriteCall}
use Rattle.aqfp_top.specs.declared.fault.Fault.{Fault}
use Rattle.aqfp_top.specs.declared.fault.Fault.TheVariants.{Usage, Absent, TooLong, ReadFault, WriteFault, BadBlif}
use Rattle.aqfp_top.specs.declared.fault.Fault.TheVariants.{BadDesign, BadLibrary, MissingCell, TooLarge, BadStream}
use Rattle.aqfp_top.specs.declared.fault.Fault.TheVariants.{RuleBroken, BadWords, Widths, NoShape, NotCells, Memory}

-- a stage that finds none leaves the answer to those after it
pub past : (s : Stage) (stages : List Stage) (answer : Option Fault) → FindsNone s → Answers stages answer
    → Answers (s ∷ stages) answer
past s stages None none a = (none, a)
past s stages (Some Usage) none a = inr (none, a)
past s stages (Some (Absent place)) none a = inr (none, a)
past s stages (Some (TooLong place taken)) none a = inr (none, a)
past s stages (Some (ReadFault place)) none a = absurd a
past s stages (Some (WriteFault call)) none a = (none, a)
past s stages (Some (BadBlif fault)) none a = inr (none, a)
past s stages (Some (BadDesign line kind)) none a = inr (none, a)
past s stages (Some (BadLibrary fault)) none a = inr (none, a)
past s stages (Some (MissingCell kind)) none a = inr (none, a)
past s stages (Some (TooLarge what count)) none (inl a) = inl (inr (none, a))
past s stages (Some (TooLarge what count)) none (inr a) = inr ((none, a.0), inr a.1)
past s stages (Some (BadStream offset kind)) none a = inr (none, a)
past s stages (Some (RuleBroken rule first second)) none a = inr (none, a)
past s stages (Some (BadWords line)) none a = inr (none, a)
past s stages (Some (Widths a_inputs a_outputs b_inputs b_outputs)) none a = inr (none, a)
past s stages (Some (NoShape number count)) none a = inr (none, a)
past s stages (Some (NotCells line kind)) none a = inr (none, a)
past s stages (Some Memory) none a = tt

-- so do stages of which none finds one
pub past_all : (front rest : List Stage) (answer : Option Fault) → IsFirst front None → Answers rest answer
    → Answers (front ++ rest) answer
past_all [] rest answer none a = a
past_all (s ∷ front) rest answer none a = past s (front ++ rest) answer none.0 (past_all front rest answer none.1 a)

-- no stage finds a fault of the outside
no_read : (s : Stage) (place : ℕ) → Finds s (ReadFault place) → ⊥
no_read stage.Form place found = found
no_read (stage.Netlist net) place found = found
no_read (stage.Plain net) place found = found
no_read (stage.Cells lib) place found = found
no_read (stage.Plan Build net lib) place found = found.holds
no_read (stage.Plan Compact net lib) place found = found.holds
no_read (stage.Plan Draw net lib) place found = found.holds
no_read (stage.PlanWith net cells) place found = found.holds
no_read (stage.Stream gds) place found = found
no_read (stage.Size gds) place found = found
no_read (stage.Rules gds lib) place found = found
no_read (stage.Words gds lib text) place found = found
no_read (stage.Counts gds lib net) place found = found
no_read (stage.Comparison gds lib net) place found = found
no_read (stage.Numbers gds first second) place found = found

no_write : (s : Stage) (call : WriteCall) → Finds s (WriteFault call) → ⊥
no_write stage.Form call found = found
no_write (stage.Netlist net) call found = found
no_write (stage.Plain net) call found = found
no_write (stage.Cells lib) call found = found
no_write (stage.Plan Build net lib) call found = found.holds
no_write (stage.Plan Compact net lib) call found = found.holds
no_write (stage.Plan Draw net lib) call found = found.holds
no_write (stage.PlanWith net cells) call found = found.holds
no_write (stage.Stream gds) call found = found
no_write (stage.Size gds) call found = found
no_write (stage.Rules gds lib) call found = found
no_write (stage.Words gds lib text) call found = found
no_write (stage.Counts gds lib net) call found = found
no_write (stage.Comparison gds lib net) call found = found
no_write (stage.Numbers gds first second) call found = found

-- what the first stage finds is answered
pub found : (s : Stage) (stages : List Stage) (fault : Fault) → OrMemory (Finds s) fault
    → Answers (s ∷ stages) (Some fault)
found s stages Usage finds = inl finds
found s stages (Absent place) finds = inl finds
found s stages (TooLong place taken) finds = inl finds
found s stages (ReadFault place) finds = absurd (no_read s place finds)
found s stages (WriteFault call) finds = absurd (no_write s call finds)
found s stages (BadBlif fault) finds = inl finds
found s stages (BadDesign line kind) finds = inl finds
found s stages (BadLibrary fault) finds = inl finds
found s stages (MissingCell kind) finds = inl finds
found s stages (TooLarge what count) finds = inl (inl finds)
found s stages (BadStream offset kind) finds = inl finds
found s stages (RuleBroken rule first second) finds = inl finds
found s stages (BadWords line) finds = inl finds
found s stages (Widths a_inputs a_outputs b_inputs b_outputs) finds = inl finds
found s stages (NoShape number count) finds = inl finds
found s stages (NotCells line kind) finds = inl finds
found s stages Memory finds = tt
