-- The faults of each step of a command: what holds of each of its kinds holds of every fault of the step.
use Rattle.std.proofs.Common.{ℕ, ◌≡◌, ◌<◌, List, Result, Ok, Err, IfErr, sym, subst}
use Rattle.aqfp_top.specs.Loads.{Load, build_loads, write_loads, IsLoaded, IsPast}
use Rattle.aqfp_top.specs.Code.Designing.{IsDesignFault}
use Rattle.aqfp_top.specs.Code.Checking.{IsCircuitFault, IsJudgingFault}
use Rattle.aqfp_top.specs.Code.Comparing.{IsComparingFault}
use Rattle.aqfp_top.specs.Code.Writing.{IsReadingFault}
use Rattle.aqfp_top.specs.Code.Reporting.{IsLayoutFault, IsPrintingFault, IsShowingFault}
use Rattle.aqfp_top.specs.Code.Loading.{IsFaultOfLoad, IsFaultOfLoads}
use Rattle.aqfp_top.specs.Code.Building.{IsMakeFault, IsStoreFault, IsOutOrMemory}
use Rattle.aqfp_top.specs.declared.planner.Planner.{Planner}
use Rattle.aqfp_top.specs.declared.planner.Planner.TheVariants.{Draw}
use Rattle.aqfp_top.specs.declared.fault.WriteCall.TheVariants.{Create, Append, Close, Out}
use Rattle.aqfp_top.specs.declared.fault.Large.TheVariants.{Slots, Rows, Cells, Elements, Shapes, Functions, Design}
use Rattle.aqfp_top.specs.declared.fault.Fault.{Fault}
use Rattle.aqfp_top.specs.declared.fault.Fault.TheVariants.{Absent, TooLong, ReadFault, WriteFault, BadBlif, BadDesign}
use Rattle.aqfp_top.specs.declared.fault.Fault.TheVariants.{BadLibrary, MissingCell, TooLarge, BadStream, RuleBroken}
use Rattle.aqfp_top.specs.declared.fault.Fault.TheVariants.{BadWords, Widths, NoShape, NotCells, Memory}

-- a load
pub each_load : (P : Fault → Type 0) (place limit : ℕ) → P (Absent place)
    → ((taken : ℕ) → limit < taken → P (TooLong place taken)) → P (ReadFault place) → P Memory →
    (fault : Fault) → IsFaultOfLoad place limit fault → P fault
each_load P place limit absent long failed memory (Absent word) only = subst (λ w. P (Absent w)) (sym only) absent
each_load P place limit absent long failed memory (TooLong word taken) only = subst (λ w. P (TooLong w taken))
    (sym only.0) (long taken only.1)
each_load P place limit absent long failed memory (ReadFault word) only = subst (λ w. P (ReadFault w)) (sym only) failed
each_load P place limit absent long failed memory Memory only = memory
each_load P place limit absent long failed memory _ only = absurd only

-- some load
pub each_of_loads : (P : Fault → Type 0) (loads : List Load) → ((place : ℕ) → IsLoaded loads place → P (Absent place))
    → ((place taken : ℕ) → IsPast loads place taken → P (TooLong place taken))
    → ((place : ℕ) → IsLoaded loads place → P (ReadFault place)) → P Memory
    → (fault : Fault) → IsFaultOfLoads loads fault → P fault
each_of_loads P loads absent long failed memory (Absent place) only = absent place only
each_of_loads P loads absent long failed memory (TooLong place taken) only = long place taken only
each_of_loads P loads absent long failed memory (ReadFault place) only = failed place only
each_of_loads P loads absent long failed memory Memory only = memory
each_of_loads P loads absent long failed memory _ only = absurd only

-- the texts of a netlist and of a library
pub each_design : (planner : Planner) (P : Fault → Type 0) → ((fault : _) → P (BadBlif fault))
    → ((line : ℕ) (kind : _) → P (BadDesign line kind)) → ((fault : _) → P (BadLibrary fault))
    → ((kind : _) → P (MissingCell kind)) →
    ((count : ℕ) → P (TooLarge Slots count)) → ((count : ℕ) → P (TooLarge Rows count))
    → ((count : ℕ) → P (TooLarge Cells count)) → ((count : ℕ) → P (TooLarge Elements count))
    → ((count : ℕ) → P (TooLarge Design count))
    → ((line : ℕ) (kind : _) → planner ≡ Draw → P (NotCells line kind)) → P Memory →
    (fault : Fault) → IsDesignFault planner fault → P fault
each_design planner P blif design library missing slots rows cells elements size own memory
    (BadBlif fault) wrong = blif fault
each_design planner P blif design library missing slots rows cells elements size own memory
    (BadDesign line kind) wrong = design line kind
each_design planner P blif design library missing slots rows cells elements size own memory
    (BadLibrary fault) wrong = library fault
each_design planner P blif design library missing slots rows cells elements size own memory
    (MissingCell kind) wrong = missing kind
each_design planner P blif design library missing slots rows cells elements size own memory
    (TooLarge Slots count) wrong = slots count
each_design planner P blif design library missing slots rows cells elements size own memory
    (TooLarge Rows count) wrong = rows count
each_design planner P blif design library missing slots rows cells elements size own memory
    (TooLarge Cells count) wrong = cells count
each_design planner P blif design library missing slots rows cells elements size own memory
    (TooLarge Elements count) wrong = elements count
each_design planner P blif design library missing slots rows cells elements size own memory
    (TooLarge Shapes count) wrong = absurd wrong
each_design planner P blif design library missing slots rows cells elements size own memory
    (TooLarge Functions count) wrong = absurd wrong
each_design planner P blif design library missing slots rows cells elements size own memory
    (TooLarge Design count) wrong = size count
each_design planner P blif design library missing slots rows cells elements size own memory
    (NotCells line kind) wrong = own line kind wrong
each_design planner P blif design library missing slots rows cells elements size own memory Memory wrong = memory
each_design planner P blif design library missing slots rows cells elements size own memory _ wrong = absurd wrong

-- the texts of a layout and of a library
pub each_circuit : (P : Fault → Type 0) → ((offset : ℕ) (kind : _) → P (BadStream offset kind))
    → ((count : ℕ) → P (TooLarge Shapes count)) → ((fault : _) → P (BadLibrary fault))
    → ((kind : _) → P (MissingCell kind)) →
    ((rule : _) (first second : ℕ) → P (RuleBroken rule first second)) → P Memory → (fault : Fault)
    → IsCircuitFault fault → P fault
each_circuit P stream large library missing rules memory (BadStream offset kind) wrong = stream offset kind
each_circuit P stream large library missing rules memory (TooLarge Shapes count) wrong = large count
each_circuit P stream large library missing rules memory (BadLibrary fault) wrong = library fault
each_circuit P stream large library missing rules memory (MissingCell kind) wrong = missing kind
each_circuit P stream large library missing rules memory (RuleBroken rule first second) wrong = rules rule first second
each_circuit P stream large library missing rules memory Memory wrong = memory
each_circuit P stream large library missing rules memory _ wrong = absurd wrong

-- the texts of a layout, of a library and of a netlist
pub each_comparing : (P : Fault → Type 0) → ((fault : Fault) → IsCircuitFault fault → P fault)
    → ((fault : _) → P (BadBlif fault)) → ((line : ℕ) (kind : _) → P (BadDesign line kind))
    → ((count : ℕ) → P (TooLarge Design count)) → ((a b c d : ℕ) → P (Widths a b c d))
    → P (TooLarge Functions 1000001) →
    (fault : Fault) → IsComparingFault fault → P fault
each_comparing P circuit net design size widths many (BadStream offset kind) wrong = circuit (BadStream offset kind) tt
each_comparing P circuit net design size widths many (TooLarge Shapes count) wrong = circuit (TooLarge Shapes count) tt
each_comparing P circuit net design size widths many (TooLarge Functions count) wrong =
    subst (λ n. P (TooLarge Functions n)) (sym wrong) many
each_comparing P circuit net design size widths many (BadLibrary fault) wrong = circuit (BadLibrary fault) tt
each_comparing P circuit net design size widths many (MissingCell kind) wrong = circuit (MissingCell kind) tt
each_comparing P circuit net design size widths many (RuleBroken rule first second) wrong = circuit
    (RuleBroken rule first second) tt
each_comparing P circuit net design size widths many (BadBlif fault) wrong = net fault
each_comparing P circuit net design size widths many (BadDesign line kind) wrong = design line kind
each_comparing P circuit net design size widths many (TooLarge Design count) wrong = size count
each_comparing P circuit net design size widths many (Widths a b c d) wrong = widths a b c d
each_comparing P circuit net design size widths many Memory wrong = circuit Memory tt
each_comparing P circuit net design size widths many _ wrong = absurd wrong

-- the texts of a layout, of a library and of words
pub each_judging : (P : Fault → Type 0) → ((offset : ℕ) (kind : _) → P (BadStream offset kind))
    → ((count : ℕ) → P (TooLarge Shapes count)) → ((fault : _) → P (BadLibrary fault))
    → ((kind : _) → P (MissingCell kind)) →
    ((rule : _) (first second : ℕ) → P (RuleBroken rule first second)) → ((line : ℕ) → P (BadWords line)) → P Memory
    → (fault : Fault) → IsJudgingFault fault → P fault
each_judging P stream large library missing rules words memory (BadStream offset kind) wrong = stream offset kind
each_judging P stream large library missing rules words memory (TooLarge Shapes count) wrong = large count
each_judging P stream large library missing rules words memory (BadLibrary fault) wrong = library fault
each_judging P stream large library missing rules words memory (MissingCell kind) wrong = missing kind
each_judging P stream large library missing rules words memory
    (RuleBroken rule first second) wrong = rules rule first second
each_judging P stream large library missing rules words memory (BadWords line) wrong = words line
each_judging P stream large library missing rules words memory Memory wrong = memory
each_judging P stream large library missing rules words memory _ wrong = absurd wrong

-- all that comes before anything is stored
pub each_made : (planner : Planner) (P : Fault → Type 0) → ((place : ℕ) → IsLoaded build_loads place → P (Absent place))
    → ((place taken : ℕ) → IsPast build_loads place taken → P (TooLong place taken)) →
    ((place : ℕ) → IsLoaded build_loads place → P (ReadFault place)) → ((fault : _) → P (BadBlif fault))
    → ((line : ℕ) (kind : _) → P (BadDesign line kind)) → ((fault : _) → P (BadLibrary fault))
    → ((kind : _) → P (MissingCell kind)) →
    ((count : ℕ) → P (TooLarge Slots count)) → ((count : ℕ) → P (TooLarge Rows count))
    → ((count : ℕ) → P (TooLarge Cells count)) → ((count : ℕ) → P (TooLarge Elements count))
    → ((count : ℕ) → P (TooLarge Design count)) → ((line : ℕ) (kind : _) → planner ≡ Draw → P (NotCells line kind))
    → P Memory → (fault : Fault) → IsMakeFault planner fault → P fault
each_made planner P absent long failed blif design library missing slots rows cells elements size own memory
    (Absent place) only = absent place only
each_made planner P absent long failed blif design library missing slots rows cells elements size own memory
    (TooLong place taken) only = long place taken only
each_made planner P absent long failed blif design library missing slots rows cells elements size own memory
    (ReadFault place) only = failed place only
each_made planner P absent long failed blif design library missing slots rows cells elements size own memory
    (BadBlif fault) only = blif fault
each_made planner P absent long failed blif design library missing slots rows cells elements size own memory
    (BadDesign line kind) only = design line kind
each_made planner P absent long failed blif design library missing slots rows cells elements size own memory
    (TooLarge Design count) only = size count
each_made planner P absent long failed blif design library missing slots rows cells elements size own memory
    (BadLibrary fault) only = library fault
each_made planner P absent long failed blif design library missing slots rows cells elements size own memory
    (MissingCell kind) only = missing kind
each_made planner P absent long failed blif design library missing slots rows cells elements size own memory
    (TooLarge Slots count) only = slots count
each_made planner P absent long failed blif design library missing slots rows cells elements size own memory
    (TooLarge Rows count) only = rows count
each_made planner P absent long failed blif design library missing slots rows cells elements size own memory
    (TooLarge Cells count) only = cells count
each_made planner P absent long failed blif design library missing slots rows cells elements size own memory
    (TooLarge Elements count) only = elements count
each_made planner P absent long failed blif design library missing slots rows cells elements size own memory
    (NotCells line kind) only = own line kind only
each_made planner P absent long failed blif design library missing slots rows cells elements size own
    memory Memory only = memory
each_made planner P absent long failed blif design library missing slots rows cells elements size own
    memory _ only = absurd only

-- all that comes before a netlist is stored
pub each_reading : (P : Fault → Type 0) → ((place : ℕ) → IsLoaded write_loads place → P (Absent place))
    → ((place taken : ℕ) → IsPast write_loads place taken → P (TooLong place taken)) →
    ((place : ℕ) → IsLoaded write_loads place → P (ReadFault place))
    → ((fault : Fault) → IsCircuitFault fault → P fault) → (fault : Fault) → IsReadingFault fault → P fault
each_reading P absent long failed circuit (Absent place) only = absent place only
each_reading P absent long failed circuit (TooLong place taken) only = long place taken only
each_reading P absent long failed circuit (ReadFault place) only = failed place only
each_reading P absent long failed circuit (BadStream offset kind) only = circuit (BadStream offset kind) tt
each_reading P absent long failed circuit (TooLarge Shapes count) only = circuit (TooLarge Shapes count) tt
each_reading P absent long failed circuit (BadLibrary fault) only = circuit (BadLibrary fault) tt
each_reading P absent long failed circuit (MissingCell kind) only = circuit (MissingCell kind) tt
each_reading P absent long failed circuit (RuleBroken rule first second) only = circuit
    (RuleBroken rule first second) tt
each_reading P absent long failed circuit Memory only = circuit Memory tt
each_reading P absent long failed circuit _ only = absurd only

-- storing
pub each_store : (P : Fault → Type 0) → P (WriteFault Create) → P (WriteFault Append) → P (WriteFault Close) → P Memory
    → (fault : Fault) → IsStoreFault fault → P fault
each_store P create append close memory (WriteFault Create) only = create
each_store P create append close memory (WriteFault Append) only = append
each_store P create append close memory (WriteFault Close) only = close
each_store P create append close memory (WriteFault Out) only = absurd only
each_store P create append close memory Memory only = memory
each_store P create append close memory _ only = absurd only

-- printing
pub each_print : (P : Fault → Type 0) → P (WriteFault Out) → P Memory → (fault : Fault) → IsOutOrMemory fault → P fault
each_print P out memory (WriteFault Create) only = absurd only
each_print P out memory (WriteFault Append) only = absurd only
each_print P out memory (WriteFault Close) only = absurd only
each_print P out memory (WriteFault Out) only = out
each_print P out memory Memory only = memory
each_print P out memory _ only = absurd only

-- printing, which also may do its work
pub each_out : (P : Result (Unit {0}) Fault → Type 0) → P (Ok tt) → P (Err (WriteFault Out)) → P (Err Memory)
    → (result : Result (Unit {0}) Fault) → IfErr result IsOutOrMemory → P result
each_out P ok out memory (Ok x) only = ok
each_out P ok out memory (Err fault) only = each_print (λ f. P (Err f)) out memory fault only

-- the text of a layout
pub each_layout : (P : Fault → Type 0) → ((offset : ℕ) (kind : _) → P (BadStream offset kind))
    → ((count : ℕ) → P (TooLarge Shapes count)) → P Memory → (fault : Fault) → IsLayoutFault fault → P fault
each_layout P stream large memory (BadStream offset kind) wrong = stream offset kind
each_layout P stream large memory (TooLarge Shapes count) wrong = large count
each_layout P stream large memory Memory wrong = memory
each_layout P stream large memory _ wrong = absurd wrong

-- the texts of a layout and of a library, and printing
pub each_printing : (P : Fault → Type 0) → P (WriteFault Out) → ((fault : Fault) → IsCircuitFault fault → P fault)
    → (fault : Fault) → IsPrintingFault fault → P fault
each_printing P out circuit (WriteFault Create) wrong = absurd wrong
each_printing P out circuit (WriteFault Append) wrong = absurd wrong
each_printing P out circuit (WriteFault Close) wrong = absurd wrong
each_printing P out circuit (WriteFault Out) wrong = out
each_printing P out circuit (BadStream offset kind) wrong = circuit (BadStream offset kind) wrong
each_printing P out circuit (TooLarge Shapes count) wrong = circuit (TooLarge Shapes count) wrong
each_printing P out circuit (BadLibrary fault) wrong = circuit (BadLibrary fault) wrong
each_printing P out circuit (MissingCell kind) wrong = circuit (MissingCell kind) wrong
each_printing P out circuit (RuleBroken rule first second) wrong = circuit (RuleBroken rule first second) wrong
each_printing P out circuit Memory wrong = circuit Memory wrong
each_printing P out circuit _ wrong = absurd wrong

-- the text of a layout and the numbers of its shapes, and printing
pub each_showing : (P : Fault → Type 0) → P (WriteFault Out) → ((number count : ℕ) → P (NoShape number count))
    → ((fault : Fault) → IsLayoutFault fault → P fault) → (fault : Fault) → IsShowingFault fault → P fault
each_showing P out none layout (WriteFault Create) wrong = absurd wrong
each_showing P out none layout (WriteFault Append) wrong = absurd wrong
each_showing P out none layout (WriteFault Close) wrong = absurd wrong
each_showing P out none layout (WriteFault Out) wrong = out
each_showing P out none layout (NoShape number count) wrong = none number count
each_showing P out none layout (BadStream offset kind) wrong = layout (BadStream offset kind) wrong
each_showing P out none layout (TooLarge Shapes count) wrong = layout (TooLarge Shapes count) wrong
each_showing P out none layout Memory wrong = layout Memory wrong
each_showing P out none layout _ wrong = absurd wrong
