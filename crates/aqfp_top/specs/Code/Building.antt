-- The faults of the steps of a build: making the chip, storing and printing.
use Rattle.aqfp_top.specs.Faults.{IsBuildFault}
use Rattle.aqfp_top.specs.declared.planner.Planner.{Planner}
use Rattle.aqfp_top.specs.declared.fault.WriteCall.TheVariants.{Create, Append, Close, Out}
use Rattle.aqfp_top.specs.declared.fault.Fault.{Fault}
use Rattle.aqfp_top.specs.declared.fault.Fault.TheVariants.{WriteFault, Memory}

-- the faults of a build before anything is stored
abbrev pub IsMakeFault : Planner → Fault → Type 0
IsMakeFault planner (WriteFault call) = ⊥
IsMakeFault planner fault = IsBuildFault planner fault

-- the faults of printing
abbrev pub IsOutOrMemory : Fault → Type 0
IsOutOrMemory (WriteFault Out) = Unit {0}
IsOutOrMemory Memory = Unit {0}
IsOutOrMemory _ = ⊥

-- the faults of storing a file
abbrev pub IsStoreFault : Fault → Type 0
IsStoreFault (WriteFault Create) = Unit {0}
IsStoreFault (WriteFault Append) = Unit {0}
IsStoreFault (WriteFault Close) = Unit {0}
IsStoreFault Memory = Unit {0}
IsStoreFault _ = ⊥
