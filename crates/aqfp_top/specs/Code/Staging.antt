-- What a step that judges a text may answer.
use Rattle.aqfp_top.specs.declared.fault.Fault.{Fault}
use Rattle.aqfp_top.specs.declared.fault.Fault.TheVariants.{Memory}

-- a fault of this kind, or want of memory
abbrev pub OrMemory : (Fault → Type 0) → Fault → Type 0
OrMemory IsFault Memory = Unit {0}
OrMemory IsFault fault = IsFault fault
