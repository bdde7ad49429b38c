-- Loading the file that a word names.
use Rattle.std.specs.Prelude.{ℕ, ◌≡◌, ◌<◌, List}
use Rattle.aqfp_top.specs.Loads.{Load, IsLoaded, IsPast}
use Rattle.aqfp_top.specs.declared.fault.Fault.{Fault}
use Rattle.aqfp_top.specs.declared.fault.Fault.TheVariants.{Absent, TooLong, ReadFault, Memory}

-- the faults of a load of the word at a place; one for length saw more bytes than the limit
abbrev pub IsFaultOfLoad : ℕ → ℕ → Fault → Type 0
IsFaultOfLoad place limit (Absent word) = word ≡ place
IsFaultOfLoad place limit (TooLong word taken) = (word ≡ place) × (limit < taken)
IsFaultOfLoad place limit (ReadFault word) = word ≡ place
IsFaultOfLoad place limit Memory = Unit {0}
IsFaultOfLoad place limit _ = ⊥

-- the faults of some of these loads
abbrev pub IsFaultOfLoads : List Load → Fault → Type 0
IsFaultOfLoads loads (Absent place) = IsLoaded loads place
IsFaultOfLoads loads (TooLong place taken) = IsPast loads place taken
IsFaultOfLoads loads (ReadFault place) = IsLoaded loads place
IsFaultOfLoads loads Memory = Unit {0}
IsFaultOfLoads loads _ = ⊥
