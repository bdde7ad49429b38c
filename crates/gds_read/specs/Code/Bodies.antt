-- The records of a stream, as a front part of its bytes.
use Rattle.std.specs.Prelude.{◌≡◌, ℕ, ◌<◌, ◌≤◌, List, take, drop, length, true, Some}
use Rattle.geom.specs.FlatForm.{shape_limit}
use Rattle.poly_cut.specs.declared.layout.WideLayout.{WideLayout}
use Rattle.poly_cut.specs.Counts.{wide_count, told}
use Rattle.gds_records.specs.Records.{Record}
use Rattle.gds_records.specs.Profiles.{wide}
use Rattle.gds_records.specs.Profiled.{IsReadIn, IsFirstFaultIn, are_zero}
use Rattle.gds_records.specs.WideWhole.{wide_whole_fault}
use Rattle.gds_read.specs.Code.Decoding.{IsSpelled, records_in}
use Rattle.gds_read.specs.declared.refusal.StreamRefusal.{StreamRefusal}
use Rattle.gds_read.specs.declared.refusal.StreamRefusal.TheVariants.{Bad, TooManyShapes, Memory}

-- so many bytes are a sentence of good records, and zeros follow
pub record IsBody (bytes : List ℕ) (end : ℕ) : Type 0 where
  pub within : end ≤ length bytes
  pub whole : IsSpelled (take end bytes)
  pub read : IsReadIn wide bytes (records_in (take end bytes)) (drop end bytes)
  pub zeros : are_zero (drop end bytes) ≡ true

-- why bytes have no such records: a first fault, or want of memory
abbrev pub IsFirstRefusal : List ℕ → StreamRefusal → Type 0
IsFirstRefusal bytes (Bad offset kind) = IsFirstFaultIn wide bytes offset kind
IsFirstRefusal bytes (TooManyShapes count) = ⊥
IsFirstRefusal bytes Memory = Unit {0}

-- why records make no layout: a fault of the whole stream, or want of memory
abbrev pub IsWholeRefusal : List Record → StreamRefusal → Type 0
IsWholeRefusal rs (Bad offset kind) = wide_whole_fault rs ≡ Some (offset, kind)
IsWholeRefusal rs (TooManyShapes count) = ⊥
IsWholeRefusal rs Memory = Unit {0}

-- why a layout is not taken: its size, or want of memory
abbrev pub IsOversize : WideLayout → StreamRefusal → Type 0
IsOversize layout (Bad offset kind) = ⊥
IsOversize layout (TooManyShapes count) = (count ≡ told (wide_count layout)) × (shape_limit < count)
IsOversize layout Memory = Unit {0}
