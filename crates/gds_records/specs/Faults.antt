-- The first fault of bytes that are no stream: where it is, and of which kind.
use Rattle.std.specs.Prelude.{ℕ, List}
use Rattle.geom.specs.declared.layout.Layout.{Layout}
use Rattle.gds_records.specs.declared.fault.StreamKind.{StreamKind}
use Rattle.gds_records.specs.Profiles.{strict, wide}
use Rattle.gds_records.specs.Profiled.{IsFirstFaultIn}
use Rattle.gds_records.specs.Stream.{IsStream}
pub use Rattle.gds_records.specs.Profiled.{length_of, kind_of, form_of, here_record, first_of_six, zeros_before}
pub use Rattle.gds_records.specs.Profiled.{own, order, value}
pub use Rattle.gds_records.specs.Profiled.{at_record, at_end}

-- the first fault of bytes that are no strict stream
abbrev pub StreamFault : List ℕ → ℕ → StreamKind → Type 0
StreamFault = IsFirstFaultIn strict

-- the first fault of bytes that are no wide stream
abbrev pub WideFault : List ℕ → ℕ → StreamKind → Type 0
WideFault = IsFirstFaultIn wide

-- a stream of some layout, or a first fault
pub data IsStreamOrFaulty (bytes : List ℕ) : Type 0 where
  a_stream : (layout : Layout) → IsStream bytes layout → IsStreamOrFaulty bytes
  a_fault : (offset : ℕ) (kind : StreamKind) → StreamFault bytes offset kind → IsStreamOrFaulty bytes
