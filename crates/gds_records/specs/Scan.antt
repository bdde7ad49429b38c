-- The first fault, found record by record.
use Rattle.std.specs.Prelude.{ℕ, suc, List, [], length, Option}
use Rattle.geom.specs.declared.layout.Layout.{Layout}
use Rattle.poly_cut.specs.declared.layout.WideLayout.{WideLayout}
use Rattle.gds_records.specs.declared.fault.StreamKind.{StreamKind}
use Rattle.gds_records.specs.Records.{Record}
use Rattle.gds_records.specs.Profiles.{strict, wide}
use Rattle.gds_records.specs.Stream.{layout_of, wide_layout_of}
use Rattle.gds_records.specs.Profiled.{scan_in, first_fault_in}
pub use Rattle.gds_records.specs.Profiled.{IsBytes, alive, fault_of, Scanned, Faulty, Whole, Unfinished, records_in}

-- the records of a strict stream from here on, up to the first fault
abbrev pub scan : ℕ → List Record → List ℕ → Scanned
scan = scan_in strict

-- the offset and the kind of the first fault of bytes as a strict stream, if there is one
abbrev pub first_fault : List ℕ → Option (ℕ × StreamKind)
first_fault = first_fault_in strict

-- the layout of the records that a scan of a strict stream finds
abbrev pub layout_in : List ℕ → Layout
layout_in bytes = layout_of (records_in (scan (suc (length bytes)) [] bytes))

-- the layout of the records that a scan of a wide stream finds
abbrev pub wide_layout_in : List ℕ → WideLayout
wide_layout_in bytes = wide_layout_of (records_in (scan_in wide (suc (length bytes)) [] bytes))
