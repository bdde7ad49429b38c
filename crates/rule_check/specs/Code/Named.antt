-- Reports among some shapes of a layout, by the numbers of these shapes.
use Rattle.std.specs.Prelude.{ℕ, ◌<◌, List, Option, Some, None, slice_index}
use Rattle.shape_extract.specs.declared.search.Report.{Report}

-- both numbers of the report, if there is one, are below this one
abbrev pub HasPlaces : ℕ → Option Report → Type 0
HasPlaces n None = Unit {0}
HasPlaces n (Some r) = (r.first < n) × (r.second < n)

-- the report with the numbers that its two shapes have in the whole layout
abbrev pub named : List ℕ → Option Report → Option Report
named numbers None = None
named numbers (Some r) = Some (record { first = slice_index numbers r.first; second = slice_index numbers r.second })
