-- Streams, and their layouts (GDSII Stream Format manual).
use Rattle.std.specs.Prelude.{◌≡◌, ℕ, List, true, None}
use Rattle.geom.specs.declared.layout.Layout.{Layout}
use Rattle.poly_cut.specs.declared.layout.WideLayout.{WideLayout}
use Rattle.gds_records.specs.Records.{Record}
use Rattle.gds_records.specs.Drawing.{structures_of}
use Rattle.gds_records.specs.WideDrawing.{wide_structures_of}
use Rattle.gds_records.specs.Whole.{top_of}
use Rattle.gds_records.specs.Profiles.{strict, wide}
use Rattle.gds_records.specs.Profiled.{IsGoodIn, AreGoodIn, IsReadIn}
pub use Rattle.gds_records.specs.Profiled.{are_zero}

-- ---- strict streams

-- good in a strict stream, after the records before
abbrev pub IsGood : List Record → Record → Type 0
IsGood = IsGoodIn strict

-- each is good in a strict stream, after what stands before it
abbrev pub AreGood : List Record → List Record → Type 0
AreGood = AreGoodIn strict

-- the bytes are these records, a strict sentence of good ones, and then the rest
abbrev pub IsRead : List ℕ → List Record → List ℕ → Type 0
IsRead = IsReadIn strict

-- the layout that the records of a strict stream say
abbrev pub layout_of : List Record → Layout
layout_of rs = record { structures = structures_of rs; top = top_of rs }

-- the rest is zeros, the conditions on the whole hold, and the layout is what the records say
pub record IsStream (bytes : List ℕ) (layout : Layout) : Type 0 where
  pub records : List Record
  pub rest : List ℕ
  pub read : IsRead bytes records rest
  pub zeros : are_zero rest ≡ true
  pub conditions : strict.whole_fault records ≡ None
  pub says : layout ≡ layout_of records

-- ---- wide streams

-- the layout that the records of a wide stream say
abbrev pub wide_layout_of : List Record → WideLayout
wide_layout_of rs = record { structures = wide_structures_of rs; top = top_of rs }

-- as for a strict stream, with the grammar, values and conditions of wide ones
pub record IsWideStream (bytes : List ℕ) (layout : WideLayout) : Type 0 where
  pub records : List Record
  pub rest : List ℕ
  pub read : IsReadIn wide bytes records rest
  pub zeros : are_zero rest ≡ true
  pub conditions : wide.whole_fault records ≡ None
  pub says : layout ≡ wide_layout_of records
