-- What reading bytes as a wide stream answers.
use Rattle.std.specs.Prelude.{◌≡◌, ℕ, ◌<◌, List}
use Rattle.geom.specs.FlatForm.{shape_limit}
use Rattle.poly_cut.specs.declared.layout.WideLayout.{WideLayout}
use Rattle.poly_cut.specs.Conditions.{IsFlattenable}
use Rattle.poly_cut.specs.Counts.{wide_count, told}
use Rattle.gds_records.specs.Stream.{IsWideStream}
use Rattle.gds_records.specs.Faults.{WideFault}
use Rattle.gds_read.specs.declared.refusal.StreamRefusal.{StreamRefusal}
use Rattle.gds_read.specs.declared.refusal.StreamRefusal.TheVariants.{Bad, TooManyShapes, Memory}

-- the bytes are a wide stream of this layout, whose flat form is of a size that is taken
pub record IsWideReadAs (bytes : List ℕ) (layout : WideLayout) : Type 0 where
  pub stream : IsWideStream bytes layout
  pub flattenable : IsFlattenable layout

-- the bytes are a wide stream of a layout whose flat form has too many shapes and labels: this many, as 64 bits tell it
pub record IsWideTooLarge (bytes : List ℕ) (count : ℕ) : Type 0 where
  pub layout : WideLayout
  pub stream : IsWideStream bytes layout
  pub count_is : count ≡ told (wide_count layout)
  pub above : shape_limit < count

-- why the bytes are not read: their first fault, their size, or want of memory
abbrev pub IsWideRefusedFor : List ℕ → StreamRefusal → Type 0
IsWideRefusedFor bytes (Bad offset kind) = WideFault bytes offset kind
IsWideRefusedFor bytes (TooManyShapes count) = IsWideTooLarge bytes count
IsWideRefusedFor bytes Memory = Unit {0}
