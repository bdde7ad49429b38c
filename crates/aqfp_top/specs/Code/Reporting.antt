-- The words of the steps of a report and of naming shapes.
use Rattle.std.specs.Prelude.{ℕ, ◌≡◌, ◌≤◌, List}
use Rattle.geom.specs.declared.shapes.Flat.{Flat}
use Rattle.geom.specs.FlatForm.{flat_count}
use Rattle.poly_cut.specs.declared.numbered.Drawn.{Drawn}
use Rattle.poly_cut.specs.declared.numbered.Drawn.TheVariants.{Shape, Label}
use Rattle.text_report.specs.ShapeLines.{box_line, label_line}
use Rattle.aqfp_top.specs.Shown.{IsNoShape}
use Rattle.aqfp_top.specs.Code.Checking.{IsCircuitFault}
use Rattle.aqfp_top.specs.declared.fault.Large.TheVariants.{Shapes}
use Rattle.aqfp_top.specs.declared.fault.WriteCall.TheVariants.{Out}
use Rattle.aqfp_top.specs.declared.fault.Fault.{Fault}
use Rattle.aqfp_top.specs.declared.fault.Fault.TheVariants.{WriteFault, TooLarge, BadStream, NoShape, Memory}

-- the faults of judging a layout and a library, and of printing
abbrev pub IsPrintingFault : Fault → Type 0
IsPrintingFault (WriteFault Out) = Unit {0}
IsPrintingFault fault = IsCircuitFault fault

-- the faults of judging a layout
abbrev pub IsLayoutFault : Fault → Type 0
IsLayoutFault (BadStream offset kind) = Unit {0}
IsLayoutFault (TooLarge Shapes count) = Unit {0}
IsLayoutFault Memory = Unit {0}
IsLayoutFault _ = ⊥

-- the line of a shape or label of this number
abbrev pub drawn_line : ℕ → Drawn → List ℕ
drawn_line number (Shape s) = box_line number s
drawn_line number (Label l) = label_line number l

-- there are so many shapes and labels, and none of the number that was asked for
pub record IsUnfound (flat : Flat) (asked number count : ℕ) : Type 0 where
  pub number_is : number ≡ asked
  pub count_is : count ≡ flat_count flat
  pub past : count ≤ asked

-- the faults of finding a shape or label of a flat form by its number
abbrev pub IsUnfoundFault : Flat → ℕ → Fault → Type 0
IsUnfoundFault flat asked (NoShape number count) = IsUnfound flat asked number count
IsUnfoundFault flat asked Memory = Unit {0}
IsUnfoundFault flat asked _ = ⊥

-- the faults of naming shapes of a flat form by two numbers, and of printing them
abbrev pub IsNamingFault : Flat → ℕ → ℕ → Fault → Type 0
IsNamingFault flat first second (NoShape number count) = IsNoShape flat first second number count
IsNamingFault flat first second (WriteFault Out) = Unit {0}
IsNamingFault flat first second Memory = Unit {0}
IsNamingFault flat first second _ = ⊥

-- the faults of judging a layout, of naming its shapes, and of printing
abbrev pub IsShowingFault : Fault → Type 0
IsShowingFault (NoShape number count) = Unit {0}
IsShowingFault (WriteFault Out) = Unit {0}
IsShowingFault fault = IsLayoutFault fault
