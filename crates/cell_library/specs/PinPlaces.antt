-- Where the pins of a library's cells stand: what the laws on pins say of their columns.
use Rattle.std.specs.Prelude.{ℕ, ◌≡◌, ◌<◌, ◌≤◌, ◌+◌, ◌*◌, ◌%◌}
use Rattle.circuit.specs.declared.cell_kind.CellKind.{CellKind}
use Rattle.circuit.specs.CellKinds.{inputs_of, outputs_of}
use Rattle.cell_library.specs.Library.{LibraryView, IsGiven, input_column_of, output_column_of}

-- each pin stands in its own slot of the cell, inputs in odd columns and outputs in even ones
pub record PlacesPins (l : LibraryView) : Type 0 where
  pub input_least : (kind : CellKind) (pin : ℕ) → IsGiven l kind → pin < inputs_of kind
      → pin * l.columns ≤ input_column_of l kind pin
  pub input_most : (kind : CellKind) (pin : ℕ) → IsGiven l kind → pin < inputs_of kind
      → input_column_of l kind pin < (pin + 1) * l.columns
  pub input_odd : (kind : CellKind) (pin : ℕ) → IsGiven l kind → pin < inputs_of kind
      → input_column_of l kind pin % 2 ≡ 1
  pub output_least : (kind : CellKind) (pin : ℕ) → IsGiven l kind → pin < outputs_of kind
      → pin * l.columns ≤ output_column_of l kind pin
  pub output_most : (kind : CellKind) (pin : ℕ) → IsGiven l kind → pin < outputs_of kind
      → output_column_of l kind pin < (pin + 1) * l.columns
  pub output_even : (kind : CellKind) (pin : ℕ) → IsGiven l kind → pin < outputs_of kind
      → output_column_of l kind pin % 2 ≡ 0
