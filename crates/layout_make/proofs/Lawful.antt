-- What the drawing uses of a library: how its sizes compare, and where the pins of the kinds that it gives stand.
use Rattle.std.specs.Prelude.{◌≡◌, ℕ, ◌+◌, ◌*◌, ◌<◌, ◌≤◌, ◌%◌}
use Rattle.circuit.specs.CellKinds.{inputs_of, outputs_of}
use Rattle.circuit.specs.declared.cell_kind.CellKind.{CellKind}
use Rattle.cell_library.specs.Library.{LibraryView, IsGiven, input_column_of, output_column_of}

-- the laws of a library, in the words of a drawing
pub record IsLawful (l : LibraryView) : Type 0 where
  pub space_some : 1 ≤ l.space
  pub via_some : 1 ≤ l.via
  pub columns_some : 1 ≤ l.columns
  pub wire_even : l.wire % 2 ≡ 0
  pub via_even : l.via % 2 ≡ 0
  pub pin_even : l.pin % 2 ≡ 0
  pub pitch_even : l.pitch % 2 ≡ 0
  pub columns_even : l.columns % 2 ≡ 0
  pub encloses : l.via + 2 * l.enclose ≤ l.wire
  pub spaced : l.wire + l.space ≤ l.pitch
  pub tall : 2 * l.pin + l.space ≤ l.height
  pub pin_wide : l.wire ≤ l.pin
  pub input_least : (k : CellKind) (i : ℕ) → IsGiven l k → i < inputs_of k → i * l.columns ≤ input_column_of l k i
  pub input_most : (k : CellKind) (i : ℕ) → IsGiven l k → i < inputs_of k → input_column_of l k i < (i + 1) * l.columns
  pub output_least : (k : CellKind) (i : ℕ) → IsGiven l k → i < outputs_of k → i * l.columns ≤ output_column_of l k i
  pub output_most : (k : CellKind) (i : ℕ) → IsGiven l k → i < outputs_of k
      → output_column_of l k i < (i + 1) * l.columns
  pub input_odd : (k : CellKind) (i : ℕ) → IsGiven l k → i < inputs_of k → input_column_of l k i % 2 ≡ 1
  pub output_even : (k : CellKind) (i : ℕ) → IsGiven l k → i < outputs_of k → output_column_of l k i % 2 ≡ 0
