-- The record at the front of bytes, by the tests of the codes and of the length.
use Rattle.std.specs.Prelude.{◌≡◌, ℕ, ◌≤◌, List, length, true, false, Option}
use Rattle.gds_records.specs.declared.fault.StreamKind.{StreamKind}
use Rattle.gds_records.specs.Table.{wide_table, known_in, has_form_in, has_length_in}
use Rattle.gds_records.specs.Profiled.{length_of, kind_of, first_of_six}

-- the last three of the faults that a record may have by itself
abbrev pub code_fault : ℕ → ℕ → ℕ → Option StreamKind
code_fault kind form length =
    first_of_six false false false (known_in wide_table kind) (has_form_in wide_table kind form)
    (has_length_in wide_table kind length)

-- a head, and as many bytes as it says
pub record IsWhole (bytes : List ℕ) : Type 0 where
  pub head : 4 ≤ length bytes
  pub least : 4 ≤ length_of bytes
  pub enough : length_of bytes ≤ length bytes
  pub long : has_length_in wide_table (kind_of bytes) (length_of bytes) ≡ true
