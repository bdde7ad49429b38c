-- What a buffer of bytes has after some were put behind it.
use Rattle.std.specs.Prelude.{◌≡◌, ℕ, List, [], ◌∷◌, ◌++◌}
use Rattle.gds_records.specs.declared.codes.TheConstants.{BOUNDARY, LAYER, DATATYPE, XY, ENDEL}
use Rattle.gds_records.specs.declared.codes.TheConstants.{NO_DATA, TWO_BYTE_INTEGER, FOUR_BYTE_INTEGER}
use Rattle.gds_records.specs.Records.{Record, record_with}
use Rattle.gds_records.specs.Writing.{two_bytes}

-- the bytes afterwards are those before and these
pub record Gains (before after bytes : List ℕ) : Type 0 where
  pub whole : after ≡ before ++ bytes

-- the records of a boundary with this content of its XY
abbrev pub boundary_records : ℕ → ℕ → List ℕ → List Record
boundary_records layer datatype corners =
    record_with BOUNDARY NO_DATA []
    ∷ record_with LAYER TWO_BYTE_INTEGER (two_bytes layer)
    ∷ record_with DATATYPE TWO_BYTE_INTEGER (two_bytes datatype)
    ∷ record_with XY FOUR_BYTE_INTEGER corners
    ∷ record_with ENDEL NO_DATA []
    ∷ []
