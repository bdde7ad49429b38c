-- What tells one kind of stream from another: its grammar, its table of records, the values that records must have, and
-- the conditions on the whole. What a stream and its first fault are is the same for each.
use Rattle.std.specs.Prelude.{◌≡◌, ◌⊎◌, ℕ, List, [], Bool, Option}
use Rattle.gds_records.specs.declared.fault.StreamKind.{StreamKind}
use Rattle.gds_records.specs.Language.{Language}
use Rattle.gds_records.specs.Records.{Record, trimmed}
use Rattle.gds_records.specs.Grammar.{stream, wide_stream}
use Rattle.gds_records.specs.declared.table.Entry.{Entry}
use Rattle.gds_records.specs.Table.{table, wide_table}
use Rattle.gds_records.specs.Values.{opener, is_structure_name, value_fault_in}
use Rattle.gds_records.specs.Whole.{whole_fault}
use Rattle.gds_records.specs.WideValues.{wide_opener, last_colrow, wide_fault_in}
use Rattle.gds_records.specs.WideWhole.{wide_whole_fault}

-- a kind of stream: its grammar, its table, and what its values and its whole have to be
pub record Profile : Type 0 where
  pub language : Language
  pub records : List Entry
  -- the record that opened the element, of some records and else this one
  pub opener : ℕ → List Record → ℕ
  -- what is wrong with a record's value: in an element that this record opened, behind this COLROW, where a structure's
  -- name is taken or not
  pub value_at : ℕ → List ℕ → Bool → Record → Option StreamKind
  pub whole_fault : List Record → Option (ℕ × StreamKind)

-- what is wrong with a record's value after the records before it
abbrev pub value_fault_of : Profile → List Record → Record → Option StreamKind
value_fault_of p before r =
    p.value_at (p.opener 0 before) (last_colrow [] before) (is_structure_name (trimmed r.content) before) r

-- what is written here: boundaries that are rectangles, and references to one depth
abbrev pub strict : Profile
strict = record {
  language = stream;
  records = table;
  opener = opener;
  value_at = λ element colrow. value_fault_in element;
  whole_fault = whole_fault;
}

-- what other tools write, by right angles
abbrev pub wide : Profile
wide = record {
  language = wide_stream;
  records = wide_table;
  opener = wide_opener;
  value_at = wide_fault_in;
  whole_fault = wide_whole_fault;
}

-- one of the two
abbrev pub IsProfile : Profile → Type 0
IsProfile p = (p ≡ strict) ⊎ (p ≡ wide)
