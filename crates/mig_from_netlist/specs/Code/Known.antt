-- Tables that have their literals.
use Rattle.std.specs.Prelude.{◌≡◌, ℕ, ◌<◌, Bool, List, map, Some, slice_get}
use Rattle.std.specs.List.{AllByRecursion}
use Rattle.mig.specs.Graphs.{literal_value}
use Rattle.mig.specs.Building.{BuilderView, Gives, limit}
use Rattle.truth_tables.specs.Tables.{holds, index}
use Rattle.mig_from_netlist.specs.declared.decompose.Known.{Known}

-- the value of a table whose inputs are these literals
abbrev pub value_at : ℕ → List ℕ → (ℕ → Bool) → Bool
value_at table inputs v = holds table (index (map (literal_value v) inputs))

-- each table's literal has its value
pub record AreKnown (b : BuilderView) (inputs : List ℕ) (memo : List Known) : Type 0 where
  pub each : (k : ℕ) (known : Known) → slice_get memo k ≡ Some known
      → Gives b known.literal (value_at known.table inputs)
