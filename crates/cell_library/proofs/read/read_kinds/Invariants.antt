use Rattle.std.proofs.Common.{◌≡◌, map, take, drop}
use Rattle.toml.specs.View.{table_view}
use Rattle.cell_library.specs.Kinds.{all_kinds}
use Rattle.cell_library.specs.Faults.{first_some, kind_fault, kinds_fault}
use Rattle.cell_library.specs.Says.{pins_under}
use Rattle.cell_library.proofs.read.read_kinds.Given as goal

abbrev pub invariant-loop-kind : goal.invariant-loop-kind
invariant-loop-kind l = record {
  read : l.all.items ≡ map (pins_under (table_view l.table)) (take l.kind-index all_kinds);
  faultless : kinds_fault (table_view l.table) ≡ first_some
      (map (kind_fault (table_view l.table)) (drop l.kind-index all_kinds));
}
