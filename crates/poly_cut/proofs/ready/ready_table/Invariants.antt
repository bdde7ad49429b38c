use Rattle.std.proofs.Common.{◌≡◌, length}
use Rattle.poly_cut.specs.Code.Readied.{IsTable}
use Rattle.poly_cut.proofs.ready.ready_table.Given as goal

abbrev pub invariant-loop-number : goal.invariant-loop-number
invariant-loop-number l = record {
  size : length l.table.items ≡ l.number;
  kept : IsTable l.structures l.table.items;
}
