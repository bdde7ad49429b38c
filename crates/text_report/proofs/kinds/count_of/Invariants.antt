use Rattle.std.proofs.Common.{◌≡◌, ◌≤◌, take}
use Rattle.text_report.specs.Kinds.{count_of}
use Rattle.text_report.proofs.kinds.count_of.Given as goal

abbrev pub invariant-loop-cell : goal.invariant-loop-cell
invariant-loop-cell l = record {
  counted : l.count ≡ count_of l.kind (take l.cell-index l.cells);
  few : l.count ≤ l.cell-index;
}
