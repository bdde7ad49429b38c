use Rattle.std.proofs.Common.{◌≡◌, ◌≤◌, ◌*◌, take}
use Rattle.text_report.specs.Kinds.{junction_count}
use Rattle.text_report.proofs.kinds.count_junctions.Given as goal

abbrev pub invariant-loop-cell : goal.invariant-loop-cell
invariant-loop-cell l = record {
  summed : l.junctions ≡ junction_count (take l.cell-index l.cells);
  few : l.junctions ≤ 6 * l.cell-index;
}
