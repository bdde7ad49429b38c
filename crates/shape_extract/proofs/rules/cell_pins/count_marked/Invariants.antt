use Rattle.std.proofs.Common.{◌≡◌, ◌≤◌, take}
use Rattle.std.specs.Prelude.{count_by}
use Rattle.shape_extract.specs.Code.Cells.{is_marked_at}
use Rattle.shape_extract.proofs.rules.cell_pins.count_marked.Given as goal

abbrev pub invariant-loop-number : goal.invariant-loop-number
invariant-loop-number l =
    record {
      counted : l.count ≡ count_by (is_marked_at l.shapes l.layer l.datatype)
          (take l.number-index l.numbers);
      few : l.count ≤ l.number-index;
    }
