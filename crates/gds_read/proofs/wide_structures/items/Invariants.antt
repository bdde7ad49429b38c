use Rattle.std.proofs.Common.{◌≡◌, ◌≤◌, ◌-◌, ◌++◌, map, take, drop, length}
use Rattle.gds_records.specs.Drawing.{element_parts}
use Rattle.gds_records.specs.WideDrawing.{item_of}
use Rattle.gds_read.specs.Code.Decoding.{IsSpelled, records_in}
use Rattle.gds_read.specs.Code.Outlining.{names_in}
use Rattle.gds_read.proofs.Parts.{left_parts}
use Rattle.gds_read.proofs.wide_structures.items.Given as goal

abbrev pub invariant-records : goal.invariant-records
invariant-records l = record {
  within : l.size ≤ length l.part;
  passed : IsSpelled (take l.size l.part);
  left : IsSpelled (drop l.size l.part);
  same : l.items ++ map (item_of (names_in l.structures)) (left_parts l.part l.size) ≡ map
      (item_of (names_in l.structures)) (element_parts (records_in l.bytes));
}

abbrev pub decreases-records : goal.decreases-records
decreases-records l = length l.part - l.size
