use Rattle.std.proofs.Common.{◌≡◌, map, drop}
use Rattle.gds_records.specs.Whole.{all_uses, tops}
use Rattle.gds_read.specs.Code.Outlining.{outline_of}
use Rattle.gds_read.specs.Code.Tops.{told_tops, further_tops}
use Rattle.gds_read.proofs.conditions.find_tops.Given as goal

abbrev pub invariant-loop-number : goal.invariant-loop-number
invariant-loop-number l =
    further_tops l.first (tops l.number (all_uses (map outline_of l.structures))
    (map outline_of (drop l.number l.structures))) ≡ told_tops
    (tops 0 (all_uses (map outline_of l.structures)) (map outline_of l.structures))
