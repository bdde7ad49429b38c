use Rattle.std.proofs.Common.{◌≡◌, map, drop}
use Rattle.gds_records.specs.Whole.{all_uses}
use Rattle.gds_read.specs.Code.Numbering.{number_in, unnumbered}
use Rattle.gds_read.specs.Code.Outlining.{outline_of}
use Rattle.gds_read.proofs.conditions.first_unknown.Given as goal

abbrev pub invariant-loop-outline : goal.invariant-loop-outline
invariant-loop-outline l = unnumbered (number_in l.numbers.entries)
    (all_uses (map outline_of (drop l.outline-index l.structures))) ≡ unnumbered (number_in l.numbers.entries)
    (all_uses (map outline_of l.structures))
