use Rattle.std.proofs.Common.{◌≡◌, map, drop}
use Rattle.gds_read.specs.Code.Numbering.{number_in, unnumbered}
use Rattle.gds_read.specs.Code.Outlining.{use_of}
use Rattle.gds_read.proofs.conditions.unknown_in.Given as goal

abbrev pub invariant-loop-item : goal.invariant-loop-item
invariant-loop-item l = unnumbered (number_in l.numbers.entries) (map use_of (drop l.item-index l.uses)) ≡ unnumbered
    (number_in l.numbers.entries) (map use_of l.uses)
