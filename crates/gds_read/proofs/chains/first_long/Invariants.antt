use Rattle.std.proofs.Common.{◌≡◌, map, drop}
use Rattle.gds_records.specs.WideWhole.{first_long}
use Rattle.gds_read.specs.Code.Outlining.{outline_of}
use Rattle.gds_read.proofs.chains.first_long.Given as goal

abbrev pub invariant-loop-outline : goal.invariant-loop-outline
invariant-loop-outline l = first_long (map outline_of l.structures)
    (map outline_of (drop l.outline-index l.structures)) ≡ first_long (map outline_of l.structures)
    (map outline_of l.structures)
