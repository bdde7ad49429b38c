use Rattle.std.proofs.Common.{◌≡◌, map, take}
use Rattle.gds_records.specs.Drawing.{place_of}
use Rattle.gds_read.specs.Code.Outlining.{names_in}
use Rattle.gds_read.proofs.graph.targets.Given as goal

abbrev pub invariant-loop-item : goal.invariant-loop-item
invariant-loop-item l = l.found ≡ map (λ u. place_of u.name.now (names_in l.structures)) (take l.item-index l.uses)
