use Rattle.std.proofs.Common.{◌≡◌, take}
use Rattle.gds_read.specs.Code.Outlining.{names_in}
use Rattle.gds_read.specs.Code.Graphs.{graph_by}
use Rattle.gds_read.proofs.graph.graph.Given as goal

abbrev pub invariant-loop-outline : goal.invariant-loop-outline
invariant-loop-outline l = l.graph ≡ graph_by (names_in l.structures) (take l.outline-index l.structures)
