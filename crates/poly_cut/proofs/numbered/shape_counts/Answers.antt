use Rattle.std.proofs.Common.{rules}
use Rattle.poly_cut.proofs.Finding.{shapes_told}
use Rattle.poly_cut.proofs.numbered.shape_counts.Goals as goal

pub returns : goal.returns
returns c = search (rules, shapes_told)
