use Rattle.std.proofs.Common.{rules}
use Rattle.poly_cut.proofs.Finding.{labels_told}
use Rattle.poly_cut.proofs.numbered.label_counts.Goals as goal

pub returns : goal.returns
returns c = search (rules, labels_told)
