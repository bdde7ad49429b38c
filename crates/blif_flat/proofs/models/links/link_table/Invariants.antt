use Rattle.std.proofs.Common.{reverse, take}
use Rattle.blif_flat.specs.Code.Linked.{HasLinks}
use Rattle.blif_flat.proofs.models.links.link_table.Given as goal

abbrev pub invariant-loop-number : goal.invariant-loop-number
invariant-loop-number l = HasLinks l.models (reverse (take l.number-index l.order)) l.table
