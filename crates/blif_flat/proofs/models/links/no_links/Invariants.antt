use Rattle.std.proofs.Common.{◌≡◌, [], replicate}
use Rattle.blif_flat.proofs.models.links.no_links.Given as goal

abbrev pub invariant-loop-number : goal.invariant-loop-number
invariant-loop-number l = l.table ≡ replicate l._number []
