use Rattle.std.proofs.Common.{◌≡◌, None, replicate}
use Rattle.blif_flat.proofs.models.joins.no_ports.Given as goal

abbrev pub invariant-loop-place : goal.invariant-loop-place
invariant-loop-place l = l.ports.items ≡ replicate l._place None
