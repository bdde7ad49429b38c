use Rattle.std.proofs.Common.{◌≡◌, take}
use Rattle.blif_read.specs.Code.Seen.{texts}
use Rattle.blif_flat.specs.Code.Joins.{actuals_in}
use Rattle.blif_flat.proofs.models.links.actuals_of.Given as goal

abbrev pub invariant-loop-port : goal.invariant-loop-port
invariant-loop-port l = texts l.names.items ≡ actuals_in l.call (take l.port-index l.port-items)
