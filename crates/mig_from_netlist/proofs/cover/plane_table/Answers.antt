use Rattle.std.proofs.Common.{ap, ◌&&◌}
use Rattle.mig_from_netlist.specs.Code.Covers.{plane_at}
use Rattle.truth_tables.proofs.Bits.{holds_all}
use Rattle.mig_from_netlist.proofs.cover.plane_table.Goals as goal

pub loop-place-init : goal.loop-place-init
loop-place-init c = λ i lt. ap (λ t. t && plane_at c.args.plane.now 0 i) (holds_all i lt)
