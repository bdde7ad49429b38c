-- What the pass of the mapping gives.
use Rattle.std.specs.Prelude.{◌≡◌, length}
use Rattle.blif_read.specs.Parts.{NetView}
use Rattle.blif_read.specs.Netlist.{IsNetlist}
use Rattle.blif_read.specs.Equations.{IsAnswer as IsNetlistAnswer}
use Rattle.circuit.specs.PlainNets.{PlainView, IsPlainNet, IsAnswer}
use Rattle.circuit.specs.SameAnswers.{SameAnswers}
use Rattle.maj_mapping.specs.Plan.{map_net}

-- this is the plan of the netlist, which answers every word as the netlist does
pub record IsMappedNet (net : NetView) (out : PlainView) : Type 0 where
  pub net_keeps : IsNetlist net
  pub gates_keep : IsPlainNet out
  pub is_plan : out ≡ map_net net
  pub same : SameAnswers net.inputs out.inputs (length net.outputs) (length out.outputs)
      (IsNetlistAnswer net) (IsAnswer out)
