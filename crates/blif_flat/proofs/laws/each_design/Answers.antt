use Rattle.blif_flat.proofs.SaidNets.{one_net, memory_alone, net_keeps}
use Rattle.blif_flat.proofs.laws.each_design.Goals as goal

pub returns : goal.returns
returns c = record { one_netlist = one_net; not_both = memory_alone; keeps = net_keeps }
