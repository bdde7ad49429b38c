use Rattle.blif_read.proofs.Said.{said_keeps}
use Rattle.blif_read.proofs.laws.each_netlist.Goals as goal

pub returns : goal.returns
returns c = said_keeps
