use Rattle.cell_netlist.proofs.OneFault.{first_fault_one, cells_no_fault, last_one}
use Rattle.cell_netlist.proofs.laws.one_first_fault.Goals as goal

pub returns : goal.returns
returns c = record { fault = first_fault_one; none = cells_no_fault; last = last_one }
