use Rattle.cell_netlist.proofs.tabled_net.TabledNet.is_name.Goals as goal

pub returns : goal.returns
returns c = c.is_name.ensures c.args.self.now.three
