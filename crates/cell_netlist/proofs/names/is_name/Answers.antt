use Rattle.std.proofs.Common.{◌∙◌}
use Rattle.cell_netlist.specs.Uses.{with_gates}
use Rattle.cell_netlist.proofs.Gated.{read_is, name_is}
use Rattle.cell_netlist.proofs.names.is_name.Goals as goal

pub returns : goal.returns
returns c three =
    c.all_three.ensures
    ∙ name_is (with_gates c.args.net.now c.args.table.now.gates.items three) c.args.signal _ _ _ _
    (c.is_buffer_of_buffer-buffers.ensures three) (c.gate_of.ensures three)
    (read_is _ _ _ _ _ _ c.requires.table.shown_are c.requires.signal c.index.ensures)
    (read_is _ _ _ _ _ _ c.requires.table.used_are c.requires.signal c.index-2.ensures)
