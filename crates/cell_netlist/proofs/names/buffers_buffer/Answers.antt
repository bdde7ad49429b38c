use Rattle.std.proofs.Common.{◌∙◌, sym, ap, Some}
use Rattle.cell_netlist.specs.Uses.{is_buffer, is_buffer_of_buffer, with_gates}
use Rattle.circuit.specs.declared.gate.Gate.{Gate}
use Rattle.cell_netlist.proofs.names.buffers_buffer.Goals as goal

pub returns-in-Buf : goal.returns-in-Buf
returns-in-Buf c three =
    c.is_buffer.ensures ∙ ap is_buffer (c.gate_of.ensures three)
    ∙ ap (λ (g : Gate). is_buffer_of_buffer (with_gates c.args.net.now c.args.table.now.gates.items three) (Some g))
    (sym c.in-Buf.is)
