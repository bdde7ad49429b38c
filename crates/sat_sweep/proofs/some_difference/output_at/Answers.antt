use Rattle.sat_sweep.proofs.some_difference.output_at.Goals as goal

pub gate_values-requires : goal.gate_values-requires
gate_values-requires c = (c.one.inside.inputs, rw c.as_slice.ensures c.one.invariant.gates_read)

pub gate_values-requires-2 : goal.gate_values-requires-2
gate_values-requires-2 c = (c.other.inside.inputs, rw c.as_slice-3.ensures c.other.invariant.gates_read)
