use Rattle.std.proofs.Common.{◌≡◌, drop}
use Rattle.std.specs.Prelude.{nat_lt}
use Rattle.std.specs.List.{list_any}
use Rattle.cell_netlist.proofs.names.reads_input.Given as goal

abbrev pub invariant-loop-signal : goal.invariant-loop-signal
invariant-loop-signal l =
    list_any (λ s. nat_lt s l.net.inputs) (drop l.signal-index l.def.inputs)
    ≡ list_any (λ s. nat_lt s l.net.inputs) l.def.inputs
