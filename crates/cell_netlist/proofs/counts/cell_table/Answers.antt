use Rattle.std.proofs.Common.{◌∙◌}
use Rattle.cell_netlist.proofs.Gated.{signals_few}
use Rattle.cell_netlist.proofs.counts.cell_table.Goals as goal

pub counts-requires : goal.counts-requires
counts-requires c =
    signals_few c.args.net.now _ _ c.known.ensures (c.deref.ensures.value ∙ c.in_ok-signals.ensures)
    (c.as_slice-defs.ensures ∙ c.defs.ensures)
