use Rattle.std.proofs.Common.{◌∙◌, ap, ℕ, length, false}
use Rattle.std.specs.Prelude.{replicate}
use Rattle.cell_netlist.specs.Uses.{with_gates}
use Rattle.cell_netlist.proofs.Ended.{start_from}
use Rattle.cell_netlist.proofs.cells.cell_levels.Goals as goal

pub judged-requires-clause-start : goal.judged-requires-clause-start
judged-requires-clause-start c =
    start_from (with_gates c.args.net.now c.in_ok-table.table.gates.items c.args.three) _ _ c.len.result
    (c.len.ensures ∙ ap length c.defs.ensures) c.in_ok-heights.ensures.count c.in_ok-heights.ensures.free
    (c.deref_mut.ensures.value ∙ c.in_ok-taken.ensures ∙ ap (λ (n : ℕ). replicate n false) c.input_count.ensures.count)
