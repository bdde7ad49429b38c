use Rattle.std.proofs.Common.{arith}
use Rattle.geom.proofs.Finding.{rows_more, rows_all}
use Rattle.geom.proofs.index.buckets.list_in.Goals as goal

pub loop-row-preserved : goal.loop-row-preserved
loop-row-preserved c =
    rows_more _ _ _ c.window-window.result _ _ c.loop-row.row _ _ _ c.window-window.ensures c.requires.order
    c.requires.long (omega (arith, c.window-window.ensures.high_within)) c.loop-row.invariant
    (rw (c.cell_in.ensures.value, c.cell_in-in-loop-row.ensures.value) at c.in_ok-list_among.ensures)

pub returns : goal.returns
returns c = rows_all _ _ _ _ _ _ _ _ _ c.window-window.ensures (omega arith) c.loop-row.invariant
