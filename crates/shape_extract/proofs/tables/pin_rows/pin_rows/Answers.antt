use Rattle.std.proofs.Common.{◌≡◌, [], ◌∷◌, ◌++◌}
use Rattle.shape_extract.proofs.RowPins.{rows_more, rows_all}
use Rattle.shape_extract.proofs.tables.pin_rows.pin_rows.Goals as goal

pub loop-p-preserved : goal.loop-p-preserved
loop-p-preserved c =
    let longer : c.push.new.self.items ≡ c.loop-p.rows.items ++ (c.row_or_zero.result ∷ []) =
    c.in_ok-push.ensures.items in
    rw longer (rows_more _ _ _ _ c.loop-p.invariant c.row_or_zero.ensures)

pub returns : goal.returns
returns c = rows_all _ _ _ c.loop-p-test.false c.loop-p.auto.p-end c.loop-p.invariant
