use Rattle.cell_rows.proofs.tabled_cells.TabledCells.row_at.Goals as goal

pub returns : goal.returns
returns c = rw c.as_slice.ensures at c.level_at.ensures
