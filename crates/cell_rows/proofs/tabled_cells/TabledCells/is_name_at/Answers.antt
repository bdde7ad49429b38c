use Rattle.cell_rows.proofs.tabled_cells.TabledCells.is_name_at.Goals as goal

pub returns : goal.returns
returns c = rw c.input_count.ensures.count at (c.is_name.ensures c.args.self.now.three)
