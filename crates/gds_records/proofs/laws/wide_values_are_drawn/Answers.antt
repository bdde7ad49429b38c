use Rattle.gds_records.proofs.WideFigures.{ring_so, path_so, grid_so}
use Rattle.gds_records.proofs.laws.wide_values_are_drawn.Goals as goal

pub returns-clause-ring : goal.returns-clause-ring
returns-clause-ring c = ring_so

pub returns-clause-path : goal.returns-clause-path
returns-clause-path c = path_so

pub returns-clause-grid : goal.returns-clause-grid
returns-clause-grid c = grid_so
