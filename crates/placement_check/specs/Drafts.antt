-- Drafts that are placed nets with the answers of a graph.
use Rattle.std.specs.Prelude.{◌≡◌, ℕ, true, List, length}
use Rattle.rowed.specs.declared.row_cell.RowCell.{RowCell}
use Rattle.rowed.specs.RowNets.{RowView, IsRowNet}
use Rattle.rowed.specs.Slots.{EachSeated}
use Rattle.mig.specs.Graphs.{GraphView}
use Rattle.placement_check.specs.Labels.{rows_fit}

-- the net of these rows that has the counts of a graph
abbrev pub net_of : GraphView → List (List RowCell) → RowView
net_of g rows = record { inputs = g.inputs; outputs = length g.outputs; rows = rows }

-- the rows are those of a net with the counts of the graph, and seated, and each label is the literal that its cell
-- shows
pub record IsSound (g : GraphView) (rows : List (List RowCell)) (labels slots : List (List ℕ)) : Type 0 where
  pub net : IsRowNet (net_of g rows)
  pub seated : EachSeated rows slots
  pub labelled : rows_fit g rows labels ≡ true
