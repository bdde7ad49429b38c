-- Labels of cells: which literal of the graph each shows, from the labels of its sources. A test computes, row by row
-- and cell by cell, whether they fit.
use Rattle.std.specs.Prelude.{ℕ, ◌+◌, ◌*◌, ◌-◌, ◌/◌, ◌%◌, ◌==◌, Bool, true, false, ◌&&◌, ◌||◌, cond, ltb, List, [], ◌∷◌}
use Rattle.std.specs.Prelude.{Option, Some, None, slice_get, slice_index_or}
use Rattle.circuit.specs.declared.cell_kind.CellKind.{CellKind}
use Rattle.circuit.specs.declared.cell_kind.CellKind.TheVariants.{Buffer, Inverter, Zero, One, Split2, Split3, Majority}
use Rattle.rowed.specs.declared.source.Source.{Source}
use Rattle.rowed.specs.declared.row_cell.RowCell.{RowCell}
use Rattle.mig.specs.declared.node.Node.{Node}
use Rattle.mig.specs.Graphs.{GraphView, turned}

-- the label of a source; that of the constant false without a source
abbrev pub label_of : List ℕ → Option Source → ℕ
label_of below None = 0
label_of below (Some s) = slice_index_or below s.cell 0

-- three literals are these, in this order, and those of a node in some order
abbrev pub are : ℕ → ℕ → ℕ → ℕ → ℕ → ℕ → Bool
are x y z a b c = (a == x) && (b == y) && (c == z)

abbrev pub is_order : Node → ℕ → ℕ → ℕ → Bool
is_order node a b c =
    are node.x node.y node.z a b c || are node.x node.z node.y a b c || are node.y node.x node.z a b c
    || are node.y node.z node.x a b c || are node.z node.x node.y a b c || are node.z node.y node.x a b c

-- the majority of this number among all nodes
abbrev pub node_at : GraphView → ℕ → Option Node
node_at g number = cond (ltb number (1 + g.inputs)) None (slice_get g.nodes (number - (1 + g.inputs)))

-- a majority of these labels shows the literal of a node, or its complement
abbrev pub is_order_at : Option Node → Bool → ℕ → ℕ → ℕ → Bool
is_order_at None even a b c = false
is_order_at (Some node) even a b c =
    cond even (is_order node a b c) (is_order node (turned a) (turned b) (turned c))

abbrev pub is_majority : GraphView → ℕ → ℕ → ℕ → ℕ → Bool
is_majority g label a b c = is_order_at (node_at g (label / 2)) (label % 2 == 0) a b c

-- a cell of this kind shows the label, where its sources have the labels a, b and c
abbrev pub kind_shows : GraphView → ℕ → CellKind → ℕ → ℕ → ℕ → Bool
kind_shows g label Buffer a b c = label == a
kind_shows g label Inverter a b c = label == turned a
kind_shows g label Zero a b c = label == 0
kind_shows g label One a b c = label == 1
kind_shows g label Split2 a b c = label == a
kind_shows g label Split3 a b c = label == a
kind_shows g label Majority a b c = is_majority g label a b c

-- so does a cell, where the input that it shows comes first
abbrev pub shows_input : GraphView → ℕ → Option ℕ → Bool → Bool
shows_input g label (Some i) other = ltb i g.inputs && (label == 2 * (1 + i))
shows_input g label None other = other

abbrev pub shows : GraphView → List ℕ → RowCell → ℕ → Bool
shows g below cell label =
    shows_input g label cell.input
    (kind_shows g label cell.kind (label_of below cell.source0) (label_of below cell.source1)
    (label_of below cell.source2))

-- the label is the literal of the output that is shown
abbrev pub is_label : ℕ → Option ℕ → Bool
is_label label None = false
is_label label (Some literal) = literal == label

abbrev pub is_shown : GraphView → Option ℕ → ℕ → Bool
is_shown g None label = true
is_shown g (Some k) label = is_label label (slice_get g.outputs k)

-- the cell shows its label, and the label is that of its output
abbrev pub fits : GraphView → List ℕ → ℕ → RowCell → Bool
fits g below label cell = shows g below cell label && is_shown g cell.output label

-- so it is in a row, with a label for each cell
abbrev pub row_fits : GraphView → List ℕ → List RowCell → List ℕ → Bool
row_fits g below [] [] = true
row_fits g below [] (label ∷ labels) = false
row_fits g below (cell ∷ cells) [] = false
row_fits g below (cell ∷ cells) (label ∷ labels) = fits g below label cell && row_fits g below cells labels

-- and in rows, the first of which stands over a row with the labels `below`
abbrev pub rows_fit_from : GraphView → List ℕ → List (List RowCell) → List (List ℕ) → Bool
rows_fit_from g below [] [] = true
rows_fit_from g below [] (labels ∷ more) = false
rows_fit_from g below (row ∷ rows) [] = false
rows_fit_from g below (row ∷ rows) (labels ∷ more) = row_fits g below row labels && rows_fit_from g labels rows more

abbrev pub rows_fit : GraphView → List (List RowCell) → List (List ℕ) → Bool
rows_fit g rows labels = rows_fit_from g [] rows labels
