-- The sizes of nets and layouts: how many gates there are, how many rows and how many cells in all of them, or how many
-- elements the top structure has.
use Rattle.std.specs.Prelude.{length}
use Rattle.std.specs.List.{sum_by}
use Rattle.circuit.specs.PlainNets.{PlainView}
use Rattle.rowed.specs.RowNets.{RowView}
use Rattle.rowed.specs.PlacedNets.{PlacedView}
use Rattle.bench_plans.specs.declared.size.Size.{Size}
use Rattle.geom.specs.declared.layout.Layout.{Layout}
use Rattle.geom.specs.FlatForm.{elements_at}
use Rattle.bench_plans.specs.declared.size.Size.TheVariants.{Gates, Rows, Elements}

-- the size of a netlist: how many gates it has
abbrev pub gates_size : PlainView → Size
gates_size net = Gates (length net.gates)

-- the size of a net in rows: how many rows, and how many cells in all of them
abbrev pub rows_size : RowView → Size
rows_size net = Rows (length net.rows) (sum_by length net.rows)

-- the size of a placed net, which is that of its rows
abbrev pub placed_size : PlacedView → Size
placed_size placed = rows_size placed.net

-- the size of a layout: how many elements its top structure has, a reference counted as one
abbrev pub layout_size : Layout → Size
layout_size layout = Elements (length (elements_at layout.structures layout.top))
