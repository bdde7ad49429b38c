-- What the bytes of a drawing are: a chip of the placed net, with as many rows, cells and wires, and within the sizes
-- of chips that can be read back.
use Rattle.std.specs.Prelude.{◌≡◌, ℕ, ◌-◌, ◌<◌, ◌≤◌, length}
use Rattle.cell_library.specs.Library.{LibraryView, limits_of}
use Rattle.gds_records.specs.Writing.{bytes_of}
use Rattle.geom.specs.FlatForm.{flat_of, flat_count, shape_limit}
use Rattle.rowed.specs.PlacedNets.{PlacedView}
use Rattle.rowed.specs.RowNets.{IsAnswer}
use Rattle.rowed.specs.Counts.{cells_in, wires_in}
use Rattle.circuit_extracted.specs.Circuits.{CircuitView, KeepsFacts}
use Rattle.layout_make.specs.Draw.{draw}
use Rattle.layout_realises.specs.Realises.{Realises}

-- bytes of a drawing, which are fewer
abbrev pub most_bytes : ℕ
most_bytes = 130000000

-- the bytes of the drawing realise the placed net, and its circuit is one of the net's size
pub record RealisesNet (p : PlacedView) (l : LibraryView) : Type 0 where
  pub circuit : CircuitView
  pub realises : Realises (bytes_of (draw p l)) (limits_of l) p.net.inputs p.net.outputs (IsAnswer p.net)
      circuit (circuit.rows - 1)
  pub keeps : KeepsFacts circuit
  pub rows : circuit.rows ≡ length p.net.rows
  pub cells : length circuit.cells ≡ cells_in p.net.rows
  pub wires : circuit.wires ≡ wires_in p.net.rows
  pub small : flat_count (flat_of (draw p l)) ≤ shape_limit
  pub short : length (bytes_of (draw p l)) < most_bytes
