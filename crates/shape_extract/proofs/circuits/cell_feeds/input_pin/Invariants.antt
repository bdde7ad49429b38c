use Rattle.layout_rules.specs.declared.layers.TheConstants.{INPUT_PIN}
use Rattle.shape_extract.proofs.CellFeeds.{NoneIs}
use Rattle.shape_extract.proofs.circuits.cell_feeds.input_pin.Given as goal

abbrev pub invariant-loop-pin : goal.invariant-loop-pin
invariant-loop-pin l = NoneIs l.fn.tables.flat.now.shapes l.pins INPUT_PIN l.number l.pin-index
