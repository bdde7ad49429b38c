use Rattle.std.proofs.Common.{ap, ◌∙◌}
use Rattle.cell_library.specs.LibraryA.{library_a_view}
use Rattle.rowed.specs.PlacedNets.{PlacedView}
use Rattle.layout_make.specs.Draw.{draw}
use Rattle.example_first_chip.proofs.Realised.{realised}
use Rattle.example_first_chip.proofs.laws.first_chip_realises.Goals as goal

pub returns-clause-layout : goal.returns-clause-layout
returns-clause-layout c =
    ap (λ (p : PlacedView). draw p library_a_view) c.wire_is_planned.ensures.chip ∙ c.worked_chips.ensures.first

pub returns-clause-bytes : goal.returns-clause-bytes
returns-clause-bytes c = c.first_chip_is_stream.ensures.bytes

pub returns-clause-realises : goal.returns-clause-realises
returns-clause-realises c = realised (record {
  flat = c.first_chip_flat.ensures;
  writable = c.first_chip_is_writable.ensures;
  bytes = c.first_chip_is_stream.ensures.bytes;
  rules = c.first_chip_keeps_rules.ensures;
  keeps = c.first_circuit_keeps.ensures;
  extracted = c.first_chip_extracted.ensures.circuit;
  by_clocks = c.every_clock.ensures.shows;
})
