use Rattle.layout_realises.proofs.Realised.{realises_net}
use Rattle.layout_realises.proofs.laws.drawn_chip_realises.Goals as goal

pub returns : goal.returns
returns c = record {
  chip = λ p l may few. realises_net p l (record {
    tracks = c.tracks_are_fewest.ensures.plan;
    rules = c.drawing_laws.ensures.rules p l may;
    cells = c.drawing_laws.ensures.cells p l may;
    size = c.drawing_laws.ensures.size p l may.placed;
    writable = c.drawing_laws.ensures.writable p l may;
    keeps = c.extracted_keeps.ensures;
    answers = c.one_answer.ensures.some;
    by_clocks = c.every_clock.ensures.shows;
  }) may few;
}
