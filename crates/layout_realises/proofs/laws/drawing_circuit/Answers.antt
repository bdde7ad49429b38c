use Rattle.layout_realises.proofs.DrawnKeeps.{drawn_as}
use Rattle.layout_realises.proofs.laws.drawing_circuit.Goals as goal

pub returns : goal.returns
returns c p l nets may are = drawn_as p l c.tracks_are_fewest.ensures.plan may nets are
