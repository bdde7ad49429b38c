use Rattle.example_faulty_chips.proofs.GeometryJudged.{long_wire, short_wire}
use Rattle.example_faulty_chips.proofs.laws.wires_are_short.Goals as goal

pub returns-clause-long : goal.returns-clause-long
returns-clause-long c = long_wire

pub returns-clause-short : goal.returns-clause-short
returns-clause-short c = short_wire
