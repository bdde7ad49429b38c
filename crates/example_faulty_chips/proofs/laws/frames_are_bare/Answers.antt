use Rattle.example_faulty_chips.proofs.GeometryJudged.{overhanging_wire, wider_wire, covering_metal, nearly_beside_metal}
use Rattle.example_faulty_chips.proofs.GeometryJudged.{beside_metal}
use Rattle.example_faulty_chips.proofs.laws.frames_are_bare.Goals as goal

pub returns-clause-wire : goal.returns-clause-wire
returns-clause-wire c = overhanging_wire

pub returns-clause-wider : goal.returns-clause-wider
returns-clause-wider c = wider_wire

pub returns-clause-over : goal.returns-clause-over
returns-clause-over c = covering_metal

pub returns-clause-nearly : goal.returns-clause-nearly
returns-clause-nearly c = nearly_beside_metal

pub returns-clause-beside : goal.returns-clause-beside
returns-clause-beside c = beside_metal
