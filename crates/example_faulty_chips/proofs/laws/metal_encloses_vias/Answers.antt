use Rattle.example_faulty_chips.proofs.GeometryJudged.{bare_via, enclosed_via}
use Rattle.example_faulty_chips.proofs.laws.metal_encloses_vias.Goals as goal

pub returns-clause-moved : goal.returns-clause-moved
returns-clause-moved c = bare_via

pub returns-clause-enclosed : goal.returns-clause-enclosed
returns-clause-enclosed c = enclosed_via
