use Rattle.example_faulty_chips.proofs.GeometryJudged.{close_metal, nearly_spaced_metal, spaced_metal}
use Rattle.example_faulty_chips.proofs.laws.metal_keeps_its_distance.Goals as goal

pub returns-clause-close : goal.returns-clause-close
returns-clause-close c = close_metal

pub returns-clause-nearly : goal.returns-clause-nearly
returns-clause-nearly c = nearly_spaced_metal

pub returns-clause-apart : goal.returns-clause-apart
returns-clause-apart c = spaced_metal
