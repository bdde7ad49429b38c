use Rattle.example_faulty_chips.proofs.GeometryJudged.{overlapping_frames, nearly_touching_frames, uneven_frames}
use Rattle.example_faulty_chips.proofs.GeometryJudged.{touching_frames}
use Rattle.example_faulty_chips.proofs.laws.frames_stand_apart.Goals as goal

pub returns-clause-overlapping : goal.returns-clause-overlapping
returns-clause-overlapping c = overlapping_frames

pub returns-clause-nearly : goal.returns-clause-nearly
returns-clause-nearly c = nearly_touching_frames

pub returns-clause-uneven : goal.returns-clause-uneven
returns-clause-uneven c = uneven_frames

pub returns-clause-touching : goal.returns-clause-touching
returns-clause-touching c = touching_frames
