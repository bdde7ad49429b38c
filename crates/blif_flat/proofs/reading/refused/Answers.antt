use Rattle.blif_flat.proofs.Building.{refuses, refuses_memory}
use Rattle.blif_flat.proofs.reading.refused.Goals as goal

pub returns-in-Bad : goal.returns-in-Bad
returns-in-Bad c = λ text h. refuses text c.args.refusal h c.in-Bad.fault c.in-Bad.is

pub returns-in-Memory : goal.returns-in-Memory
returns-in-Memory c = λ text h. refuses_memory text
