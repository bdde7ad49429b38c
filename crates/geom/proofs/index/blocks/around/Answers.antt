use Rattle.std.proofs.Common.{rules}
use Rattle.std.proofs.lemmas.Int.{to_z-of_z}
use Rattle.geom.proofs.index.blocks.around.Goals as goal

pub invariant_of-result : goal.invariant_of-result
invariant_of-result c = search (rules, to_z-of_z)

pub returns-clause-first : goal.returns-clause-first
returns-clause-first c = search (rules, to_z-of_z)

pub returns-clause-second : goal.returns-clause-second
returns-clause-second c = search (rules, to_z-of_z)
