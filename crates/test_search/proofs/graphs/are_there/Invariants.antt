use Rattle.std.proofs.Common.{◌<◌, drop}
use Rattle.std.specs.List.{AllByRecursion}
use Rattle.mig.specs.Building.{limit}
use Rattle.test_search.proofs.graphs.are_there.Given as goal

abbrev pub invariant-loop-output : goal.invariant-loop-output
invariant-loop-output l =
    AllByRecursion (λ m. m < limit l.builder) (drop l.output-index l.outputs)
    → AllByRecursion (λ m. m < limit l.builder) l.outputs
