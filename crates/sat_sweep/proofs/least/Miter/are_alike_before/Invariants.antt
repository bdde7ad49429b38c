use Rattle.sat_sweep.proofs.LeastWords.{IsLeastSoFar}
use Rattle.sat_sweep.proofs.least.Miter.are_alike_before.Given as goal

abbrev pub invariant-loop-input : goal.invariant-loop-input
invariant-loop-input l = IsLeastSoFar l.self.graph.now l.word l.first.items l.self.one l.self.other l.input
