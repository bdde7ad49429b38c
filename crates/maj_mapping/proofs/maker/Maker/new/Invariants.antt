use Rattle.maj_mapping.proofs.Beginning.{Begins}
use Rattle.maj_mapping.proofs.maker.Maker.new.Given as goal

abbrev pub invariant-loop-input : goal.invariant-loop-input
invariant-loop-input l = Begins l.inputs l.input l.maker
