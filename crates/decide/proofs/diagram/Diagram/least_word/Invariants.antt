use Rattle.decide.proofs.Searching.{IsSearch}
use Rattle.decide.proofs.diagram.Diagram.least_word.Given as goal

abbrev pub invariant-loop-input : goal.invariant-loop-input
invariant-loop-input l = IsSearch l.self.table.nodes.keys l.self.table.sound l.fn.first
    l.fn.second l.word l.f l.g l.input
