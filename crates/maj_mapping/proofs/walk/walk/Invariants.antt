use Rattle.maj_mapping.specs.Code.Walks.{walk, mapping}
use Rattle.maj_mapping.proofs.Walking.{Walking, turns_left}
use Rattle.maj_mapping.proofs.walk.walk.Given as goal

abbrev pub invariant-loop-visit : goal.invariant-loop-visit
invariant-loop-visit l = Walking l.net
    (walk l.net (mapping l.fn.maker l.fn.gate_of) l.root) l.maker l.gate_of l.stack.items

abbrev pub decreases-loop-visit : goal.decreases-loop-visit
decreases-loop-visit l = turns_left l.net (mapping l.maker l.gate_of) l.stack.items
