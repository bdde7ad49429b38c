use Rattle.layout_rules.proofs.WaysAdd.{comes_first, comes_next, one_way}
use Rattle.layout_rules.proofs.laws.ways_add_up.Goals as goal

pub returns-clause-first : goal.returns-clause-first
returns-clause-first c = comes_first

pub returns-clause-next : goal.returns-clause-next
returns-clause-next c = λ shapes a b after distance lines cut comes next.
    comes_next shapes lines cut a b after distance comes next

pub returns-clause-once : goal.returns-clause-once
returns-clause-once c = λ shapes a b before distance other lines cut first second.
    one_way shapes lines cut a before b distance other first second
