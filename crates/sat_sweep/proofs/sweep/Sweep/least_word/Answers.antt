use Rattle.sat_sweep.proofs.LeastWords.{if_least_resolved}
use Rattle.sat_sweep.proofs.sweep.Sweep.least_word.Goals as goal

pub returns : goal.returns
returns c =
    if_least_resolved c.least_or_none.result c.graph-graph.result.now c.args.merged.now c.args.one c.args.other
    c.resolved-one.result c.resolved-other.result c.graph-graph.ensures c.resolved-one.ensures
    c.resolved-other.ensures c.least_or_none.ensures
