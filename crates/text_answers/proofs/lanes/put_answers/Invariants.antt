use Rattle.std.proofs.Common.{◌≡◌, map, take, get_or}
use Rattle.text_answers.proofs.lanes.put_answers.Given as goal

abbrev pub invariant-loop-source : goal.invariant-loop-source
invariant-loop-source l = l.answers.items ≡ map (λ source. get_or l.values source.cell 0)
    (take l.source-index l.outputs)
