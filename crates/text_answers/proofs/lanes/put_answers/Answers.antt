use Rattle.std.proofs.Common.{map, get_or, ap, ◌∙◌}
use Rattle.std.proofs.lemmas.List.{take_all}
use Rattle.text_answers.specs.Code.Lanes.{in_lane}
use Rattle.text_answers.proofs.InLanes.{shown_lane}
use Rattle.text_answers.proofs.lanes.put_answers.Goals as goal

pub returns : goal.returns
returns c = λ l.
    ap (in_lane l) (c.loop-source.invariant
    ∙ ap (map (λ source. get_or c.args.values.now source.cell 0))
    (take_all c.loop-source.source-index c.args.outputs.now c.loop-source-test.false))
    ∙ shown_lane l c.args.values.now c.args.outputs.now
