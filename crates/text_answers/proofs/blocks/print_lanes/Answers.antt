use Rattle.std.proofs.lemmas.Result.{err_from_is_err_and}
use Rattle.text_answers.specs.Code.Lanes.{in_lane}
use Rattle.text_answers.proofs.InBlocks.{lines_more, lines_refused}
use Rattle.text_answers.proofs.blocks.print_lanes.Goals as goal

pub returns-in_err-print_lane-clause-refused : goal.returns-in_err-print_lane-clause-refused
returns-in_err-print_lane-clause-refused g c =
    let p = err_from_is_err_and c.from_residual.result c.from_residual.ensures.1 in
    rw (p.1, p.2) (lines_refused (λ l. in_lane l c.args.numbers.now) c.loop-lane.lane c.args.count _ _ _ _ _ _
    c.loop-lane-test.true c.loop-lane.invariant c.in_err-print_lane.ensures.refused)

pub loop-lane-preserved : goal.loop-lane-preserved
loop-lane-preserved g c =
    lines_more (λ l. in_lane l c.args.numbers.now) c.loop-lane.lane _ _ _ _ _ _ c.loop-lane.invariant
    c.in_ok-print_lane.ensures.put
