use Rattle.aqfp_top.proofs.OneStream.{one_layout, not_both}
use Rattle.aqfp_top.proofs.Judging.{is_layout_of, too_large, size_answers}
use Rattle.aqfp_top.proofs.OneCheck.{stream_none, size_none}
use Rattle.aqfp_top.proofs.reading.read_layout.Goals as goal

pub returns-in-Ok-clause-layout : goal.returns-in-Ok-clause-layout
returns-in-Ok-clause-layout c = is_layout_of c.count_is_exact.ensures c.args.gds.now _ c.in-Ok.ensures.ok

pub returns-in-Ok-clause-flattenable : goal.returns-in-Ok-clause-flattenable
returns-in-Ok-clause-flattenable c = c.in-Ok.ensures.ok.flattenable

pub returns-in-Ok-clause-stream : goal.returns-in-Ok-clause-stream
returns-in-Ok-clause-stream c =
    stream_none (not_both c.one_wide_reading.ensures.no_fault c.one_wide_reading.ensures.one_fault) c.args.gds.now _
    c.in-Ok.ensures.ok.stream

pub returns-in-Ok-clause-size : goal.returns-in-Ok-clause-size
returns-in-Ok-clause-size c =
    size_none (one_layout c.one_wide_reading.ensures.layout) c.count_is_exact.ensures c.args.gds.now _
    (is_layout_of c.count_is_exact.ensures c.args.gds.now _ c.in-Ok.ensures.ok)

pub returns-in-Err-TooManyShapes-clause-bad : goal.returns-in-Err-TooManyShapes-clause-bad
returns-in-Err-TooManyShapes-clause-bad c =
    size_answers (not_both c.one_wide_reading.ensures.no_fault c.one_wide_reading.ensures.one_fault) c.args.gds.now
    c.in-Err-TooManyShapes.count
    (too_large c.args.gds.now _ c.in-Err-TooManyShapes.count c.in-Err-TooManyShapes.field-0-is
    c.in-Err-TooManyShapes.ensures.err)
