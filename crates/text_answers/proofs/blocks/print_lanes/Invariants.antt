use Rattle.text_answers.specs.Code.Lanes.{in_lane, lines_of}
use Rattle.text_answers.specs.Printing.{PrintsLine}
use Rattle.text_answers.proofs.blocks.print_lanes.Given as goal

abbrev pub invariant-loop-lane : goal.invariant-loop-lane
invariant-loop-lane g l =
    PrintsLine (g.O.Sink.output l.initial.out) (g.O.Sink.output l.out) l.initial.page.items l.page.items
    (lines_of (λ i. in_lane i l.numbers) l.lane)
