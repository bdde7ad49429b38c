use Rattle.std.proofs.Common.{◌≡◌, ◌++◌, map, take}
use Rattle.text_answers.specs.Code.Lanes.{in_lane}
use Rattle.text_answers.specs.WordLines.{digit_of}
use Rattle.text_answers.proofs.blocks.add_lane.Given as goal

abbrev pub invariant-loop-number : goal.invariant-loop-number
invariant-loop-number l = l.page.items ≡ l.initial.page.items ++ map digit_of
    (in_lane l.lane (take l.number-index l.numbers))
