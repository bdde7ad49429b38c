use Rattle.example_faulty_chips.proofs.CutOffLine.{cut_off_line}
use Rattle.example_faulty_chips.proofs.LinesJudged.{unknown_part, no_start, two_starts, short_start, start_below, short_bar}
use Rattle.example_faulty_chips.proofs.LinesJudged.{start_at_right}
use Rattle.example_faulty_chips.proofs.laws.lines_excite_rows.Goals as goal

pub returns-clause-part : goal.returns-clause-part
returns-clause-part c = unknown_part

pub returns-clause-none : goal.returns-clause-none
returns-clause-none c = no_start

pub returns-clause-two : goal.returns-clause-two
returns-clause-two c = two_starts

pub returns-clause-apart : goal.returns-clause-apart
returns-clause-apart c = short_start

pub returns-clause-cut : goal.returns-clause-cut
returns-clause-cut c = cut_off_line

pub returns-clause-below : goal.returns-clause-below
returns-clause-below c = start_below

pub returns-clause-over : goal.returns-clause-over
returns-clause-over c = short_bar

pub returns-clause-phase : goal.returns-clause-phase
returns-clause-phase c = start_at_right
