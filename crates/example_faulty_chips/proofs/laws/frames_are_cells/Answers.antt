use Rattle.example_faulty_chips.proofs.CircuitsJudged.{no_chip, unknown_kind, missing_input, stray_pin}
use Rattle.example_faulty_chips.proofs.laws.frames_are_cells.Goals as goal

pub returns-clause-none : goal.returns-clause-none
returns-clause-none c = no_chip

pub returns-clause-kind : goal.returns-clause-kind
returns-clause-kind c = unknown_kind

pub returns-clause-input : goal.returns-clause-input
returns-clause-input c = missing_input

pub returns-clause-stray : goal.returns-clause-stray
returns-clause-stray c = stray_pin
