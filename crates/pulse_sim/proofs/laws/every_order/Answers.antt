use Rattle.pulse_sim.proofs.EveryOrder.{held, shows, quiet}
use Rattle.pulse_sim.proofs.laws.every_order.Goals as goal

pub returns-clause-shows : goal.returns-clause-shows
returns-clause-shows c = shows

pub returns-clause-rows : goal.returns-clause-rows
returns-clause-rows c = λ circuit words n run k word value cell_number cell keeps legal is_word fits at before.
    held circuit keeps words n run legal k word is_word value fits cell_number cell at before

pub returns-clause-still : goal.returns-clause-still
returns-clause-still c = λ circuit word time event old new cell_number i d output cell keeps among h at phase e.
    quiet circuit keeps word time event old new cell_number i d output cell among h at phase e
