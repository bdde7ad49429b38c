use Rattle.aqfp_top.proofs.ChipOfPlan.{planned_chip, one_chip_heard}
use Rattle.aqfp_top.proofs.planned.chip_is_planned.Goals as goal

pub returns-clause-follows : goal.returns-clause-follows
returns-clause-follows c = planned_chip (record {
  answers = c.netlist_answers.ensures;
  writable = c.drawing_laws.ensures.writable;
  stream = c.written_is_read.ensures;
  one_layout = c.one_layout.ensures;
  realised = c.drawn_chip_realises.ensures.chip;
  one_circuit = c.one_circuit.ensures;
  enough = c.clocks_are_enough.ensures;
})

pub returns-clause-heard : goal.returns-clause-heard
returns-clause-heard c = one_chip_heard
