use Rattle.aqfp_top.proofs.OneDue.{some_first, first_once, first_comes}
use Rattle.aqfp_top.proofs.OneStream.{one_layout, one_fault}
use Rattle.aqfp_top.proofs.OneStage.{once}
use Rattle.aqfp_top.proofs.due.one_answer_is_due.Goals as goal

pub returns-clause-some : goal.returns-clause-some
returns-clause-some c = some_first

pub returns-clause-once : goal.returns-clause-once
returns-clause-once c =
    first_once (once c.plan_laws.ensures.past c.plan_laws.ensures.only (one_layout c.one_wide_reading.ensures.layout)
    (one_fault c.one_wide_reading.ensures.one_fault) c.first_broken_once.ensures c.one_circuit.ensures)

pub returns-clause-comes : goal.returns-clause-comes
returns-clause-comes c =
    first_comes (once c.plan_laws.ensures.past c.plan_laws.ensures.only (one_layout c.one_wide_reading.ensures.layout)
    (one_fault c.one_wide_reading.ensures.one_fault) c.first_broken_once.ensures c.one_circuit.ensures)
