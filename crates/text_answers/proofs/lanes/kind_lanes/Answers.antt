use Rattle.std.proofs.Common.{sym, ap, ◌∙◌}
use Rattle.circuit.specs.Function.{value_of}
use Rattle.truth_tables.specs.Tables.{holds}
use Rattle.truth_tables.proofs.Bits.{holds_none}
use Rattle.text_answers.proofs.InLanes.{not_holds, ones_hold}
use Rattle.text_answers.proofs.lanes.kind_lanes.Goals as goal

pub returns-in-Inverter : goal.returns-in-Inverter
returns-in-Inverter c = λ l lane. not_holds c.args.a l c.ranges.a.fits lane
    ∙ sym (ap (λ k. value_of k (holds c.args.a l) (holds c.args.b l) (holds c.args.c l)) c.in-Inverter.is)

pub returns-in-Zero : goal.returns-in-Zero
returns-in-Zero c = λ l lane. holds_none l
    ∙ sym (ap (λ k. value_of k (holds c.args.a l) (holds c.args.b l) (holds c.args.c l)) c.in-Zero.is)

pub returns-in-One : goal.returns-in-One
returns-in-One c = λ l lane. ones_hold l lane
    ∙ sym (ap (λ k. value_of k (holds c.args.a l) (holds c.args.b l) (holds c.args.c l)) c.in-One.is)
