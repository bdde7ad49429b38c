use Rattle.sat_sweep.proofs.Making.{show_outputs}
use Rattle.sat_sweep.proofs.literals.output_literals.Goals as goal

pub returns-clause-shown : goal.returns-clause-shown
returns-clause-shown c =
    show_outputs c.gate_literals.new.graph c.in_ok-literals.literals.items _ c.args.gates.now c.args.outputs.now _
    c.in_ok-literals.ensures.literals c.deref.ensures.value c.requires.outputs c.in_ok-shown.ensures
