use Rattle.std.proofs.Common.{length, subst, sym}
use Rattle.maj_mapping.specs.Counts.{AllBelow}
use Rattle.maj_mapping.proofs.Ordered.{ordered}
use Rattle.maj_mapping.proofs.Leaving.{found_at, planes_of, operands_are, operands_below, leaves, define_room}
use Rattle.maj_mapping.proofs.walk.leave.Goals as goal

pub define-requires-clause-good : goal.define-requires-clause-good
define-requires-clause-good c = rw c.requires.standing.same c.requires.standing.good

pub define-requires-clause-below : goal.define-requires-clause-below
define-requires-clause-below c =
    let read = operands_are c.args.gate_of.now _ _ _ _ c.get-def.result.now c.as_slice.ensures c.as_slice-2.ensures
    c.in_ok-inputs.ensures c.deref.ensures.value in
    subst (AllBelow (length c.args.maker.now.gates)) (sym read)
    (operands_below _ _ _ c.requires.standing c.get-def.result.now.inputs)

pub define-requires-clause-planes : goal.define-requires-clause-planes
define-requires-clause-planes c = planes_of _ (ordered c.args.net.now c.requires.net) c.args.signal _
    (found_at c.args.net.now _ _ c.args.signal _ c.defs.ensures c.input_count.ensures.count c.get-def.ensures)

pub returns-clause-left : goal.returns-clause-left
returns-clause-left c = (leaves c.args.net.now
    (ordered c.args.net.now c.requires.net) c.args.maker.now _ c.args.gate_of.now _ _ c.args.signal _ _
    c.requires.defined c.requires.within c.requires.standing
    (found_at c.args.net.now _ _ c.args.signal _ c.defs.ensures c.input_count.ensures.count c.get-def.ensures)
    (operands_are c.args.gate_of.now _ _ _ _ c.get-def.result.now c.as_slice.ensures c.as_slice-2.ensures
    c.in_ok-inputs.ensures c.deref.ensures.value) c.in_ok-gate.ensures.gates c.in_ok-gate.ensures.at c.set.ensures).left

pub returns-clause-standing : goal.returns-clause-standing
returns-clause-standing c =
    (leaves c.args.net.now (ordered c.args.net.now c.requires.net) c.args.maker.now _ c.args.gate_of.now _ _
    c.args.signal _ _ c.requires.defined c.requires.within c.requires.standing
    (found_at c.args.net.now _ _ c.args.signal _ c.defs.ensures c.input_count.ensures.count c.get-def.ensures)
    (operands_are c.args.gate_of.now _ _ _ _ c.get-def.result.now c.as_slice.ensures c.as_slice-2.ensures
    c.in_ok-inputs.ensures c.deref.ensures.value) c.in_ok-gate.ensures.gates
    c.in_ok-gate.ensures.at c.set.ensures).standing

pub define-requires-clause-room : goal.define-requires-clause-room
define-requires-clause-room c = define_room c.args.net.now c.args.maker.now c.args.gate_of.now _ c.args.signal _ _
    c.requires.defined c.requires.standing
    (found_at c.args.net.now _ _ c.args.signal _ c.defs.ensures c.input_count.ensures.count c.get-def.ensures)
    (operands_are c.args.gate_of.now _ _ _ _ c.get-def.result.now c.as_slice.ensures c.as_slice-2.ensures
    c.in_ok-inputs.ensures c.deref.ensures.value) c.requires.room
