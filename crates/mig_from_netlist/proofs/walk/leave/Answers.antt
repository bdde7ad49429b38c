use Rattle.std.proofs.Common.{refl, arith}
use Rattle.mig_from_netlist.proofs.Signals.{are_seen, literals_there, planes_of, def_is, mapped_next}
use Rattle.mig_from_netlist.proofs.walk.leave.Goals as goal

pub define-requires-clause-there : goal.define-requires-clause-there
define-requires-clause-there c =
    literals_there c.args.net.now c.args.builder.now c.args.literal_of.now c.requires.mapped
    c.get-def.result.now.inputs c.deref.result.now
    (are_seen c.args.literal_of.now c.as_slice.result.now c.as_slice-2.result.now c.get-def.result.now.inputs
    c.in-Some.literals.items c.deref.result.now c.as_slice.ensures c.as_slice-2.ensures c.deref.ensures.value
    (rw c.in-Some.is at c.in_ok-literals.ensures))

pub define-requires-clause-planes : goal.define-requires-clause-planes
define-requires-clause-planes c = planes_of c.args.net.now c.requires.net _ c.get-def.result.now
    (def_is c.args.net.now c.defs-2.result.now _ _ c.args.signal c.get-def.result.now c.defs-2.ensures
    c.input_count-inputs.ensures.count refl c.get-def.ensures) c.args.literal_of.now c.deref.result.now
    (are_seen c.args.literal_of.now c.as_slice.result.now c.as_slice-2.result.now c.get-def.result.now.inputs
    c.in-Some.literals.items c.deref.result.now c.as_slice.ensures c.as_slice-2.ensures c.deref.ensures.value
    (rw c.in-Some.is at c.in_ok-literals.ensures))

pub returns : goal.returns
returns c = record {
  mapped = mapped_next c.args.net.now c.args.builder.now c.define.new.builder c.args.literal_of.now c.set.new.self
      c.args.signal c.in_ok-literal.literal c.get-def.result.now
      (let a = c.input_count-inputs.ensures.count in let b = c.if-signal-inputs.false in omega arith)
      (def_is c.args.net.now c.defs-2.result.now _ _ c.args.signal c.get-def.result.now c.defs-2.ensures
      c.input_count-inputs.ensures.count refl c.get-def.ensures)
      c.requires.mapped c.in_ok-literal.ensures.grown c.set.ensures c.deref.result.now
      (are_seen c.args.literal_of.now c.as_slice.result.now c.as_slice-2.result.now c.get-def.result.now.inputs
      c.in-Some.literals.items c.deref.result.now c.as_slice.ensures c.as_slice-2.ensures c.deref.ensures.value
      (rw c.in-Some.is at c.in_ok-literals.ensures))
      c.in_ok-literal.ensures.given;
}
