use Rattle.layout_make.proofs.WireCode.{row_step, row_end}
use Rattle.layout_make.proofs.wires.wires_into.Goals as goal

pub push_wire-requires : goal.push_wire-requires
push_wire-requires c s e = c.requires.fit c.loop-number.number 0 c.spot-spot.result s c.spot-spot.ensures e

pub push_wire-requires-in-loop-number : goal.push_wire-requires-in-loop-number
push_wire-requires-in-loop-number c s e = c.requires.fit c.loop-number.number 1 c.spot-spot.result s
    c.spot-spot.ensures e

pub push_wire-requires-in-loop-number-2 : goal.push_wire-requires-in-loop-number-2
push_wire-requires-in-loop-number-2 c s e = c.requires.fit c.loop-number.number 2 c.spot-spot.result s
    c.spot-spot.ensures e

pub loop-number-preserved : goal.loop-number-preserved
loop-number-preserved c = row_step c.args.library.now _ _ c.loop-number.number c.spot-spot.result _ _ _ _
    c.spot-spot.ensures c.loop-number.invariant c.in_ok-push_wire.ensures c.in_ok-push_wire-2.ensures
    c.in_ok-push_wire-3.ensures

pub returns : goal.returns
returns c = row_end c.args.library.now _ c.args.upper.now.cells.now c.args.upper.now.slots.now c.loop-number.number _
    c.requires.long c.loop-number-test.false c.loop-number.invariant
