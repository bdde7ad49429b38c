use Rattle.std.proofs.Common.{◌+◌, refl, ap, length, None, arith}
use Rattle.std.proofs.lemmas.List.{drop_all}
use Rattle.blif_flat.specs.Code.Joins.{actual_in, actuals_in}
use Rattle.blif_flat.proofs.Joining.{actuals_step, room_taken, room_left}
use Rattle.blif_flat.proofs.models.joins.add_actuals.Goals as goal

pub add_actual-requires : goal.add_actual-requires
add_actual-requires c = room_left (actual_in c.args.call.now) c.args.ports.now c.loop-port.port-index None _
    c.loop-port.next _ c.loop-port-test.true refl c.loop-port.invariant.room c.requires

pub loop-port-preserved : goal.loop-port-preserved
loop-port-preserved c = record {
  places = actuals_step _ c.loop-port.places.entries c.add_actual.new.places.entries c.args.count c.loop-port.next
      c.in_ok-next.next c.args.call.now c.args.ports.now c.loop-port.port-index None c.loop-port-test.true
      c.loop-port.invariant.places c.in_ok-next.ensures.places;
  room = room_taken (actual_in c.args.call.now) c.args.ports.now c.loop-port.port-index None _ c.loop-port.next
      c.in_ok-next.next _ c.loop-port-test.true refl c.in_ok-next.ensures.next c.loop-port.invariant.room;
}

pub returns-clause-next : goal.returns-clause-next
returns-clause-next c =
    let none = ap (λ ps. c.loop-port.next + length (actuals_in c.args.call.now ps))
    (drop_all c.loop-port.port-index c.args.ports.now c.loop-port-test.false) in
    let room = c.loop-port.invariant.room in
    omega arith
