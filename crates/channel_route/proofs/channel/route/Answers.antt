use Rattle.std.proofs.Common.{arith, length, ◌≡◌, ◌∙◌}
use Rattle.channel_route.proofs.Routed.{asked_rising, asked_length, asked_numbers, asked_apart, plan_kept, tracks_kept}
use Rattle.channel_route.proofs.Routed.{room_kept, over_kept}
use Rattle.channel_route.proofs.channel.route.Goals as goal

pub assign-requires-clause-few : goal.assign-requires-clause-few
assign-requires-clause-few c = let h : length c.deref.result.now ≡ length c.args.wires.now =
    asked_length c.args.wires.now _ _ c.in_ok-ones.ensures c.deref.ensures.value in omega (arith, h)

pub assign-requires-clause-rising : goal.assign-requires-clause-rising
assign-requires-clause-rising c = asked_rising c.args.wires.now _ _ c.requires.apart c.in_ok-ones.ensures
    c.deref.ensures.value

pub assign-requires-clause-numbers : goal.assign-requires-clause-numbers
assign-requires-clause-numbers c = asked_numbers c.args.wires.now _ _ c.in_ok-ones.ensures c.deref.ensures.value

pub assign-requires-clause-distinct : goal.assign-requires-clause-distinct
assign-requires-clause-distinct c = asked_apart c.args.wires.now _ _ c.in_ok-ones.ensures c.deref.ensures.value

pub returns-in-Done-clause-plan : goal.returns-in-Done-clause-plan
returns-in-Done-clause-plan c = rw c.from_vec.ensures
    (plan_kept c.args.wires.now _ _ _ _ _ _ c.requires.apart c.in_ok-ones.ensures c.deref.ensures.value
    (rw c.in-Done.is at c.in_ok-track.ensures))

pub returns-in-Done-clause-tracks : goal.returns-in-Done-clause-tracks
returns-in-Done-clause-tracks c = rw c.from_vec.ensures
    (tracks_kept c.args.wires.now _ _ _ _ _ _ c.requires.apart c.in_ok-ones.ensures c.deref.ensures.value
    (rw c.in-Done.is at c.in_ok-track.ensures))

pub returns-in-Done-clause-room : goal.returns-in-Done-clause-room
returns-in-Done-clause-room c = room_kept c.args.wires.now _ _ _ _ _ _ c.requires.apart c.in_ok-ones.ensures
    c.deref.ensures.value (rw c.in-Done.is at c.in_ok-track.ensures)

pub returns-clause-refusal : goal.returns-clause-refusal
returns-clause-refusal c = (
  over_kept c.args.wires.now _ _ _ _ c.in_ok-ones.ensures c.deref.ensures.value
      (rw c.in-Full.is at c.in_ok-track.ensures),
  c.from_vec-wires.ensures ∙ c.in_ok-numbers_over-in-Full.ensures,
)
