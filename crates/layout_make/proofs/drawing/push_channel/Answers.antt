use Rattle.std.proofs.Common.{arith, ◌∙◌, ◌+◌}
use Rattle.layout_make.proofs.Heights.{stands_low}
use Rattle.layout_make.proofs.Ready.{lawful, may_ready}
use Rattle.layout_make.proofs.RowsDrawn.{next_is, bends_fit, channel_added}
use Rattle.layout_make.proofs.drawing.push_channel.Goals as goal

pub channel_wires-requires-clause-lower_given : goal.channel_wires-requires-clause-lower_given
channel_wires-requires-clause-lower_given c =
    (may_ready c.args.placed.now c.args.library.now c.tracks_are_fewest.ensures.plan c.requires.may).given c.args.row

pub channel_wires-requires-clause-upper_given : goal.channel_wires-requires-clause-upper_given
channel_wires-requires-clause-upper_given c =
    (may_ready c.args.placed.now c.args.library.now c.tracks_are_fewest.ensures.plan c.requires.may).given
    (c.args.row + 1)

pub overflow_add-next : goal.overflow_add-next
overflow_add-next c =
    omega (
      arith,
      c.requires.edge,
      c.height.ensures,
      stands_low c.args.placed.now c.args.library.now
          c.tracks_are_fewest.ensures.plan c.requires.may c.args.row (omega (arith, c.requires.row)),
    )

pub overflow_add-next-3 : goal.overflow_add-next-3
overflow_add-next-3 c =
    omega (
      arith,
      next_is c.args.placed.now c.args.library.now c.args.row c.args.edge c.height.result c.from.result
          c.pitch.result c.requires.edge c.height.ensures (c.from.ensures ∙ c.in_ok-tracks.ensures.used)
          c.pitch.ensures,
      stands_low c.args.placed.now c.args.library.now c.tracks_are_fewest.ensures.plan c.requires.may (c.args.row + 1)
          c.requires.row,
    )

pub push_wires-requires-clause-edge : goal.push_wires-requires-clause-edge
push_wires-requires-clause-edge c =
    omega (
      arith,
      c.requires.edge,
      c.height.ensures,
      stands_low c.args.placed.now c.args.library.now
          c.tracks_are_fewest.ensures.plan c.requires.may c.args.row (omega (arith, c.requires.row)),
    )

pub push_wires-requires-clause-next : goal.push_wires-requires-clause-next
push_wires-requires-clause-next c =
    omega (
      arith,
      next_is c.args.placed.now c.args.library.now c.args.row c.args.edge c.height.result c.from.result
          c.pitch.result c.requires.edge c.height.ensures (c.from.ensures ∙ c.in_ok-tracks.ensures.used)
          c.pitch.ensures,
      stands_low c.args.placed.now c.args.library.now c.tracks_are_fewest.ensures.plan c.requires.may (c.args.row + 1)
          c.requires.row,
    )

pub push_wires-requires-clause-below : goal.push_wires-requires-clause-below
push_wires-requires-clause-below c =
    bends_fit c.args.placed.now c.args.library.now
    (may_ready c.args.placed.now c.args.library.now c.tracks_are_fewest.ensures.plan c.requires.may)
    (lawful c.args.library.now c.known.ensures.library) c.args.row c.args.edge _ _ c.requires.edge
    (next_is c.args.placed.now c.args.library.now c.args.row c.args.edge c.height.result c.from.result
    c.pitch.result c.requires.edge c.height.ensures (c.from.ensures ∙ c.in_ok-tracks.ensures.used) c.pitch.ensures)
    (c.as_slice-2.ensures ∙ c.in_ok-tracks.ensures.track)

pub returns-clause-next : goal.returns-clause-next
returns-clause-next c = next_is c.args.placed.now c.args.library.now c.args.row c.args.edge c.height.result
    c.from.result c.pitch.result c.requires.edge c.height.ensures (c.from.ensures ∙ c.in_ok-tracks.ensures.used)
    c.pitch.ensures

pub returns-clause-elements : goal.returns-clause-elements
returns-clause-elements c =
    channel_added c.args.placed.now c.args.library.now
    (may_ready c.args.placed.now c.args.library.now c.tracks_are_fewest.ensures.plan c.requires.may)
    (lawful c.args.library.now c.known.ensures.library) c.args.row c.args.edge _ _ _ _ _ c.requires.edge
    (next_is c.args.placed.now c.args.library.now c.args.row c.args.edge c.height.result c.from.result
    c.pitch.result c.requires.edge c.height.ensures (c.from.ensures ∙ c.in_ok-tracks.ensures.used) c.pitch.ensures)
    (c.as_slice.ensures ∙ c.in_ok-wires.ensures) (c.as_slice-2.ensures ∙ c.in_ok-tracks.ensures.track)
    c.in_ok-push_wires.ensures
