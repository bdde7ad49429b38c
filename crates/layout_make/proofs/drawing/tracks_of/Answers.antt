use Rattle.std.proofs.Common.{◌∙◌, sym, subst}
use Rattle.channel_route.specs.Crossing.{EndsApart}
use Rattle.layout_make.proofs.Ready.{lawful, may_ready}
use Rattle.layout_make.proofs.Sound.{ends_apart}
use Rattle.layout_make.proofs.RowsDrawn.{few_wires, full_said, never_over_full}
use Rattle.layout_make.proofs.drawing.tracks_of.Goals as goal

pub route-requires-clause-few : goal.route-requires-clause-few
route-requires-clause-few c = few_wires c.args.placed.now c.args.library.now c.known.ensures c.requires.small
    c.args.row c.as_slice.result.now (c.as_slice.ensures ∙ c.requires.wires)

pub route-requires-clause-apart : goal.route-requires-clause-apart
route-requires-clause-apart c =
    subst EndsApart (sym (c.as_slice.ensures ∙ c.requires.wires))
    (ends_apart c.args.placed.now c.args.library.now
    (may_ready c.args.placed.now c.args.library.now c.tracks_are_fewest.ensures.plan c.requires.may)
    (lawful c.args.library.now c.known-2.ensures.library) c.args.row)

pub unreachable-requires : goal.unreachable-requires
unreachable-requires c =
    never_over_full c.args.placed.now c.args.library.now c.tracks_are_fewest.ensures.plan c.requires.may c.args.row
    c.as_slice.result.now c.capacity.result c.in-Err-Full.field-0-0
    (c.as_slice.ensures ∙ c.requires.wires) c.capacity.ensures
    (full_said c.route.result _ _ c.in-Err-Full.field-0 c.in-Err-Full.field-0-0 c.in-Err-Full.field-0-1
    c.route.ensures.refusal c.in-Err-Full.is c.in-Err-Full.field-0-is)
