use Rattle.std.proofs.Common.{◌∙◌, ap, refl, subst, arith}
use Rattle.blif_flat.specs.Designs.{distinct_outputs}
use Rattle.blif_flat.specs.Code.Outlines.{IsOutlined}
use Rattle.blif_flat.proofs.Outlining.{found_outline, call_places, call_places_count}
use Rattle.blif_flat.proofs.models.outlines.add_call.Goals as goal

pub pass-inner-requires : goal.pass-inner-requires
pass-inner-requires c =
    let size = call_places_count c.args.design.now c.in-Some.number c.args.call.now c.in-Some-outline_at.outline.now _
    c.in_ok-ports.ports.items c.in_ok-ports.ports.items c.in-Some.ensures.number
    (found_outline c.args.design.now c.args.outlines.now c.in-Some.number c.in-Some-outline_at.outline.now
    c.in-Some-outline_at.ensures
    (subst (IsOutlined c.args.design.now c.args.outlines.now) c.in-Some.ensures.number c.requires.outlined))
    (c.outputs.ensures ∙ ap distinct_outputs c.in-Some.ensures.model)
    refl c.in_ok-ports.ensures in
    omega (arith, size, c.requires.room)

pub add_actuals-requires : goal.add_actuals-requires
add_actuals-requires c =
    let size = call_places_count c.args.design.now c.in-Some.number c.args.call.now c.in-Some-outline_at.outline.now _
    c.in_ok-ports.ports.items c.deref.result.now c.in-Some.ensures.number
    (found_outline c.args.design.now c.args.outlines.now c.in-Some.number c.in-Some-outline_at.outline.now
    c.in-Some-outline_at.ensures
    (subst (IsOutlined c.args.design.now c.args.outlines.now) c.in-Some.ensures.number c.requires.outlined))
    (c.outputs.ensures ∙ ap distinct_outputs c.in-Some.ensures.model)
    c.deref.ensures.value c.in_ok-ports.ensures in
    omega (arith, size, c.requires.room, c.pass-inner.ensures.next)

pub returns-clause-next : goal.returns-clause-next
returns-clause-next c =
    let size = call_places_count c.args.design.now c.in-Some.number c.args.call.now c.in-Some-outline_at.outline.now _
    c.in_ok-ports.ports.items c.deref.result.now c.in-Some.ensures.number
    (found_outline c.args.design.now c.args.outlines.now c.in-Some.number c.in-Some-outline_at.outline.now
    c.in-Some-outline_at.ensures
    (subst (IsOutlined c.args.design.now c.args.outlines.now) c.in-Some.ensures.number c.requires.outlined))
    (c.outputs.ensures ∙ ap distinct_outputs c.in-Some.ensures.model)
    c.deref.ensures.value c.in_ok-ports.ensures in
    omega (arith, size, c.pass-inner.ensures.next, c.in_ok-next.ensures.next)

pub returns-clause-places : goal.returns-clause-places
returns-clause-places c =
    call_places c.args.design.now c.in-Some.number c.args.call.now c.in-Some-outline_at.outline.now _
    c.in_ok-ports.ports.items c.deref.result.now c.args.places.now.entries c.add_actuals.new.places.entries
    c.args.count c.pass-inner.result c.in_ok-next.next
    c.in-Some.ensures.number
    (found_outline c.args.design.now c.args.outlines.now c.in-Some.number c.in-Some-outline_at.outline.now
    c.in-Some-outline_at.ensures
    (subst (IsOutlined c.args.design.now c.args.outlines.now) c.in-Some.ensures.number c.requires.outlined))
    (c.outputs.ensures ∙ ap distinct_outputs c.in-Some.ensures.model)
    c.deref.ensures.value c.in_ok-ports.ensures c.pass-inner.ensures.places c.in_ok-next.ensures.places
