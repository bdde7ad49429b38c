use Rattle.std.proofs.Common.{◌≡◌, ◌<◌, refl, None, replicate, ◌∙◌, ap, subst, length, get_or}
use Rattle.blif_flat.proofs.Joining.{port_within, port_step, no_ports}
use Rattle.blif_flat.proofs.models.joins.ports_for.Goals as goal

pub loop-number-init : goal.loop-number-init
loop-number-init c = c.in_ok-ports.ensures
    ∙ ap (λ n. replicate n None) c.len.ensures.count ∙ no_ports c.args.names.now

pub note-requires : goal.note-requires
note-requires c = port_within _ c.args.names.now _ _ _ c.number-at.ensures c.loop-number.invariant

pub loop-number-preserved : goal.loop-number-preserved
loop-number-preserved c =
    port_step c.args.names.now c.args.call.now.ports c.loop-number.number c.loop-number.number
    c.port-item.result _ _ c.loop-number.ports.items _ c.len.ensures.distinct
    (subst (λ ps. c.loop-number.number < length ps) c.as_slice-port-items.ensures c.loop-number-test.true)
    (subst (λ ps. c.port-item.result ≡ get_or ps c.loop-number.number c.port-item.result)
    c.as_slice-port-items.ensures c.port-item.is)
    refl c.as_slice.ensures c.number-at.ensures c.note.ensures c.loop-number.invariant
