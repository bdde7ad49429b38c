use Rattle.std.proofs.Common.{◌≡◌, ◌<◌, ◌∷◌, length, get_or, rules}
use Rattle.std.proofs.lemmas.Result.{err_from_is_err_and}
use Rattle.aqfp_top.proofs.Pending.{pends_item, part_item}
use Rattle.aqfp_top.proofs.pieces.add_signals.Goals as goal

pub returns-in_err-add_signal-clause-part : goal.returns-in_err-add_signal-clause-part
returns-in_err-add_signal-clause-part g c =
    let p = err_from_is_err_and c.from_residual.result c.from_residual.ensures.1 in
    let l = c.loop-signal in
    let x = c.signal-item.result in
    let within : l.signal-index < length c.args.signals.now = search rules in
    let at : x ≡ get_or c.args.signals.now l.signal-index x = search rules in
    rw (p.1, p.2) (part_item c.args.page.now (λ s. 32 ∷ s) c.args.signals.now l.signal-index x within at
    (search rules) c.in_err-add_signal.ensures.part)

pub loop-signal-preserved : goal.loop-signal-preserved
loop-signal-preserved g c =
    let l = c.loop-signal in
    let x = c.signal-item.result in
    let items = c.as_slice-signal-items.result.now in
    let within : l.signal-index < length items = search rules in
    let at : x ≡ get_or items l.signal-index x = search rules in
    pends_item c.args.page.now
    (λ s. 32 ∷ s) items l.signal-index x within at l.invariant c.in_ok-add_signal.ensures.pends
