use Rattle.std.proofs.Common.{◌∙◌, sym}
use Rattle.shape_extract.proofs.CellFeeds.{held_within, none_is_next, pin_found, pin_missed}
use Rattle.shape_extract.proofs.Each.{item_read}
use Rattle.shape_extract.proofs.circuits.cell_feeds.input_pin.Goals as goal

pub bounds-shapes-pin : goal.bounds-shapes-pin
bounds-shapes-pin c = rw c.as_slice-shapes.ensures (held_within _ _ _ c.requires.pins _ c.loop-pin-test.true)

pub returns-then-is_marked : goal.returns-then-is_marked
returns-then-is_marked c =
    let got = item_read c.as_slice-shapes.ensures (held_within _ _ _ c.requires.pins _ c.loop-pin-test.true)
    c.index-shapes-pin.is in
    pin_found _ _ _ _ _ c.requires.pins c.loop-pin.pin-index c.index-shapes-pin.result c.loop-pin-test.true got
    (sym c.is_marked.ensures ∙ c.if-is_marked.true)

pub loop-pin-preserved : goal.loop-pin-preserved
loop-pin-preserved c =
    let got = item_read c.as_slice-shapes.ensures (held_within _ _ _ c.requires.pins _ c.loop-pin-test.true)
    c.index-shapes-pin.is in
    none_is_next _ _ _ _ _ c.index-shapes-pin.result c.loop-pin.invariant got
    (sym c.is_marked.ensures ∙ c.if-is_marked.false)

pub returns : goal.returns
returns c = absurd (pin_missed _ _ _ _ _ c.requires.tables c.args.kind c.args.f c.args.number c.args.pins.now
    c.loop-pin.pin-index c.requires.frame c.requires.pins c.requires.number c.loop-pin-test.false c.loop-pin.invariant)
