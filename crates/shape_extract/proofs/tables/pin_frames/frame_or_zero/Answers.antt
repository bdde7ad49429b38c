use Rattle.std.proofs.Common.{sym, ◌∙◌}
use Rattle.geom.proofs.Filing.{read_at}
use Rattle.shape_extract.proofs.PinFrameLists.{no_frame}
use Rattle.shape_extract.proofs.tables.pin_frames.frame_or_zero.Goals as goal

pub returns-then-not-is_pin : goal.returns-then-not-is_pin
returns-then-not-is_pin c = no_frame c.args.shapes.now c.args.p 0 c.index-shapes-p.result
    (read_at c.args.shapes.now _ _ c.requires.within c.index-shapes-p.is) (sym c.is_pin.ensures ∙ c.if-not-is_pin.true)
