use Rattle.std.proofs.Common.{◌∙◌, sym}
use Rattle.shape_extract.proofs.Marked.{got_at, frame_fault, pin_fault, no_fault}
use Rattle.shape_extract.proofs.rules.cell_rule.is_at_fault.Goals as goal

pub returns : goal.returns
returns c = no_fault _ _ _ (got_at _ _ _ c.requires.within c.index-shapes-n.is) (sym c.is_frame.ensures
    ∙ c.if-is_frame.false) (sym c.is_pin.ensures ∙ c.if-is_pin.false)

pub returns-then-is_frame : goal.returns-then-is_frame
returns-then-is_frame c = frame_fault _ _ _ (got_at _ _ _ c.requires.within c.index-shapes-n.is) (sym c.is_frame.ensures
    ∙ c.if-is_frame.true) c.in_ok-cell.cell c.in_ok-cell.ensures

pub returns-then-is_pin : goal.returns-then-is_pin
returns-then-is_pin c = pin_fault _ _ _ (got_at _ _ _ c.requires.within c.index-shapes-n.is) (sym c.is_pin.ensures
    ∙ c.if-is_pin.true) c.in_ok-one.one c.in_ok-one.ensures
