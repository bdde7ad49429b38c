use Rattle.std.proofs.Common.{◌≡◌, [], ◌∷◌, ◌++◌}
use Rattle.shape_extract.proofs.PinFrameLists.{numbers_none, numbers_more, frames_all}
use Rattle.shape_extract.proofs.tables.pin_frames.pin_frames.Goals as goal

pub loop-p-init : goal.loop-p-init
loop-p-init c = rw c.new-frames.ensures.items (numbers_none _)

pub loop-p-preserved : goal.loop-p-preserved
loop-p-preserved c =
    let longer : c.push.new.self.items ≡ c.loop-p.frames.items ++ (c.in_ok-frame_or_zero.field-0 ∷ []) =
    c.in_ok-push.ensures.items in
    rw longer (numbers_more _ _ _ _ c.loop-p.invariant c.in_ok-frame_or_zero.ensures)

pub returns : goal.returns
returns c = frames_all _ _ _ c.loop-p-test.false c.loop-p.auto.p-end c.loop-p.invariant
