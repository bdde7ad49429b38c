use Rattle.std.proofs.Common.{◌≡◌, ◌∙◌, sym, ap, subst}
use Rattle.std.proofs.lemmas.Result.{IfOk-weaker}
use Rattle.shape_extract.specs.Code.Corners.{AreCorners, numbers_of}
use Rattle.shape_extract.specs.Frames.{AreFrames}
use Rattle.shape_extract.proofs.CornerLists.{corners_sorted, frames_from}
use Rattle.shape_extract.proofs.circuits.frames.ordered_frames.Goals as goal

pub returns-clause-are : goal.returns-clause-are
returns-clause-are c =
    let are : AreCorners c.args.shapes.now c.sort_unstable.new.self.items =
    corners_sorted c.args.shapes.now c.in_ok-corners.corners.items c.sort_unstable.new.self.items
    c.in_ok-corners.ensures.are c.sort_unstable.ensures.permutation in
    IfOk-weaker c.numbers_of.result (λ numbers. numbers.items ≡ numbers_of c.as_slice.result.now)
    (λ frames. AreFrames c.args.shapes.now frames.items)
    (λ numbers is. subst (AreFrames c.args.shapes.now) (sym (is ∙ ap numbers_of c.as_slice.ensures.value))
    (frames_from c.args.shapes.now c.sort_unstable.new.self.items are c.sort_unstable.ensures.sorted))
    c.numbers_of.ensures
