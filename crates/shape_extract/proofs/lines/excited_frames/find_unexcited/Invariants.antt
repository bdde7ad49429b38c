use Rattle.std.proofs.Common.{ℕ, ◌<◌}
use Rattle.shape_extract.specs.Code.Lines.{IsChainExcitedAt}
use Rattle.shape_extract.proofs.lines.excited_frames.find_unexcited.Given as goal

abbrev pub invariant-loop-f : goal.invariant-loop-f
invariant-loop-f l = (k : ℕ) → k < l.f → IsChainExcitedAt l.shapes k
