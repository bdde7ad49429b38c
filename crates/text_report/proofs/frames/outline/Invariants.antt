use Rattle.std.proofs.Common.{◌≡◌, take}
use Rattle.text_report.specs.Outline.{outline}
use Rattle.text_report.proofs.frames.outline.Given as goal

abbrev pub invariant-loop-shape : goal.invariant-loop-shape
invariant-loop-shape l = l.held ≡ outline (take l.shape-index l.shapes)
