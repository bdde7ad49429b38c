use Rattle.layout_rules.specs.Layers.{is_frame}
use Rattle.layout_rules.specs.Reports.{Passes}
use Rattle.shape_extract.proofs.Searching.{AreThoseBelow}
use Rattle.rule_check.proofs.frames.frame_numbers.Given as goal

abbrev pub invariant-loop-number : goal.invariant-loop-number
invariant-loop-number l = AreThoseBelow l.number (Passes is_frame l.shapes) l.numbers.items
