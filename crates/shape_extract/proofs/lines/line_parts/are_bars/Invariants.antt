use Rattle.std.proofs.Common.{◌<◌, ℕ}
use Rattle.std.specs.Prelude.{slice_index}
use Rattle.layout_rules.specs.declared.layers.TheConstants.{BAR}
use Rattle.layout_rules.specs.ExcitationLines.{IsPart}
use Rattle.shape_extract.proofs.lines.line_parts.are_bars.Given as goal

abbrev pub invariant-loop-number : goal.invariant-loop-number
invariant-loop-number l = (p : ℕ) → p < l.number-index → IsPart l.shapes BAR (slice_index l.numbers p)
