use Rattle.std.proofs.Common.{◌≡◌, length}
use Rattle.blif_read.specs.Models.{model_of}
use Rattle.blif_read.specs.Code.Sections.{with_lines}
use Rattle.blif_read.proofs.models.model_of.Given as goal

abbrev pub invariant-lines : goal.invariant-lines
invariant-lines l = with_lines l.model l.rest ≡ model_of l.lines

abbrev pub decreases-lines : goal.decreases-lines
decreases-lines l = length l.rest
