use Rattle.std.proofs.Common.{◌≡◌, ◌+◌, ◌++◌, [], map, length, true, Option, None, Some, ℕ, List}
use Rattle.blif_read.specs.Lines.{Line}
use Rattle.blif_read.specs.Faults.{line_fault}
use Rattle.blif_read.specs.Models.{parts_of, model_of, models_fault}
use Rattle.blif_read.specs.Walk.{first_of}
use Rattle.blif_read.specs.Code.Sections.{parts_left}
use Rattle.blif_read.proofs.sections.models_in.Given as goal

abbrev pub size : Option (List Line) → ℕ
size None = 0
size (Some lines) = length lines + 1

abbrev pub invariant-loop-rest : goal.invariant-loop-rest
invariant-loop-rest l = (l.models ++ map model_of (parts_left l.rest) ≡ map model_of (parts_of l.lines))
    × (first_of (line_fault true []) (parts_left l.rest) ≡ models_fault (parts_of l.lines))

abbrev pub decreases-loop-rest : goal.decreases-loop-rest
decreases-loop-rest l = size l.rest
