use Rattle.std.proofs.Common.{ℕ, ◌<◌}
use Rattle.std.specs.Prelude.{slice_index_or}
use Rattle.sat_sweep.specs.Code.Merging.{AreAlike}
use Rattle.sat_sweep.proofs.merged.first_unmerged.Given as goal

abbrev pub invariant-loop-place : goal.invariant-loop-place
invariant-loop-place l =
    (k : ℕ) → k < l.place → AreAlike l.merged (slice_index_or l.ones k 0) (slice_index_or l.others k 0)
