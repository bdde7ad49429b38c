use Rattle.std.proofs.Common.{ℕ, ◌≡◌, ◌<◌, ◌||◌, drop}
use Rattle.truth_tables.specs.Tables.{holds}
use Rattle.mig_from_netlist.specs.Code.Covers.{some_at}
use Rattle.mig_from_netlist.proofs.cover.cover_table.Given as goal

abbrev pub invariant-loop-cube : goal.invariant-loop-cube
invariant-loop-cube l = (i : ℕ) → i < 64
    → (holds l.table i || some_at (drop l.cube-index l.def.cubes) i) ≡ some_at l.def.cubes i
