use Rattle.std.proofs.Common.{ℕ, ◌≡◌, ◌<◌, ◌&&◌, drop}
use Rattle.truth_tables.specs.Tables.{holds}
use Rattle.mig_from_netlist.specs.Code.Covers.{plane_at}
use Rattle.mig_from_netlist.proofs.cover.plane_table.Given as goal

abbrev pub invariant-loop-place : goal.invariant-loop-place
invariant-loop-place l = (i : ℕ) → i < 64
    → (holds l.table i && plane_at (drop l.place l.plane) l.place i) ≡ plane_at l.plane 0 i
