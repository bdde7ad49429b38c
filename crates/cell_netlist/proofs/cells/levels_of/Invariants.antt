use Rattle.std.proofs.Common.{◌≡◌, ◌<◌, ◌-◌, ℕ, suc, length}
use Rattle.std.specs.Prelude.{slice_index}
use Rattle.cell_netlist.proofs.cells.levels_of.Given as goal

abbrev pub invariant-loop-j : goal.invariant-loop-j
invariant-loop-j l = record {
  long : suc (length l.levels.items) ≡ l.j;
  each : (k : ℕ) → k < length l.levels.items → slice_index l.levels.items k ≡ slice_index l.heights (suc k) - 1;
}
