use Rattle.union_find.specs.Forests.{trees}
use Rattle.cell_netlist.specs.Code.Tabled.{view_of}
use Rattle.cell_netlist.specs.Code.Progress.{IsJudged}
use Rattle.cell_netlist.proofs.judge.first_fault.Given as goal

abbrev pub invariant-loop-j : goal.invariant-loop-j
invariant-loop-j l = IsJudged (view_of l.fn.tabled) l.j (trees l.heights) l.taken
