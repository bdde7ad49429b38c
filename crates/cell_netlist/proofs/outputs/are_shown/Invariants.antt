use Rattle.std.proofs.Common.{◌≡◌, drop}
use Rattle.std.specs.List.{list_all}
use Rattle.cell_netlist.specs.Levels.{is_shown}
use Rattle.cell_netlist.specs.Code.Tabled.{view_of}
use Rattle.cell_netlist.proofs.outputs.are_shown.Given as goal

abbrev pub invariant-loop-output : goal.invariant-loop-output
invariant-loop-output l =
    list_all (is_shown (view_of l.fn.tabled)) (drop l.output-index l.outputs)
    ≡ list_all (is_shown (view_of l.fn.tabled)) l.outputs
