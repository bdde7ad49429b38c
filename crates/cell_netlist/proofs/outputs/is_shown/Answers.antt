use Rattle.cell_netlist.specs.Code.Tabled.{view_of}
use Rattle.cell_netlist.proofs.Shown.{shown_then}
use Rattle.cell_netlist.proofs.outputs.is_shown.Goals as goal

pub returns-then-name : goal.returns-then-name
returns-then-name c =
    shown_then (view_of c.args.tabled.now) c.args.signal _ _ _
    c.is_name-name.ensures c.if-name.true c.shown_by.ensures.is c.uses_of-uses.ensures
