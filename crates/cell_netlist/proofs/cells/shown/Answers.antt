use Rattle.std.proofs.Common.{refl, sym, ◌∙◌}
use Rattle.cell_netlist.specs.Code.Tabled.{view_of}
use Rattle.cell_netlist.proofs.Shown.{unshown_none}
use Rattle.cell_netlist.proofs.Ended.{nearly_of}
use Rattle.cell_netlist.proofs.cells.shown.Goals as goal

pub returns-then-not-all-clause-fault : goal.returns-then-not-all-clause-fault
returns-then-not-all-clause-fault c = (
  refl,
  unshown_none (view_of c.args.tabled.now) c.requires.fed
      (sym (rw c.requires.outputs at c.are_shown-all.ensures) ∙ c.if-not-all.true),
)

pub on_one_level-requires : goal.on_one_level-requires
on_one_level-requires c =
    rw c.deref.ensures.value
    (nearly_of c.args.tabled.now.net.now c.args.tabled.now.table.now.gates.items _ _ _ c.args.tabled.now.three _
    c.known.ensures c.requires.table
    c.requires.fed c.requires.levelled
    (sym (rw c.requires.outputs at c.are_shown-all.ensures) ∙ c.if-not-all.false)
    (rw c.requires.outputs at c.in_ok-nodes.ensures))
