use Rattle.std.proofs.Common.{refl, inr}
use Rattle.cell_netlist.specs.Code.Tabled.{view_of}
use Rattle.cell_netlist.proofs.Shown.{fed_of, unfed_of}
use Rattle.cell_netlist.proofs.cells.fed.Goals as goal

pub returns-then-not-used-clause-fault : goal.returns-then-not-used-clause-fault
returns-then-not-used-clause-fault c =
    inr (
      refl,
      unfed_of (view_of c.args.tabled.now) _ _ c.requires.all
          c.known.ensures (c.are_used-used.ensures.no c.if-not-used.true),
    )

pub shown-requires-clause-fed : goal.shown-requires-clause-fed
shown-requires-clause-fed c =
    fed_of (view_of c.args.tabled.now) _ _ c.requires.all c.known.ensures
    (c.are_used-used.ensures.yes c.if-not-used.false)
