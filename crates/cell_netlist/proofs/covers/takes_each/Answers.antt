use Rattle.std.proofs.Common.{◌∙◌, sym, drop}
use Rattle.std.proofs.lemmas.List.{drop_all}
use Rattle.cell_netlist.proofs.Valued.{past}
use Rattle.cell_netlist.proofs.covers.takes_each.Goals as goal

pub returns-then-i-values : goal.returns-then-i-values
returns-then-i-values c =
    sym (past (drop c.loop-i.i c.args.plane.now) (drop c.loop-i.i c.args.values.now)
    (drop_all c.loop-i.i c.args.values.now c.if-i-values.true)) ∙ c.loop-i.invariant
