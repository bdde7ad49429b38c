use Rattle.std.proofs.Common.{subst, sym}
use Rattle.mig.specs.Building.{Gives}
use Rattle.mig_from_netlist.specs.Code.Known.{value_at}
use Rattle.mig_from_netlist.proofs.Decomposing.{gives_none, gives_all, gives_turned}
use Rattle.mig_from_netlist.proofs.decompose.made.Goals as goal

pub returns-then-table-eq0 : goal.returns-then-table-eq0
returns-then-table-eq0 c = λ b inputs few known. subst (λ t. Gives b 0 (value_at t inputs)) (sym c.if-table-eq0.true)
    (gives_none b inputs few)

pub returns-then-table-eq18446744073709551615 : goal.returns-then-table-eq18446744073709551615
returns-then-table-eq18446744073709551615 c = λ b inputs few known. subst (λ t. Gives b 1 (value_at t inputs))
    (sym c.if-table-eq18446744073709551615.true) (gives_all b inputs few)

pub returns-in-Some : goal.returns-in-Some
returns-in-Some c = λ b inputs few known. known.each c.in-Some.ensures.0 _ c.in-Some.ensures.1

pub returns-in-Some-find : goal.returns-in-Some-find
returns-in-Some-find c =
    λ b inputs few known. gives_turned b inputs c.args.table _ _ few c.ranges.table.fits c.turned.ensures
    (known.each c.in-Some-find.ensures.0 _ c.in-Some-find.ensures.1)
