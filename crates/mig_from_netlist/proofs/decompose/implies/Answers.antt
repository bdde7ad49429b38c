use Rattle.std.proofs.lemmas.Bool.{eqb-true}
use Rattle.mig_from_netlist.proofs.Decomposing.{implies_where}
use Rattle.mig_from_netlist.proofs.decompose.implies.Goals as goal

pub returns : goal.returns
returns c = λ yes. implies_where c.args.a c.args.b c.ranges.b.fits (eqb-true _ _ yes)
