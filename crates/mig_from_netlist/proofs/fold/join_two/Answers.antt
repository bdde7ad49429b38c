use Rattle.std.proofs.Common.{ap, sym}
use Rattle.mig.specs.Graphs.{literal_value}
use Rattle.mig_from_netlist.specs.Code.Joins.{join}
use Rattle.mig_from_netlist.proofs.GateValues.{result_same}
use Rattle.mig_from_netlist.proofs.fold.join_two.Goals as goal

pub returns-in-And-clause-given : goal.returns-in-And-clause-given
returns-in-And-clause-given c = result_same c.and.result c.and.new.builder _ _
    (λ word v fit. ap (λ w. join w (literal_value v c.args.x) (literal_value v c.args.y)) (sym c.in-And.is))
    c.and.ensures.given

pub returns-in-Or-clause-given : goal.returns-in-Or-clause-given
returns-in-Or-clause-given c = result_same c.or.result c.or.new.builder _ _
    (λ word v fit. ap (λ w. join w (literal_value v c.args.x) (literal_value v c.args.y)) (sym c.in-Or.is))
    c.or.ensures.given
