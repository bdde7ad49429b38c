use Rattle.std.proofs.Common.{subst, sym}
use Rattle.mig.specs.Building.{AllThere}
use Rattle.mig_from_netlist.proofs.GateValues.{result_same}
use Rattle.mig_from_netlist.proofs.Joining.{cube_value}
use Rattle.mig_from_netlist.proofs.cubes.cube.Goals as goal

pub fold-requires : goal.fold-requires
fold-requires c = subst (AllThere c.args.builder.now) (sym c.deref.ensures.value)
    (c.in_ok-literals.ensures.there c.args.builder.now c.requires)

pub returns-clause-given : goal.returns-clause-given
returns-clause-given c =
    result_same c.fold.result c.fold.new.builder _ _
    (cube_value c.fold.new.builder _ _ _ _ c.deref.ensures.value c.in_ok-literals.ensures.values)
    c.fold.ensures.given
