use Rattle.mig_from_netlist.proofs.Joining.{cubes_later, on_gives, off_gives}
use Rattle.mig_from_netlist.proofs.cubes.by_cubes.Goals as goal

pub returns-then-def-clause-given : goal.returns-then-def-clause-given
returns-then-def-clause-given c = on_gives c.args.def.now _ c.args.inputs.now _ c.if-def.true
    (cubes_later c.in_ok-any.ensures.grown c.deref.ensures.value c.as_slice.ensures c.in_ok-cubes.ensures.made)
    c.in_ok-any.ensures.given

pub returns-clause-given : goal.returns-clause-given
returns-clause-given c = off_gives c.args.def.now _ c.args.inputs.now _ c.if-def.false c.turned.ensures
    (cubes_later c.in_ok-any.ensures.grown c.deref.ensures.value c.as_slice.ensures c.in_ok-cubes.ensures.made)
    c.in_ok-any.ensures.given
