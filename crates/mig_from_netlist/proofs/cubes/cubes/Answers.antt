use Rattle.std.proofs.Common.{ap, ◌∙◌}
use Rattle.blif_read.specs.declared.netlist.Cube.{Cube}
use Rattle.mig_from_netlist.proofs.Joining.{one_cube, all_cubes}
use Rattle.mig_from_netlist.proofs.cubes.cubes.Goals as goal

pub loop-one-preserved : goal.loop-one-preserved
loop-one-preserved c = one_cube c.one-item.result c.loop-one-test.true c.in_ok-push.ensures.items
    c.in_ok-literal.ensures.grown (c.as_slice.ensures ∙ ap (λ (t : Cube). t.plane) c.one-item.is)
    c.in_ok-literal.ensures.given c.loop-one.invariant

pub returns-clause-made : goal.returns-clause-made
returns-clause-made c =
    all_cubes c.args.builder.now _ _ c.args.cubes.now c.args.inputs.now _ c.loop-one-test.false c.loop-one.invariant
