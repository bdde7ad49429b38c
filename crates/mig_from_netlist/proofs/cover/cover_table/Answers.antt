use Rattle.std.proofs.Common.{ap, arith, ◌||◌, ◌∙◌, subst, ◌<◌, length, get_or, refl}
use Rattle.blif_read.specs.declared.netlist.Cube.{Cube}
use Rattle.mig_from_netlist.specs.Code.Covers.{some_at, plane_at}
use Rattle.truth_tables.proofs.Bits.{holds_none}
use Rattle.mig_from_netlist.proofs.Planes.{one_plane, all_planes, of_on, of_off}
use Rattle.mig_from_netlist.proofs.cover.cover_table.Goals as goal

pub loop-cube-init : goal.loop-cube-init
loop-cube-init c = λ i lt. ap (λ t. t || some_at c.args.def.now.cubes i) (holds_none i)

pub loop-cube-preserved : goal.loop-cube-preserved
loop-cube-preserved c = λ i lt.
    one_plane c.args.def.now.cubes c.loop-cube.cube-index c.loop-cube.table c.plane_table-table.result _ i
    c.cube-item.result
    (subst (λ cs. c.loop-cube.cube-index < length cs) c.as_slice-cube-items.ensures c.loop-cube-test.true)
    (c.loop-cube.invariant i lt)
    (c.plane_table-table.ensures i lt ∙ ap (λ bs. plane_at bs 0 i) (c.as_slice.ensures
    ∙ ap (λ (t : Cube). t.plane)
    (c.cube-item.is ∙ ap (λ cs. get_or cs c.loop-cube.cube-index c.cube-item.result) c.as_slice-cube-items.ensures)))
    refl

pub returns-then-def : goal.returns-then-def
returns-then-def c = λ i lt. of_on c.args.def.now c.loop-cube.table i c.if-def.true
    (all_planes c.args.def.now _ _ c.loop-cube.table i c.as_slice-cube-items.ensures c.loop-cube-test.false
    (c.loop-cube.invariant i lt))

pub returns-else-def : goal.returns-else-def
returns-else-def c = λ i lt. of_off c.args.def.now c.loop-cube.table i c.if-def.false
    (let t = c.loop-cube.auto.table-fits in omega arith) lt
    (all_planes c.args.def.now _ _ c.loop-cube.table i c.as_slice-cube-items.ensures c.loop-cube-test.false
    (c.loop-cube.invariant i lt))
