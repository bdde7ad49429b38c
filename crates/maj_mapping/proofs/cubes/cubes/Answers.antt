use Rattle.maj_mapping.proofs.Cubing.{one_cube, cube_room}
use Rattle.maj_mapping.proofs.cubes.cubes.Goals as goal

pub loop-one-preserved : goal.loop-one-preserved
loop-one-preserved c = one_cube _ _ _ _ _ _ _ _ _ _ c.one-item.result c.requires.planes c.loop-one-test.true
    c.one-item.is c.as_slice.ensures c.loop-one.invariant c.in_ok-gate.ensures.gates c.in_ok-gate.ensures.at
    c.in_ok-push.ensures.items

pub cube-requires-clause-room : goal.cube-requires-clause-room
cube-requires-clause-room c = cube_room _ _ _ _ _ _ _ _ c.one-item.result c.loop-one-test.true c.one-item.is
    c.as_slice.ensures c.loop-one.invariant c.requires.room
