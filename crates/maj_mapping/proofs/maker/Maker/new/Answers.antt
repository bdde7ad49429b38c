use Rattle.std.proofs.Common.{arith}
use Rattle.maj_mapping.proofs.Beginning.{one_more, begun_size, one_longer}
use Rattle.maj_mapping.proofs.maker.Maker.new.Goals as goal

pub loop-input-preserved : goal.loop-input-preserved
loop-input-preserved c = one_more _ _ _ _ c.loop-input-test.true c.loop-input.invariant c.in_ok-make.ensures.gates

pub make-requires-clause-room : goal.make-requires-clause-room
make-requires-clause-room c =
    let size = begun_size _ _ _ c.loop-input.invariant in
    let few = c.requires in
    let test = c.loop-input-test.true in
    omega arith

pub make-requires-2-clause-room : goal.make-requires-2-clause-room
make-requires-2-clause-room c =
    let size = begun_size _ _ _ c.loop-input.invariant in
    let few = c.requires in
    omega arith

pub make-requires-3-clause-room : goal.make-requires-3-clause-room
make-requires-3-clause-room c =
    let size = begun_size _ _ _ c.loop-input.invariant in
    let more = one_longer _ _ _ c.in_ok-make-2.ensures.gates in
    let few = c.requires in
    omega arith
