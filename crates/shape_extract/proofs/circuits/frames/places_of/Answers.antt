use Rattle.std.proofs.Common.{arith}
use Rattle.shape_extract.proofs.FramePlaces.{frame_within, places_more, places_all}
use Rattle.shape_extract.proofs.circuits.frames.places_of.Goals as goal

pub index_mut-requires : goal.index_mut-requires
index_mut-requires c = omega
    (arith, frame_within _ _ c.requires.frames _ c.loop-place-test.true, c.loop-place.invariant.long)

pub loop-place-preserved : goal.loop-place-preserved
loop-place-preserved c = places_more _ _ _ _ c.requires.frames c.loop-place-test.true c.loop-place.invariant

pub returns : goal.returns
returns c = places_all _ _ _ _ c.loop-place-test.false c.loop-place.invariant
