use Rattle.std.proofs.lemmas.Bool.{both_ways}
use Rattle.geom.specs.Near.{IsClose}
use Rattle.geom.proofs.Finding.{among_more, passed_far, among_passed, among_all}
use Rattle.geom.proofs.index.buckets.list_among.Goals as goal

pub loop-place-preserved-then-meets : goal.loop-place-preserved-then-meets
loop-place-preserved-then-meets c =
    rw c.in_ok-push.ensures.items
    (among_more _ _ _ _ _ _ _ _ c.loop-place.invariant c.at-spot.ensures (c.meets.ensures.0 c.if-meets.true))

pub loop-place-preserved : goal.loop-place-preserved
loop-place-preserved c =
    let far : IsClose c.args.zone.now.rect c.at-spot.result.rect c.args.zone.now.margin
    → ⊥ = λ close. both_ways c.meets.result c.if-meets.false (c.meets.ensures.1 close) in
    among_passed _ _ _ _ _ _ _ _ c.loop-place.invariant
    (passed_far _ _ _ _ _ _ _ c.requires.blocks c.place_after-place.ensures.passed c.at-spot.ensures far)

pub returns : goal.returns
returns c = among_all _ _ _ _ _ _ _ _ c.loop-place-test.false c.loop-place.invariant
