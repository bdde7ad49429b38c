-- The index stands as it did, and the new gate inverts nothing.
use Rattle.std.proofs.Common.{◌+◌, ◌<◌, ◌^◌, length, subst, sym}
use Rattle.maj_mapping.proofs.MakerLaws.{maker_make}
use Rattle.maj_mapping.proofs.maker.Maker.make.Goals as goal

pub invariant_of-self-2 : goal.invariant_of-self-2
invariant_of-self-2 c =
    let room : length c.self.inside.gates + 1 < 2 ^ 32 = subst (λ m. length m.gates + 1 < 2 ^ 32)
    (sym c.self.view_is) c.requires.room in
    rw c.in_ok-push.ensures.ok (maker_make _ _ _ _ c.self.invariant c.requires.plain room)
