-- The index gets the new inverter.
use Rattle.std.proofs.Common.{◌≡◌, ◌+◌, ◌<◌, ◌^◌, length, subst, sym, ap, ◌∙◌, None}
use Rattle.maj_mapping.specs.Operations.{inverter_from}
use Rattle.maj_mapping.proofs.MakerLaws.{maker_same, maker_invert}
use Rattle.maj_mapping.proofs.maker.Maker.invert.Goals as goal

pub invariant_of-self-2 : goal.invariant_of-self-2
invariant_of-self-2 c =
    let at : c.next-at.result ≡ length c.self.inside.gates = c.next-at.ensures
    ∙ ap (λ m. length m.gates) (sym c.self.view_is) in
    let room : length c.self.inside.gates + 1 < 2 ^ 32 = subst (λ m. length m.gates + 1 < 2 ^ 32)
    (sym c.self.view_is) c.requires.room in
    let free : inverter_from c.args.x 0 c.self.inside.gates ≡ None =
    subst (λ m. inverter_from c.args.x 0 m.gates ≡ None) (sym c.self.view_is) c.requires.free in
    rw (c.in_ok-push.ensures.ok, at)
    (maker_invert _ _ _ c.args.x
    (maker_same _ _ _ _ c.make_place.ensures.same c.self.invariant) c.in_ok-make_place.ensures.there free room)
