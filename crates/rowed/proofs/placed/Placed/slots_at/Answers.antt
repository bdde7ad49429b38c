use Rattle.std.proofs.Common.{arith, ◌∙◌, ap, length, [], get_or}
use Rattle.rowed.specs.PlacedNets.{PlacedView}
use Rattle.rowed.proofs.SpanLaws.{as_many, got_at}
use Rattle.rowed.proofs.placed.Placed.slots_at.Goals as goal

pub get-requires : goal.get-requires
get-requires c =
    let many = as_many c.args.self.now c.known.ensures in
    omega (arith, ap (λ (p : PlacedView). length p.slots) c.self.view_is, c.requires)

pub returns : goal.returns
returns c =
    c.as_slice.ensures ∙ got_at _ c.args.number _ _ c.get.ensures
    ∙ ap (λ (p : PlacedView). get_or p.slots c.args.number []) c.self.view_is
