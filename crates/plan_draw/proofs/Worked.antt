-- The packed rows of small nets, computed.
use Rattle.std.specs.Prelude.{◌≡◌, [], ◌∷◌, refl}
use Rattle.row_place.specs.Examples.{and_net, tied_net, split_net}
use Rattle.plan_draw.specs.Packs.{pack}

pub and_slots : (pack and_net).slots ≡ (0 ∷ 1 ∷ 2 ∷ []) ∷ (0 ∷ []) ∷ (0 ∷ []) ∷ []
unfolding and_net
and_slots = refl

pub tied_slots : (pack tied_net).slots ≡ (0 ∷ 1 ∷ 2 ∷ 3 ∷ []) ∷ (0 ∷ 3 ∷ []) ∷ (0 ∷ 1 ∷ []) ∷ []
unfolding tied_net
tied_slots = refl

pub split_slots : (pack split_net).slots ≡ (0 ∷ 1 ∷ []) ∷ (0 ∷ 2 ∷ []) ∷ (0 ∷ 1 ∷ 2 ∷ []) ∷ []
unfolding split_net
split_slots = refl
