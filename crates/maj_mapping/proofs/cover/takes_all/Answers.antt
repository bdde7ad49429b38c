use Rattle.std.proofs.Common.{◌≡◌, ℕ, Bool, true, List, [], ◌∷◌, refl, ap, ◌∙◌, sym, drop}
use Rattle.std.proofs.lemmas.Bool.{ltb-false}
use Rattle.std.proofs.lemmas.List.{drop_all}
use Rattle.maj_mapping.specs.Values.{takes_all}
use Rattle.maj_mapping.proofs.cover.takes_all.Goals as goal

-- a plane that is longer than the values takes them
takes_past : (plane : List ℕ) (values : List Bool) → values ≡ [] → takes_all plane values ≡ true
takes_past plane values e = ap (takes_all plane) e ∙ none plane
  where
    none : (plane : List ℕ) → takes_all plane [] ≡ true
    none [] = refl
    none (b ∷ bs) = refl

pub returns-in_default : goal.returns-in_default
returns-in_default c = sym (takes_past (drop c.loop-i.i c.args.plane.now) (drop c.loop-i.i c.args.values.now)
    (drop_all c.loop-i.i c.args.values.now (ltb-false _ _ (sym c.in_default.ensures.lookup.0)))) ∙ c.loop-i.invariant
