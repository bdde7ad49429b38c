-- The order of a cut: by lower edge, and then by left edge.
use Rattle.std.specs.Prelude.{◌≡◌, ◌⊎◌, List, [], ◌∷◌, ◌<ℤ◌}
use Rattle.std.specs.List.{AllByRecursion}
use Rattle.geom.specs.Rectangle.{Rectangle}

-- the first rectangle has a lower edge further down, or as low and a left edge further left
abbrev pub Before : Rectangle → Rectangle → Type 0
Before r t = (r.y0 <ℤ t.y0) ⊎ ((r.y0 ≡ t.y0) × (r.x0 <ℤ t.x0))

-- each is before all that follow
abbrev pub InOrder : List Rectangle → Type 0
InOrder [] = Unit {0}
InOrder (r ∷ rs) = AllByRecursion (Before r) rs × InOrder rs
