-- Rule E5: the metal of each net is short enough.
use Rattle.std.specs.Prelude.{ℕ, ◌+◌, ◌≤◌, List, [], ◌∷◌}
use Rattle.geom.specs.declared.shapes.Shape.{Shape}
use Rattle.layout_rules.specs.Nets.{AreNets}
use Rattle.layout_rules.specs.LengthRule.{length_in}

-- the length of a shape that stands in net m, where that is net n
abbrev pub weight : ℕ → Shape → ℕ → ℕ
weight n s m = length_in n (s, m)

-- what each shape adds to net n
abbrev pub weights : ℕ → List Shape → List ℕ → List ℕ
weights n [] nets = []
weights n (s ∷ ss) [] = []
weights n (s ∷ ss) (m ∷ nets) = weight n s m ∷ weights n ss nets

-- their sum
abbrev pub total : List ℕ → ℕ
total [] = 0
total (w ∷ ws) = w + total ws

-- in each net the lengths come to at most the limit, however the nets are numbered
abbrev pub NetsShort : List Shape → ℕ → Type 0
NetsShort shapes limit = (nets : List ℕ) → AreNets shapes nets → (n : ℕ) → total (weights n shapes nets) ≤ limit
