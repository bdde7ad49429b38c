-- Chains of contacts that never turn back, by which a search knows the shape before another one without its whole line.
use Rattle.std.specs.Prelude.{◌≡◌, ◌≢◌, ℕ, List, [], ◌∷◌, slice_get, Some}
use Rattle.geom.specs.declared.shapes.Shape.{Shape}
use Rattle.layout_rules.specs.declared.layers.TheConstants.{BAR}
use Rattle.layout_rules.specs.ExcitationLines.{IsPart, IsChain, phase_of}

-- no number comes again straight after the next one
abbrev pub NeverTurnsBack : List ℕ → Type 0
NeverTurnsBack [] = Unit {0}
NeverTurnsBack (a ∷ []) = Unit {0}
NeverTurnsBack (b ∷ a ∷ []) = Unit {0}
NeverTurnsBack (b ∷ a ∷ c ∷ rest) = (b ≢ c) × NeverTurnsBack (a ∷ c ∷ rest)

-- a chain that never turns back leads from a start to shape b over shape a
pub record ChainBefore (shapes : List Shape) (a b : ℕ) : Type 0 where
  pub rest : List ℕ
  pub chain : IsChain shapes (b ∷ a ∷ rest)
  pub onward : NeverTurnsBack (b ∷ a ∷ rest)

-- such a chain leads to bar b and gives it this phase
pub record HasChainPhase (shapes : List Shape) (b phase : ℕ) : Type 0 where
  pub is_bar : IsPart shapes BAR b
  pub before : ℕ
  pub before_shape : Shape
  pub before_shape_is : slice_get shapes before ≡ Some before_shape
  pub is_before : ChainBefore shapes before b
  pub phase_is : phase_of before_shape is_bar.shape ≡ phase
