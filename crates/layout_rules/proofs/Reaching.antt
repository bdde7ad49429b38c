-- What steps lead to over a list of stops is decided where each step is, after Warshall: one stop more in turn.
use Rattle.std.proofs.Common.{◌≡◌, ◌⊎◌, subst, inl, inr, List, [], ◌∷◌}
use Rattle.layout_rules.proofs.Deciding.{dec_either, dec_both}

abbrev pub IsAmong : {X : Type 0} → X → List X → Type 0
IsAmong x [] = ⊥
IsAmong x (stop ∷ stops) = (x ≡ stop) ⊎ IsAmong x stops

module _ {X : Type 0} (Step : X → X → Type 0) where
  -- one step, or several with a rest at some of the stops between them
  abbrev pub Way : List X → X → X → Type 0
  Way [] x y = Step x y
  Way (stop ∷ stops) x y = Way stops x y ⊎ (Way stops x stop × Way stops stop y)

  pub dec_way : ((x y : X) → Dec (Step x y)) → (stops : List X) (x y : X) → Dec (Way stops x y)
  dec_way decided [] x y = decided x y
  dec_way decided (stop ∷ stops) x y =
      dec_either (dec_way decided stops x y) (dec_both (dec_way decided stops x stop) (dec_way decided stops stop y))

  pub way_step : (stops : List X) (x y : X) → Step x y → Way stops x y
  way_step [] x y step = step
  way_step (stop ∷ stops) x y step = inl (way_step stops x y step)

  -- two ways make one over the stop where they meet
  pub way_over : (stops : List X) (x m y : X) → IsAmong m stops → Way stops x m → Way stops m y → Way stops x y
  way_over [] x m y among first second = absurd among
  way_over (stop ∷ stops) x m y (inl e) first second = inr (before first, after second)
    where
      before : Way (stop ∷ stops) x m → Way stops x stop
      before (inl way) = subst (Way stops x) e way
      before (inr ways) = ways.0

      after : Way (stop ∷ stops) m y → Way stops stop y
      after (inl way) = subst (λ (z : X). Way stops z y) e way
      after (inr ways) = ways.1
  way_over (stop ∷ stops) x m y (inr among) first second = joined (λ a b. way_over stops a m b among) first second
    where
      joined : ((a b : X) → Way stops a m → Way stops m b → Way stops a b) → Way (stop ∷ stops) x m
          → Way (stop ∷ stops) m y → Way (stop ∷ stops) x y
      joined over (inl a) (inl b) = inl (over x y a b)
      joined over (inl a) (inr b) = inr (over x stop a b.0, b.1)
      joined over (inr a) (inl b) = inr (a.0, over stop y a.1 b)
      joined over (inr a) (inr b) = inr (a.0, b.1)

  -- what each step keeps is kept on the way
  pub way_keeps : (P : X → Type 0) → ((x y : X) → Step x y → P x → P y) → (stops : List X) (x y : X)
      → Way stops x y → P x → P y
  way_keeps P keeps [] x y step = keeps x y step
  way_keeps P keeps (stop ∷ stops) x y (inl way) = way_keeps P keeps stops x y way
  way_keeps P keeps (stop ∷ stops) x y (inr ways) = λ h. way_keeps P keeps stops stop y ways.1
      (way_keeps P keeps stops x stop ways.0 h)
