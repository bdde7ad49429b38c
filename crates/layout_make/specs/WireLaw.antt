-- Shapes of a drawing are joined exactly where they are of one net: a wire with its two pins, or a pin without a wire.
use Rattle.std.specs.Prelude.{◌≡◌, ℕ, false}
use Rattle.cell_library.specs.Library.{LibraryView}
use Rattle.layout_rules.specs.Touch.{Joined}
use Rattle.layout_make.specs.Sheet.{Tag, InPin, OutPin}
use Rattle.layout_make.specs.Nets.{NoNet, net_of}
use Rattle.layout_make.specs.Tags.{At, sheet, tags}
use Rattle.rowed.specs.PlacedNets.{PlacedView}
use Rattle.layout_make.specs.Laws.{flat_shapes}

-- for any two shapes of the flat form, told by their tags
pub record WireLaw (p : PlacedView) (l : LibraryView) : Type 0 where
  pub one_net : (i j : ℕ) (t u : Tag) → At (tags p l) i t → At (tags p l) j u → Joined (flat_shapes p l) i j
      → net_of (sheet p l) t ≡ net_of (sheet p l) u
  pub joined : (i j : ℕ) (t u : Tag) → At (tags p l) i t → At (tags p l) j u → (net_of (sheet p l) t ≡ NoNet → ⊥)
      → net_of (sheet p l) t ≡ net_of (sheet p l) u → Joined (flat_shapes p l) i j
  -- pins without a wire are joined to themselves alone
  pub lone_input : (c n i j : ℕ) (u : Tag) → At (tags p l) i (InPin 0 c n) → At (tags p l) j u
      → Joined (flat_shapes p l) i j → i ≡ j
  pub lone_output : (r c o i j : ℕ) (u : Tag) → At (tags p l) i (OutPin r c o) → (sheet p l).wired r c ≡ false
      → At (tags p l) j u → Joined (flat_shapes p l) i j → i ≡ j
