-- The contacts of a part of an excitation line as a list, and which lists fit a start, a link and a bar.
use Rattle.std.specs.Prelude.{◌≡◌, ℕ, ◌<◌, ◌≤◌, ◌==◌, ◌&&◌, Bool}
use Rattle.std.specs.Prelude.{List, length, Option, Some, None, slice_get, slice_index}
use Rattle.geom.specs.declared.shapes.Shape.{Shape}
use Rattle.layout_rules.specs.declared.layers.TheConstants.{BAR, START}
use Rattle.layout_rules.specs.Layers.{is_line}
use Rattle.layout_rules.specs.ExcitationLines.{IsPart}

-- each of these shapes is a bar
abbrev pub AreBars : List Shape → List ℕ → Type 0
AreBars shapes numbers = (p : ℕ) → p < length numbers → IsPart shapes BAR (slice_index numbers p)

-- none of these shapes is a bar
abbrev pub AreNoBars : List Shape → List ℕ → Type 0
AreNoBars shapes numbers = (p : ℕ) → p < length numbers → IsPart shapes BAR (slice_index numbers p) → ⊥

-- one contact, which is a bar
pub record IsOneBar (shapes : List Shape) (contacts : List ℕ) : Type 0 where
  pub count : length contacts ≡ 1
  pub bars : AreBars shapes contacts

-- two contacts, which are bars
pub record AreTwoBars (shapes : List Shape) (contacts : List ℕ) : Type 0 where
  pub count : length contacts ≡ 2
  pub bars : AreBars shapes contacts

-- one contact or two, and none is a bar
pub record AreBarEnds (shapes : List Shape) (contacts : List ℕ) : Type 0 where
  pub some : 1 ≤ length contacts
  pub few : length contacts ≤ 2
  pub no_bars : AreNoBars shapes contacts

-- a start on this layer
abbrev pub is_start_on : ℕ → Shape → Bool
is_start_on layer s = is_line s && s.datatype == START && s.layer == layer

-- the least shape of a layer
pub record IsLeastOn (shapes : List Shape) (layer a : ℕ) : Type 0 where
  pub shape : Shape
  pub shape_is : slice_get shapes a ≡ Some shape
  pub of_layer : shape.layer ≡ layer
  pub least : (c : ℕ) (s : Shape) → slice_get shapes c ≡ Some s → s.layer ≡ layer → a ≤ c

-- the least shape of a layer, or nothing where it has none
abbrev pub FindsOn : List Shape → ℕ → Option ℕ → Type 0
FindsOn shapes layer None = (i : ℕ) (s : Shape) → slice_get shapes i ≡ Some s → s.layer ≡ layer → ⊥
FindsOn shapes layer (Some a) = IsLeastOn shapes layer a
