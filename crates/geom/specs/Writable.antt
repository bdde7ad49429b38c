-- Layouts that can be written as a stream (GDSII Stream Format manual: lengths of names, four-byte coordinates, and
-- structures that are referenced to one depth, from one top).
use Rattle.std.specs.Prelude.{◌≡◌, ◌≢◌, ℕ, ◌<◌, ◌≤◌, ◌^◌, ◌==◌, ◌||◌, List, [], ◌∷◌, Bool, true, false, length, map}
use Rattle.std.specs.Prelude.{All, AllPairs, FitsSigned}
use Rattle.std.specs.Int.{w32}
use Rattle.geom.specs.Rectangle.{IsProper}
use Rattle.geom.specs.declared.shapes.Shape.{Shape}
use Rattle.geom.specs.declared.shapes.Label.{Label}
use Rattle.geom.specs.declared.layout.Element.{Element}
use Rattle.geom.specs.declared.layout.Element.TheVariants.{Box, Place, Text}
use Rattle.geom.specs.declared.layout.Structure.{Structure}
use Rattle.geom.specs.declared.layout.Layout.{Layout}
use Rattle.geom.specs.FlatForm.{elements_at}

-- a name or a text: 1 to 512 bytes, none of them zero
pub record IsWritableText (text : List ℕ) : Type 0 where
  pub some : 0 < length text
  pub short : length text ≤ 512
  pub without_zeros : All (λ b. 0 < b) text

-- a shape whose corners fit four bytes each
pub record IsWritableShape (s : Shape) : Type 0 where
  pub layer : s.layer < 2 ^ 16
  pub datatype : s.datatype < 2 ^ 16
  pub proper : IsProper s.rect
  pub left : FitsSigned w32 s.rect.x0
  pub bottom : FitsSigned w32 s.rect.y0
  pub right : FitsSigned w32 s.rect.x1
  pub above : FitsSigned w32 s.rect.y1

-- the layer, the place and the text of a label fit their records
pub record IsWritableLabel (l : Label) : Type 0 where
  pub layer : l.layer < 2 ^ 16
  pub x : FitsSigned w32 l.x
  pub y : FitsSigned w32 l.y
  pub written : IsWritableText l.text

-- an element among this many structures
abbrev pub IsWritableElement : ℕ → Element → Type 0
IsWritableElement count (Box s) = IsWritableShape s
IsWritableElement count (Place n x y) = (n < count) × FitsSigned w32 x × FitsSigned w32 y
IsWritableElement count (Text l) = IsWritableLabel l

-- so do the name and each element of a structure, among this many structures
pub record IsWritableStructure (count : ℕ) (s : Structure) : Type 0 where
  pub name : IsWritableText s.name
  pub elements : All (IsWritableElement count) s.elements

-- some element is a reference
abbrev pub holds_reference : List Element → Bool
holds_reference [] = false
holds_reference (Box s ∷ es) = holds_reference es
holds_reference (Place n x y ∷ es) = true
holds_reference (Text l ∷ es) = holds_reference es

-- some element is a reference to structure n
abbrev pub refers_to : ℕ → List Element → Bool
refers_to n [] = false
refers_to n (Box s ∷ es) = refers_to n es
refers_to n (Place m x y ∷ es) = m == n || refers_to n es
refers_to n (Text l ∷ es) = refers_to n es

-- some structure refers to structure n
abbrev pub is_referenced : ℕ → List Structure → Bool
is_referenced n [] = false
is_referenced n (s ∷ ss) = refers_to n s.elements || is_referenced n ss

-- the names of structures
abbrev pub names_in : List Structure → List (List ℕ)
names_in ss = map (λ s. s.name) ss

-- each structure can be written, no two have one name, what is referenced holds no reference, and every structure but
-- the top is referenced
pub record IsWritable (layout : Layout) : Type 0 where
  pub each : All (IsWritableStructure (length layout.structures)) layout.structures
  pub distinct : AllPairs (λ a b. a ≢ b) (names_in layout.structures)
  pub shallow : (n : ℕ) → is_referenced n layout.structures ≡ true
      → holds_reference (elements_at layout.structures n) ≡ false
  pub top_stands : layout.top < length layout.structures
  pub top_is_free : is_referenced layout.top layout.structures ≡ false
  pub others_are_used : (n : ℕ) → n < length layout.structures → n ≢ layout.top
      → is_referenced n layout.structures ≡ true
