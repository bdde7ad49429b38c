-- Layouts that can be written, as the proofs about their bytes take them.
use Rattle.std.proofs.Common.{◌≡◌, ℕ, suc, ◌<◌, ◌^◌, List, [], ◌∷◌, map, length, true, false, None}
use Rattle.std.specs.Prelude.{slice_index_or, FitsSigned, int_le}
use Rattle.std.specs.List.{AllByRecursion}
use Rattle.std.specs.Int.{w32}
use Rattle.geom.specs.Rectangle.{Rectangle}
use Rattle.geom.specs.Writable.{names_in, holds_reference, is_referenced}
use Rattle.geom.specs.declared.layout.Element.{Element}
use Rattle.geom.specs.declared.layout.Element.TheVariants.{Box, Place, Text}
use Rattle.geom.specs.declared.layout.Structure.{Structure}
use Rattle.geom.specs.declared.layout.Layout.{Layout}
use Rattle.gds_records.specs.Whole.{Use, Outline, all_uses, outlines_fault, top_in, tops}
use Rattle.gds_records.specs.Drawing.{place_of}

abbrev pub IsText : List ℕ → Type 0
IsText text = AllByRecursion (λ b. 0 < b) text

-- short enough for a record
abbrev pub IsShort : List ℕ → Type 0
IsShort text = length text < 65530

pub record IsBox (r : Rectangle) : Type 0 where
  pub x0 : FitsSigned w32 r.x0
  pub y0 : FitsSigned w32 r.y0
  pub x1 : FitsSigned w32 r.x1
  pub y1 : FitsSigned w32 r.y1
  pub wide : int_le r.x0 r.x1 ≡ true
  pub high : int_le r.y0 r.y1 ≡ true
  pub not_thin : r.x0 ≡ r.x1 → ⊥
  pub not_flat : r.y0 ≡ r.y1 → ⊥

abbrev pub IsWritableElement : List (List ℕ) → Element → Type 0
IsWritableElement names (Box s) = (s.layer < 2 ^ 16) × (s.datatype < 2 ^ 16) × IsBox s.rect
IsWritableElement names (Place n x y) = (n < length names) × FitsSigned w32 x × FitsSigned w32 y
IsWritableElement names (Text l) = (l.layer < 2 ^ 16) × FitsSigned w32 l.x × FitsSigned w32 l.y × IsText l.text
    × IsShort l.text

abbrev pub IsWritableStructure : List (List ℕ) → Structure → Type 0
IsWritableStructure names s = IsText s.name × AllByRecursion (IsWritableElement names) s.elements × IsShort s.name
    × (0 < length s.name)

-- ---- the conditions on the whole, by name

abbrev pub element_uses : List (List ℕ) → List Element → List Use
element_uses names [] = []
element_uses names (Box s ∷ es) = element_uses names es
element_uses names (Place n x y ∷ es) = record { place = 0; name = slice_index_or names n [] } ∷ element_uses names es
element_uses names (Text l ∷ es) = element_uses names es

abbrev pub outline : List (List ℕ) → Structure → Outline
outline names s = record { place = 0; name = s.name; uses = element_uses names s.elements }

abbrev pub layout_outlines : List Structure → List Outline
layout_outlines ss = map (outline (names_in ss)) ss

-- each name stands in its own first place
pub record IsOutlined (layout : Layout) : Type 0 where
  pub each : AllByRecursion (IsWritableStructure (names_in layout.structures)) layout.structures
  pub distinct : (n : ℕ) → n < length layout.structures → place_of (slice_index_or (names_in layout.structures) n [])
      (names_in layout.structures) ≡ n
  pub conditions : outlines_fault 0 (all_uses (layout_outlines layout.structures))
      (layout_outlines layout.structures) ≡ None
  pub top : layout.top ≡ top_in (tops 0 (all_uses (layout_outlines layout.structures))
      (layout_outlines layout.structures))

-- ---- the same by number

-- from number k on, what is referenced references nothing
abbrev pub AreFlat : ℕ → List Structure → List Structure → Type 0
AreFlat k all [] = Unit {0}
AreFlat k all (s ∷ ss) = (is_referenced k all ≡ true → holds_reference s.elements ≡ false) × AreFlat (suc k) all ss

-- the numbers from k on that nothing references
abbrev pub unreferenced : ℕ → List Structure → List Structure → List ℕ
unreferenced k all [] = []
unreferenced k all (s ∷ ss) = elim (is_referenced k all) [
  | true ↦ unreferenced (suc k) all ss
  | false ↦ k ∷ unreferenced (suc k) all ss
]

pub record IsTree (layout : Layout) : Type 0 where
  pub each : AllByRecursion (IsWritableStructure (names_in layout.structures)) layout.structures
  pub distinct : (n : ℕ) → n < length layout.structures → place_of (slice_index_or (names_in layout.structures) n [])
      (names_in layout.structures) ≡ n
  pub flat : AreFlat 0 layout.structures layout.structures
  pub alone : unreferenced 0 layout.structures layout.structures ≡ layout.top ∷ []
