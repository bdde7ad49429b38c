-- Which structures hold a figure or a label.
use Rattle.std.specs.Prelude.{◌≡◌, ℕ, zero, suc, ◌≤◌, ◌||◌, List, [], ◌∷◌, Bool, true, false, map, slice_index_or}
use Rattle.poly_cut.specs.declared.layout.Item.{Item}
use Rattle.poly_cut.specs.declared.layout.Item.TheVariants.{Draw, Place, Text}
use Rattle.poly_cut.specs.declared.layout.WideStructure.{WideStructure}
use Rattle.poly_cut.specs.FlatForm.{shapes_of, labels_of, DEPTH}

-- some of the items is a figure or a label, or places a structure that is marked
abbrev pub some_held : List Bool → List Item → Bool
some_held marks [] = false
some_held marks (Draw layer datatype f ∷ es) = true
some_held marks (Place n at turn grid ∷ es) = slice_index_or marks n false || some_held marks es
some_held marks (Text l ∷ es) = true

-- the marks of the structures that hold something, down chains of fewer references than this
abbrev pub held : ℕ → List WideStructure → List Bool
held zero ss = []
held (suc depth) ss = map (λ s. some_held (held depth ss) s.items) ss

-- what is not marked has no shapes and no labels, as far as chains go
abbrev pub MarksAll : List WideStructure → List Bool → Type 0
MarksAll ss marks = (n depth : ℕ) → depth ≤ DEPTH → slice_index_or marks n false ≡ false
    → (shapes_of depth ss n ≡ []) × (labels_of depth ss n ≡ [])
