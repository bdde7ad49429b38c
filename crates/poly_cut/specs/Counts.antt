-- How many shapes and labels a flat form has, counted structure by structure: of both kinds, or of one of them alone.
use Rattle.std.specs.Prelude.{ℕ, zero, suc, ◌-◌, ◌*◌, ◌^◌, min, List, Bool, true, false, length, sum_by}
use Rattle.poly_cut.specs.declared.counts.CountedKinds.{CountedKinds}
use Rattle.poly_cut.specs.declared.layout.Item.{Item}
use Rattle.poly_cut.specs.declared.layout.Item.TheVariants.{Draw, Place, Text}
use Rattle.poly_cut.specs.declared.layout.WideStructure.{WideStructure}
use Rattle.poly_cut.specs.declared.layout.WideLayout.{WideLayout}
use Rattle.poly_cut.specs.Figures.{cut_of}
use Rattle.poly_cut.specs.FlatForm.{items_at, DEPTH}

-- so many, where their kind is counted
abbrev pub counted : Bool → ℕ → ℕ
counted true n = n
counted false n = 0

-- in what an item adds, where these are the counts of each structure
abbrev pub item_count : CountedKinds → (ℕ → ℕ) → Item → ℕ
item_count kinds of (Draw layer datatype f) = counted kinds.shapes (length (cut_of f))
item_count kinds of (Place n at turn grid) = grid.rows * grid.columns * of n
item_count kinds of (Text l) = counted kinds.labels 1

-- in the flat form of structure n, down chains of fewer references than this
abbrev pub count_of : CountedKinds → ℕ → List WideStructure → ℕ → ℕ
count_of kinds zero ss n = 0
count_of kinds (suc depth) ss n = sum_by (item_count kinds (count_of kinds depth ss)) (items_at ss n)

-- shapes and labels together
abbrev pub both : CountedKinds
both = record { shapes = true; labels = true }

-- in the flat form of the top structure
unfoldable pub wide_count : WideLayout → ℕ
wide_count w = count_of both DEPTH w.structures w.top

-- a number as 64 bits tell it: the greatest of them stands for all above it
abbrev pub told : ℕ → ℕ
told n = min n (2 ^ 64 - 1)
