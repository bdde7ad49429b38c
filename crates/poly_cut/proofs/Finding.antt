-- The way down to the shape or label of a number, from facts as the code has them.
use Rattle.std.proofs.Common.{◌≡◌, ℕ, zero, suc, ◌+◌, ◌-◌, ◌*◌, ◌/◌, ◌%◌, ◌^◌, ◌<◌, ◌≤◌, List, [], ◌∷◌, map, length}
use Rattle.std.proofs.Common.{true, false, refl, sym, ap, subst, ◌∙◌, arith}
use Rattle.std.specs.Prelude.{Option, Some, None, slice_get, slice_index, slice_index_or, option_map, sum_by, All}
use Rattle.std.specs.List.{flat_map}
use Rattle.std.proofs.lemmas.List.Elements.{All-from_recursion, All-get_or}
use Rattle.std.proofs.lemmas.Option.{slice_get-get_or, slice_get_past, slice_get_within, get_or_from_slice_get}
use Rattle.std.proofs.Math.Nat.{mod-lt}
use Rattle.geom.specs.declared.shapes.Shape.{Shape}
use Rattle.geom.specs.declared.shapes.Label.{Label}
use Rattle.geom.specs.declared.shapes.Flat.{Flat}
use Rattle.geom.specs.FlatForm.{shape_limit}
use Rattle.poly_cut.specs.declared.layout.Point.{Point}
use Rattle.poly_cut.specs.declared.layout.Grid.{Grid}
use Rattle.poly_cut.specs.declared.layout.Item.{Item}
use Rattle.poly_cut.specs.declared.layout.WideStructure.{WideStructure}
use Rattle.poly_cut.specs.declared.layout.WideLayout.{WideLayout}
use Rattle.poly_cut.specs.declared.numbered.Drawn.TheVariants as Drawn
use Rattle.poly_cut.specs.declared.numbered.Spot.{Spot}
use Rattle.poly_cut.specs.declared.numbered.Copied.{Copied}
use Rattle.poly_cut.specs.Turns.{grid_points}
use Rattle.poly_cut.specs.Bounds.{IsShapeWithin, IsLabelWithin, IsNear}
use Rattle.poly_cut.specs.FlatForm.{items_at, item_shapes, item_labels, shapes_of, labels_of, wide_flat}
use Rattle.poly_cut.specs.Conditions.{IsGrid, IsItem, AreItems, IsFlattenable}
use Rattle.poly_cut.specs.Counts.{count_of, both, wide_count, told}
use Rattle.poly_cut.specs.Numbers.{drawn_of, drawn_at}
use Rattle.poly_cut.specs.Code.Counted.{Tell}
use Rattle.poly_cut.specs.Code.Numbered.{all_shapes, all_labels, AreShort, EndsWithin, IsIn, IsCopied}
use Rattle.poly_cut.proofs.Counting.{grid_count, count_is}
use Rattle.poly_cut.proofs.Reaching.{items_there, shapes_near, labels_near, points_near}
use Rattle.poly_cut.proofs.Numbering.{in_none, in_item, in_copy, enough, some_counted, shapes_are, labels_are}
use Rattle.poly_cut.proofs.Numbering.{shapes_sized, labels_sized, shapes_alone, labels_alone}

-- what holds of all elements holds of the one at a place
found_so : {A : Type 0} (P : A → Type 0) (xs : List A) (i : ℕ) (x : A) → All P xs → slice_get xs i ≡ Some x → P x
found_so P xs i x all is =
    subst P (get_or_from_slice_get xs i x x is) (All-get_or P xs i x (slice_get_within xs i x is) all)

pub item_so : (count : ℕ) (ss : List WideStructure) (structure i : ℕ) (e : Item) → AreItems count ss
    → slice_get (items_at ss structure) i ≡ Some e → IsItem count e
item_so count ss structure i e are there =
    found_so (IsItem count) (items_at ss structure) i e
    (All-from_recursion (IsItem count) (items_at ss structure) (items_there count ss structure are)) there

-- the item at the spot of a number in a structure
pub record Reaches (ss : List WideStructure) (structure : ℕ) (size : Item → ℕ) (number : ℕ) (spot : Spot)
    (item : Item) : Type 0 where
  pub there : slice_get (items_at ss structure) spot.item ≡ Some item
  pub inside : IsIn size (items_at ss structure) number spot

pub reaches : (ss : List WideStructure) (structure : ℕ) (size : Item → ℕ) (number : ℕ) (spot : Spot)
    (items : List Item) (e item : Item)
    → items ≡ items_at ss structure → IsIn size items number spot → e ≡ slice_index_or items spot.item e → e ≡ item
    → Reaches ss structure size number spot item
reaches ss structure size number spot items e item same inside at is = record {
  there = ap (λ (es : List Item). slice_get es spot.item) (sym same)
      ∙ slice_get-get_or items spot.item e inside.stands ∙ ap Some (sym at ∙ is);
  inside = subst (λ (es : List Item). IsIn size es number spot) same inside;
}

-- ---- the copy

some_points : (points each number : ℕ) → number < points * each → 0 < points
some_points zero each number lt = absurd (omega arith)
some_points (suc points) each number lt = omega arith

-- the number among the copies of what has so many, of which this is what 64 bits tell
pub record Goes (points each count number : ℕ) : Type 0 where
  pub some : 0 < count
  pub within : number < points * count
  pub here : number < points * each
  pub small : number < 2 ^ 64 - 1

pub goes : (size : Item → ℕ) (items : List Item) (points each count number : ℕ) (spot : Spot)
    → IsIn size items number spot → count ≡ told each → spot.number < points * each → number < 2 ^ 64 - 1
    → Goes points each count spot.number
goes size items points each count number spot inside is here fits =
    let before = inside.before in
    let small : spot.number < 2 ^ 64 - 1 = omega arith in
    record {
      some = some_counted points each count spot.number is here;
      within = enough points each count spot.number (some_points points each spot.number here) is here small;
      here = here;
      small = small;
    }

pub small_copied : (points : List Point) (each count number : ℕ) (copied : Copied) → IsCopied points count number copied
    → 0 < count → count ≡ told each → copied.number < 2 ^ 64 - 1
small_copied points each count number copied so some is =
    let rest : number % count < count = mod-lt number some in
    let left = so.left in
    omega arith

pub point_near : (at : Point) (g : Grid) (count number : ℕ) (copied : Copied) → IsGrid at g
    → IsCopied (grid_points at g) count number copied → IsNear (2 ^ 40) copied.point
point_near at g count number copied grid so =
    found_so (IsNear (2 ^ 40)) (grid_points at g) (number / count) copied.point (points_near at g grid) so.at

pub shape_near : (count : ℕ) (ss : List WideStructure) (n i : ℕ) (s : Shape) → AreItems count ss
    → Some s ≡ slice_get (all_shapes ss n) i → IsShapeWithin (2 ^ 40) s
unfolding all_shapes
shape_near count ss n i s are is =
    found_so (IsShapeWithin (2 ^ 40)) (all_shapes ss n) i s (shapes_near count 65 ss n (omega arith) are) (sym is)

pub label_near : (count : ℕ) (ss : List WideStructure) (n i : ℕ) (l : Label) → AreItems count ss
    → Some l ≡ slice_get (all_labels ss n) i → IsLabelWithin (2 ^ 40) l
unfolding all_labels
label_near count ss n i l are is =
    found_so (IsLabelWithin (2 ^ 40)) (all_labels ss n) i l (labels_near count 65 ss n (omega arith) are) (sym is)

-- the one of the number among the copies
pub placed_there : {A : Type 0} (h : Point → A → A) (xs : List A) (at : Point) (g : Grid) (count number : ℕ)
    (copied : Copied) (found : Option A) → count ≡ told (length xs) → number < g.rows * g.columns * length xs
    → number < 2 ^ 64 - 1 → IsCopied (grid_points at g) count number copied → found ≡ slice_get xs copied.number
    → slice_get (flat_map (λ p. map (h p) xs) (grid_points at g)) number ≡ option_map (h copied.point) found
placed_there h xs at g count number copied found is lt small so there =
    let size : length (grid_points at g) ≡ g.rows * g.columns = grid_count g.rows g at in
    in_copy h xs (grid_points at g) count number copied is
    (subst (λ (n : ℕ). number < n * length xs) (sym size) lt) small so
    ∙ ap (option_map (h copied.point)) (sym there)

-- ---- the items of a structure

pub no_shape : (ss : List WideStructure) (structure number : ℕ) (items : List Item) → AreShort ss
    → items ≡ items_at ss structure → sum_by (shapes_alone ss) items ≤ number
    → slice_get (all_shapes ss structure) number ≡ None
no_shape ss structure number items short same past =
    ap (λ (l : List Shape). slice_get l number) (shapes_are ss structure short)
    ∙ in_none (item_shapes (all_shapes ss)) (shapes_alone ss) (shapes_sized ss) (items_at ss structure) number
    (subst (λ (es : List Item). sum_by (shapes_alone ss) es ≤ number) same past)

pub shape_there : (ss : List WideStructure) (structure number : ℕ) (spot : Spot) (item : Item) → AreShort ss
    → Reaches ss structure (shapes_alone ss) number spot item
    → slice_get (all_shapes ss structure) number ≡ slice_get (item_shapes (all_shapes ss) item) spot.number
shape_there ss structure number spot item short r =
    ap (λ (l : List Shape). slice_get l number) (shapes_are ss structure short)
    ∙ in_item (item_shapes (all_shapes ss)) (shapes_alone ss) (shapes_sized ss) (items_at ss structure) number spot item
    r.inside r.there

pub no_label : (ss : List WideStructure) (structure number : ℕ) (items : List Item) → AreShort ss
    → items ≡ items_at ss structure → sum_by (labels_alone ss) items ≤ number
    → slice_get (all_labels ss structure) number ≡ None
no_label ss structure number items short same past =
    ap (λ (l : List Label). slice_get l number) (labels_are ss structure short)
    ∙ in_none (item_labels (all_labels ss)) (labels_alone ss) (labels_sized ss) (items_at ss structure) number
    (subst (λ (es : List Item). sum_by (labels_alone ss) es ≤ number) same past)

pub label_there : (ss : List WideStructure) (structure number : ℕ) (spot : Spot) (item : Item) → AreShort ss
    → Reaches ss structure (labels_alone ss) number spot item
    → slice_get (all_labels ss structure) number ≡ slice_get (item_labels (all_labels ss) item) spot.number
label_there ss structure number spot item short r =
    ap (λ (l : List Label). slice_get l number) (labels_are ss structure short)
    ∙ in_item (item_labels (all_labels ss)) (labels_alone ss) (labels_sized ss) (items_at ss structure) number spot item
    r.inside r.there

-- ---- counts of one kind, and the flat form

pub shapes_told : (ss : List WideStructure) (counts : List ℕ)
    → Tell counts (count_of (record { shapes = true; labels = false }) 65 ss)
    → Tell counts (λ n. length (all_shapes ss n))
unfolding all_shapes
shapes_told ss counts tell = λ n. tell n
    ∙ ap told (count_is (record { shapes = true; labels = false }) 65 ss n ∙ omega arith)

pub labels_told : (ss : List WideStructure) (counts : List ℕ)
    → Tell counts (count_of (record { shapes = false; labels = true }) 65 ss)
    → Tell counts (λ n. length (all_labels ss n))
unfolding all_labels
labels_told ss counts tell = λ n. tell n
    ∙ ap told (count_is (record { shapes = false; labels = true }) 65 ss n ∙ omega arith)

-- ---- the flat form

pub all_short : (w : WideLayout) → IsFlattenable w → AreShort w.structures
unfolding AreShort
all_short w is = is.short

pub top_ends : (w : WideLayout) → IsFlattenable w → EndsWithin 65 w.structures w.top
unfolding EndsWithin
top_ends w is = is.short w.top

pub shape_flat : (w : WideLayout) (ss : List WideStructure) (number : ℕ) (found : Option Shape) → ss ≡ w.structures
    → found ≡ slice_get (all_shapes ss w.top) number → found ≡ slice_get (wide_flat w).shapes number
unfolding all_shapes wide_flat
shape_flat w ss number found same is =
    is ∙ ap (λ (l : List WideStructure). slice_get (shapes_of 65 l w.top) number) same

pub label_flat : (w : WideLayout) (ss : List WideStructure) (number : ℕ) (found : Option Label) → ss ≡ w.structures
    → found ≡ slice_get (all_labels ss w.top) number → found ≡ slice_get (wide_flat w).labels number
unfolding all_labels wide_flat
label_flat w ss number found same is =
    is ∙ ap (λ (l : List WideStructure). slice_get (labels_of 65 l w.top) number) same

-- a flat form has few shapes and labels
few_drawn : (w : WideLayout) → IsFlattenable w
    → length (wide_flat w).shapes + length (wide_flat w).labels ≤ shape_limit
unfolding wide_flat wide_count
few_drawn w is = subst (λ (n : ℕ). n ≤ shape_limit) (count_is both 65 w.structures w.top) is.within

exact : (count n : ℕ) → n ≤ shape_limit → count ≡ told n → count ≡ n
exact count n few is = omega arith

-- so that their counts are told
pub shapes_exact : (w : WideLayout) (ss : List WideStructure) (items counts : List ℕ) (count : ℕ) → IsFlattenable w
    → ss ≡ w.structures → counts ≡ items → Tell items (λ n. length (all_shapes ss n)) → count ≡ slice_index counts w.top
    → count ≡ length (wide_flat w).shapes
unfolding all_shapes wide_flat
shapes_exact w ss items counts count is same alike tell at =
    let few = few_drawn w is in
    exact count (length (shapes_of 65 w.structures w.top)) (omega arith)
    (at ∙ ap (λ (l : List ℕ). slice_index l w.top) alike ∙ tell w.top
    ∙ ap (λ (l : List WideStructure). told (length (shapes_of 65 l w.top))) same)

pub labels_exact : (w : WideLayout) (ss : List WideStructure) (items counts : List ℕ) (count : ℕ) → IsFlattenable w
    → ss ≡ w.structures → counts ≡ items → Tell items (λ n. length (all_labels ss n)) → count ≡ slice_index counts w.top
    → count ≡ length (wide_flat w).labels
unfolding all_labels wide_flat
labels_exact w ss items counts count is same alike tell at =
    let few = few_drawn w is in
    exact count (length (labels_of 65 w.structures w.top)) (omega arith)
    (at ∙ ap (λ (l : List ℕ). slice_index l w.top) alike ∙ tell w.top
    ∙ ap (λ (l : List WideStructure). told (length (labels_of 65 l w.top))) same)

-- the shape or label of a number is a shape below the count of shapes
pub drawn_shape : (flat : Flat) (number : ℕ) → number < length flat.shapes
    → option_map Drawn.Shape (slice_get flat.shapes number) ≡ drawn_at flat number
unfolding drawn_at
drawn_shape flat number lt = there flat.shapes number lt
  where
    there : (shapes : List Shape) (i : ℕ) → i < length shapes
        → option_map Drawn.Shape (slice_get shapes i)
        ≡ drawn_of (slice_get shapes i) (slice_get flat.labels (number - length flat.shapes))
    there [] i lt = absurd (omega arith)
    there (s ∷ shapes) zero lt = refl
    there (s ∷ shapes) (suc i) lt = there shapes i (omega arith)

-- and otherwise a label
pub drawn_label : (flat : Flat) (number count : ℕ) → count ≡ length flat.shapes → count ≤ number
    → option_map Drawn.Label (slice_get flat.labels (number - count)) ≡ drawn_at flat number
unfolding drawn_at
drawn_label flat number count is past =
    ap (λ (n : ℕ). option_map Drawn.Label (slice_get flat.labels (number - n))) is
    ∙ ap (λ (shape : Option Shape). drawn_of shape (slice_get flat.labels (number - length flat.shapes)))
    (sym (slice_get_past flat.shapes number (omega arith)))
