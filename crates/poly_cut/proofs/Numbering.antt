-- The shape or label of a number: which item it is in, which copy, and that chains end.
use Rattle.std.proofs.Common.{◌≡◌, ℕ, zero, suc, ◌+◌, ◌-◌, ◌*◌, ◌/◌, ◌%◌, ◌^◌, ◌<◌, ◌≤◌, ◌++◌, List, [], ◌∷◌}
use Rattle.std.proofs.Common.{Bool, true, false, map, take, length, refl, sym, ap, subst, ◌∙◌, arith, inl, inr}
use Rattle.std.specs.Prelude.{Some, None, slice_get, slice_index_or, option_map, sum_by, ◌||◌}
use Rattle.std.specs.List.{flat_map}
use Rattle.std.proofs.lemmas.Bool.{cases_lt}
use Rattle.std.proofs.lemmas.List.{length-append, length-map}
use Rattle.std.proofs.lemmas.List.Concat.{length-flat_map}
use Rattle.std.proofs.lemmas.List.Sums.{sum_by_more}
use Rattle.std.proofs.lemmas.Option.{slice_get-map, slice_get_past, get_or_from_slice_get}
use Rattle.std.proofs.lemmas.Nat.{div-add-mod'}
use Rattle.std.proofs.Math.Nat.{div-eq_of_lt, mod-lt, le-mul_of_pos_right}
use Rattle.geom.specs.declared.shapes.Shape.{Shape}
use Rattle.geom.specs.declared.shapes.Label.{Label}
use Rattle.poly_cut.specs.declared.counts.CountedKinds.{CountedKinds}
use Rattle.poly_cut.specs.declared.layout.Point.{Point}
use Rattle.poly_cut.specs.declared.layout.Grid.{Grid}
use Rattle.poly_cut.specs.declared.layout.Turn.{Turn}
use Rattle.poly_cut.specs.declared.layout.Item.{Item}
use Rattle.poly_cut.specs.declared.layout.Item.TheVariants.{Draw, Place, Text}
use Rattle.poly_cut.specs.declared.layout.WideStructure.{WideStructure}
use Rattle.poly_cut.specs.declared.numbered.Spot.{Spot}
use Rattle.poly_cut.specs.declared.numbered.Copied.{Copied}
use Rattle.poly_cut.specs.Turns.{placed_shape, placed_label, grid_points}
use Rattle.poly_cut.specs.FlatForm.{items_at, item_shapes, item_labels, shapes_of, labels_of, DEPTH}
use Rattle.poly_cut.specs.Conditions.{goes_down, some_placed}
use Rattle.poly_cut.specs.Counts.{item_count, told}
use Rattle.poly_cut.specs.Code.Numbered.{all_shapes, all_labels, AreShort, EndsWithin, IsIn, IsCopied}
use Rattle.poly_cut.proofs.Counting.{told_exact, item_length}

-- ---- elements of joined lists

pub early : {A : Type 0} (xs ys : List A) (i : ℕ) → i < length xs → slice_get (xs ++ ys) i ≡ slice_get xs i
early [] ys i lt = absurd (omega arith)
early (x ∷ xs) ys zero lt = refl
early (x ∷ xs) ys (suc i) lt = early xs ys i (omega arith)

pub later : {A : Type 0} (xs ys : List A) (i : ℕ) → slice_get (xs ++ ys) (length xs + i) ≡ slice_get ys i
later [] ys i = (let e : 0 + i ≡ i = omega arith in ap (slice_get ys) e)
later (x ∷ xs) ys i =
    (let e : suc (length xs) + i ≡ suc (length xs + i) = omega arith in ap (slice_get (x ∷ xs ++ ys)) e ∙ later xs ys i)

none_past : {A B : Type 0} (i : ℕ) (x : A) → slice_get {X = A} [] i ≡ Some x → B
none_past zero x e = absurd cc
none_past (suc i) x e = absurd cc

-- an element of the part at a place
part : {X A : Type 0} (f : X → List A) (xs : List X) (i r : ℕ) (x : X) → slice_get xs i ≡ Some x → r < length (f x)
    → slice_get (flat_map f xs) (length (flat_map f (take i xs)) + r) ≡ slice_get (f x) r
part f [] i r x is lt = none_past i x is
part f (y ∷ ys) zero r x is lt =
    let same : y ≡ x = cc in
    let e : 0 + r ≡ r = omega arith in
    ap (slice_get (f y ++ flat_map f ys)) e
    ∙ early (f y) (flat_map f ys) r (subst (λ z. r < length (f z)) (sym same) lt)
    ∙ ap (λ z. slice_get (f z) r) same
part f (y ∷ ys) (suc i) r x is lt =
    let e : length (f y ++ flat_map f (take i ys)) + r ≡ length (f y) + (length (flat_map f (take i ys)) + r) =
    omega (arith, length-append (f y) (flat_map f (take i ys))) in
    ap (slice_get (f y ++ flat_map f ys)) e
    ∙ later (f y) (flat_map f ys) (length (flat_map f (take i ys)) + r)
    ∙ part f ys i r x is lt

-- and where all parts are of one length
even : {X A : Type 0} (f : X → List A) (n : ℕ) → ((x : X) → length (f x) ≡ n) → (xs : List X) (i r : ℕ) (x : X)
    → slice_get xs i ≡ Some x → r < n → slice_get (flat_map f xs) (i * n + r) ≡ slice_get (f x) r
even f n each [] i r x is lt = none_past i x is
even f n each (y ∷ ys) zero r x is lt =
    let same : y ≡ x = cc in
    let e : 0 * n + r ≡ r = omega arith in
    ap (slice_get (f y ++ flat_map f ys)) e
    ∙ early (f y) (flat_map f ys) r (omega (arith, each y))
    ∙ ap (λ z. slice_get (f z) r) same
even f n each (y ∷ ys) (suc i) r x is lt =
    let e : suc i * n + r ≡ length (f y) + (i * n + r) = omega (arith, each y) in
    ap (slice_get (f y ++ flat_map f ys)) e
    ∙ later (f y) (flat_map f ys) (i * n + r)
    ∙ even f n each ys i r x is lt

-- ---- the item of a number

module _ {A : Type 0} (f : Item → List A) (size : Item → ℕ) (sized : (e : Item) → size e ≡ length (f e)) where
  total : (items : List Item) → sum_by size items ≡ length (flat_map f items)
  total items = ap (λ (g : Item → ℕ). sum_by g items) (λ i e. sized e i) ∙ sym (length-flat_map f items)

  -- none of the items has it
  pub in_none : (items : List Item) (number : ℕ) → sum_by size items ≤ number
      → slice_get (flat_map f items) number ≡ None
  in_none items number le = slice_get_past (flat_map f items) number (omega (arith, total items, le))

  -- the item has it
  pub in_item : (items : List Item) (number : ℕ) (spot : Spot) (e : Item) → IsIn size items number spot
      → slice_get items spot.item ≡ Some e
      → slice_get (flat_map f items) number ≡ slice_get (f e) spot.number
  in_item items number spot e at is =
      ap (slice_get (flat_map f items)) (sym at.before
      ∙ ap (λ (n : ℕ). n + spot.number) (total (take spot.item items)))
      ∙ part f items spot.item spot.number e is (omega (arith, at.within e is, sized e))

-- what is left of the number behind one item more
pub spot_more : (kinds : CountedKinds) (of : ℕ → ℕ) (items : List Item) (i : ℕ) (e : Item) (count left next number : ℕ)
    → i < length items → e ≡ slice_index_or items i e → count ≡ told (item_count kinds of e) → number < 2 ^ 64 - 1
    → sum_by (item_count kinds of) (take i items) + left ≡ number → count ≤ left → next ≡ left - count
    → sum_by (item_count kinds of) (take (i + 1) items) + next ≡ number
spot_more kinds of items i e count left next number within at is small before enough next_is =
    let more = sum_by_more (item_count kinds of) items i e within in
    let same = ap (item_count kinds of) at in
    omega arith

-- the item that has more than are left
pub spot_here : (kinds : CountedKinds) (of : ℕ → ℕ) (items : List Item) (e : Item) (count number : ℕ) (spot : Spot)
    → spot.item < length items → e ≡ slice_index_or items spot.item e → count ≡ told (item_count kinds of e)
    → sum_by (item_count kinds of) (take spot.item items) + spot.number ≡ number → spot.number < count
    → IsIn (item_count kinds of) items number spot
spot_here kinds of items e count number spot within at is before less = record {
  stands = within;
  before = before;
  within = λ x found.
      let same : x ≡ e = sym (get_or_from_slice_get items spot.item x e found) ∙ sym at in
      subst (λ (y : Item). spot.number < item_count kinds of y) (sym same) (omega arith);
}

-- ---- the copy of a number

some_each : (points each number : ℕ) → number < points * each → 0 < each
some_each points zero number lt = absurd (omega arith)
some_each points (suc each) number lt = omega arith

pub some_counted : (points each count number : ℕ) → count ≡ told each → number < points * each → 0 < count
some_counted points each count number is lt = let some = some_each points each number lt in omega arith

-- as 64 bits tell it, there are enough
pub enough : (points each count number : ℕ) → 0 < points → count ≡ told each → number < points * each
    → number < 2 ^ 64 - 1 → number < points * count
enough points each count number some is lt small = elim (cases_lt each (2 ^ 64)) [
  | inl low ↦ subst (λ (n : ℕ). number < points * n) (sym (is ∙ told_exact each low)) lt
  | inr high ↦
      let all : count ≡ 2 ^ 64 - 1 = omega arith in
      let more : count ≤ count * points = le-mul_of_pos_right count some in
      omega arith
]

-- the quotient is the place, and the remainder the number there, also where there are more than 64 bits tell
places : (each count number : ℕ) → 0 < count → count ≡ told each → number < 2 ^ 64 - 1
    → number / count * each + number % count ≡ number
places each count number some is small = elim (cases_lt each (2 ^ 64)) [
  | inl low ↦
      subst (λ (n : ℕ). number / count * n + number % count ≡ number) (is ∙ told_exact each low)
      (div-add-mod' number count)
  | inr high ↦
      let all : number < count = omega arith in
      let none : number / count ≡ 0 = div-eq_of_lt all in
      let alike : 0 * each + number % count ≡ 0 * count + number % count = omega arith in
      ap (λ (n : ℕ). n * each + number % count) none ∙ alike
      ∙ ap (λ (n : ℕ). n * count + number % count) (sym none) ∙ div-add-mod' number count
]

pub in_copy : {A : Type 0} (h : Point → A → A) (xs : List A) (ps : List Point) (count number : ℕ) (c : Copied)
    → count ≡ told (length xs) → number < length ps * length xs → number < 2 ^ 64 - 1 → IsCopied ps count number c
    → slice_get (flat_map (λ p. map (h p) xs) ps) number ≡ option_map (h c.point) (slice_get xs c.number)
in_copy h xs ps count number c is lt small so =
    let some : 0 < count = some_counted (length ps) (length xs) count number is lt in
    let rest : number % count < count = mod-lt number some in
    ap (slice_get (flat_map (λ p. map (h p) xs) ps)) (sym (places (length xs) count number some is small))
    ∙ even (λ p. map (h p) xs) (length xs) (λ p. length-map xs (h p)) ps (number / count) (number % count) c.point so.at
    (omega arith)
    ∙ slice_get-map (h c.point) xs (number % count)
    ∙ ap (λ (n : ℕ). option_map (h c.point) (slice_get xs n)) (sym so.left)

-- ---- chains end

left_false : (a b : Bool) → (a || b) ≡ false → a ≡ false
left_false true b e = e
left_false false b e = refl

right_false : (a b : Bool) → (a || b) ≡ false → b ≡ false
right_false true b e = absurd cc
right_false false b e = e

-- what is placed by an item doesn't pass where no item places what passes
pub below : (test : ℕ → Bool) (es : List Item) (i n : ℕ) (at : Point) (t : Turn) (g : Grid)
    → some_placed test es ≡ false → slice_get es i ≡ Some (Place n at t g) → test n ≡ false
below test [] i n at t g none is = none_past i _ is
below test (e ∷ es) zero n at t g none is =
    let same : e ≡ Place n at t g = cc in
    left_false (test n) (some_placed test es) (subst (λ (x : Item). some_placed test (x ∷ es) ≡ false) same none)
below test (Draw l d f ∷ es) (suc i) n at t g none is = below test es i n at t g none is
below test (Place m a u h ∷ es) (suc i) n at t g none is =
    below test es i n at t g (right_false (test m) (some_placed test es) none) is
below test (Text l ∷ es) (suc i) n at t g none is = below test es i n at t g none is

-- one level less
pub less_deep : (depth : ℕ) (ss : List WideStructure) (structure i n : ℕ) (at : Point) (t : Turn) (g : Grid)
    → EndsWithin depth ss structure → slice_get (items_at ss structure) i ≡ Some (Place n at t g)
    → (0 < depth) × EndsWithin (depth - 1) ss n
unfolding EndsWithin
less_deep zero ss structure i n at t g none is = absurd cc
less_deep (suc depth) ss structure i n at t g none is =
    let e : suc depth - 1 ≡ depth = omega arith in
    (omega arith, rw e (below (goes_down depth ss) (items_at ss structure) i n at t g none is))

shapes_alike : (of' of : ℕ → List Shape) (test : ℕ → Bool) → ((n : ℕ) → test n ≡ false → of' n ≡ of n)
    → (es : List Item) → some_placed test es ≡ false
    → flat_map (item_shapes of') es ≡ flat_map (item_shapes of) es
shapes_alike of' of test alike [] none = refl
shapes_alike of' of test alike (Draw l d f ∷ es) none =
    ap (λ (rest : List Shape). item_shapes of (Draw l d f) ++ rest) (shapes_alike of' of test alike es none)
shapes_alike of' of test alike (Place n at t g ∷ es) none =
    let here = alike n (left_false (test n) (some_placed test es) none) in
    let rest = shapes_alike of' of test alike es (right_false (test n) (some_placed test es) none) in
    λ i. flat_map (λ p. map (placed_shape t p) (here i)) (grid_points at g) ++ rest i
shapes_alike of' of test alike (Text l ∷ es) none = shapes_alike of' of test alike es none

shapes_stay : (depth : ℕ) (ss : List WideStructure) (n : ℕ) → goes_down depth ss n ≡ false
    → shapes_of (suc depth) ss n ≡ shapes_of depth ss n
shapes_stay zero ss n none = absurd cc
shapes_stay (suc depth) ss n none =
    shapes_alike (shapes_of (suc depth) ss) (shapes_of depth ss) (goes_down depth ss) (shapes_stay depth ss)
    (items_at ss n) none

-- all shapes of a structure are those that its items add
pub shapes_are : (ss : List WideStructure) (n : ℕ) → AreShort ss
    → all_shapes ss n ≡ flat_map (item_shapes (all_shapes ss)) (items_at ss n)
unfolding all_shapes AreShort
shapes_are ss n short = sym (shapes_stay DEPTH ss n (short n))

labels_alike : (of' of : ℕ → List Label) (test : ℕ → Bool) → ((n : ℕ) → test n ≡ false → of' n ≡ of n)
    → (es : List Item) → some_placed test es ≡ false
    → flat_map (item_labels of') es ≡ flat_map (item_labels of) es
labels_alike of' of test alike [] none = refl
labels_alike of' of test alike (Draw l d f ∷ es) none = labels_alike of' of test alike es none
labels_alike of' of test alike (Place n at t g ∷ es) none =
    let here = alike n (left_false (test n) (some_placed test es) none) in
    let rest = labels_alike of' of test alike es (right_false (test n) (some_placed test es) none) in
    λ i. flat_map (λ p. map (placed_label t p) (here i)) (grid_points at g) ++ rest i
labels_alike of' of test alike (Text l ∷ es) none =
    ap (λ (rest : List Label). l ∷ rest) (labels_alike of' of test alike es none)

labels_stay : (depth : ℕ) (ss : List WideStructure) (n : ℕ) → goes_down depth ss n ≡ false
    → labels_of (suc depth) ss n ≡ labels_of depth ss n
labels_stay zero ss n none = absurd cc
labels_stay (suc depth) ss n none =
    labels_alike (labels_of (suc depth) ss) (labels_of depth ss) (goes_down depth ss) (labels_stay depth ss)
    (items_at ss n) none

-- so all labels
pub labels_are : (ss : List WideStructure) (n : ℕ) → AreShort ss
    → all_labels ss n ≡ flat_map (item_labels (all_labels ss)) (items_at ss n)
unfolding all_labels AreShort
labels_are ss n short = sym (labels_stay DEPTH ss n (short n))

-- ---- the numbers of shapes alone, and of labels

abbrev pub shapes_alone : List WideStructure → Item → ℕ
shapes_alone ss = item_count (record { shapes = true; labels = false }) (λ n. length (all_shapes ss n))

abbrev pub labels_alone : List WideStructure → Item → ℕ
labels_alone ss = item_count (record { shapes = false; labels = true }) (λ n. length (all_labels ss n))

pub shapes_sized : (ss : List WideStructure) (e : Item) → shapes_alone ss e ≡ length (item_shapes (all_shapes ss) e)
shapes_sized ss e =
    item_length (record { shapes = true; labels = false }) (all_shapes ss) (λ n. []) (λ n. length (all_shapes ss n))
    (λ n. omega arith) e
    ∙ omega arith

pub labels_sized : (ss : List WideStructure) (e : Item) → labels_alone ss e ≡ length (item_labels (all_labels ss) e)
labels_sized ss e =
    item_length (record { shapes = false; labels = true }) (λ n. []) (all_labels ss) (λ n. length (all_labels ss n))
    (λ n. omega arith) e
    ∙ omega arith
