-- Structures that are not marked have no shapes and no labels.
use Rattle.std.proofs.Common.{◌≡◌, ◌⊎◌, ℕ, zero, suc, ◌+◌, ◌-◌, ◌<◌, ◌++◌, List, [], ◌∷◌, Bool, true, false, map, take}
use Rattle.std.proofs.Common.{length, refl, sym, ap, subst, ◌∙◌, arith, inl, inr}
use Rattle.std.specs.Prelude.{◌||◌, slice_index_or}
use Rattle.std.specs.List.{flat_map}
use Rattle.std.specs.Cmp.{booleans_Decides}
use Rattle.std.specs.Cmp.Lexicographic.{pointwise}
use Rattle.std.proofs.Math.Bool.{beq}
use Rattle.std.proofs.lemmas.Slice.Eq.{slice_eq-Decides}
use Rattle.std.proofs.lemmas.List.{take_more}
use Rattle.geom.specs.declared.shapes.Shape.{Shape}
use Rattle.geom.specs.declared.shapes.Label.{Label}
use Rattle.poly_cut.specs.declared.layout.Item.{Item}
use Rattle.poly_cut.specs.declared.layout.Item.TheVariants.{Draw, Place, Text}
use Rattle.poly_cut.specs.declared.layout.WideStructure.{WideStructure}
use Rattle.poly_cut.specs.FlatForm.{items_at, item_shapes, item_labels, shapes_of, labels_of}
use Rattle.poly_cut.specs.Code.Holding.{some_held, held, MarksAll}
use Rattle.poly_cut.specs.Turns.{placed_shape, placed_label, grid_points}
use Rattle.poly_cut.proofs.Placed.{copies_none}

-- ---- item by item

held_append : (marks : List Bool) (xs ys : List Item) → some_held marks
    (xs ++ ys) ≡ (some_held marks xs || some_held marks ys)
held_append marks [] ys = refl
held_append marks (Draw l d f ∷ xs) ys = refl
held_append marks (Place n at t g ∷ xs) ys = turn (slice_index_or marks n false) (held_append marks xs ys)
  where
    turn : (b : Bool) → some_held marks (xs ++ ys) ≡ (some_held marks xs || some_held marks ys)
        → (b || some_held marks (xs ++ ys)) ≡ ((b || some_held marks xs) || some_held marks ys)
    turn true rest = refl
    turn false rest = rest
held_append marks (Text l ∷ xs) ys = refl

either : (a b c : Bool) → a ≡ (b || c) → (b ≡ true) ⊎ (c ≡ true) → a ≡ true
either a true c e h = e
either a false c e (inl h) = absurd cc
either a false c e (inr h) = e ∙ h

neither : (a b c : Bool) → a ≡ (b || c) → b ≡ false → c ≡ false → a ≡ false
neither a true c e h k = absurd cc
neither a false c e h k = e ∙ k

-- an item that holds something, and one that doesn't
pub held_found : (marks : List Bool) (items : List Item) (i : ℕ) (e : Item) → i < length items
    → e ≡ slice_index_or items i e
    → some_held marks (e ∷ []) ≡ true → some_held marks items ≡ true
held_found marks [] i e lt at h = absurd (omega arith)
held_found marks (x ∷ xs) zero e lt at h =
    either (some_held marks (x ∷ xs)) (some_held marks (x ∷ [])) (some_held marks xs) (held_append marks (x ∷ []) xs)
    (inl (sym (ap (λ (y : Item). some_held marks (y ∷ [])) at) ∙ h))
held_found marks (x ∷ xs) (suc i) e lt at h =
    either (some_held marks (x ∷ xs)) (some_held marks (x ∷ [])) (some_held marks xs) (held_append marks (x ∷ []) xs)
    (inr (held_found marks xs i e (omega arith) at h))

pub held_next : (marks : List Bool) (items : List Item) (i : ℕ) (e : Item) → i < length items
    → e ≡ slice_index_or items i e
    → some_held marks (take i items) ≡ false → some_held marks (e ∷ []) ≡ false
    → some_held marks (take (i + 1) items) ≡ false
held_next marks items i e lt at before here =
    neither (some_held marks (take (i + 1) items)) (some_held marks (take i items)) (some_held marks (e ∷ []))
    (ap (λ (l : List Item). some_held marks l) (take_more items i e lt
    ∙ ap (λ (x : Item). take i items ++ x ∷ []) (sym at)) ∙ held_append marks (take i items) (e ∷ []))
    before here

-- ---- a round that marks no other is the last

pub same_marks : (xs ys : List Bool) → pointwise beq xs ys ≡ true → xs ≡ ys
same_marks xs ys e = (slice_eq-Decides booleans_Decides xs ys (pointwise beq xs ys) refl).0 e

pub settled : (depth : ℕ) (ss : List WideStructure) → held (suc depth) ss ≡ held depth ss → (more : ℕ)
    → held (more + depth) ss ≡ held depth ss
settled depth ss same zero = (let e : 0 + depth ≡ depth = omega arith in rw e refl)
settled depth ss same (suc more) =
    let e : suc more + depth ≡ suc (more + depth) = omega arith in
    rw e (ap (λ (marks : List Bool). map (λ (s : WideStructure). some_held marks s.items) ss)
    (settled depth ss same more) ∙ same)

-- ---- marks stay

some_grows : (ms ns : List Bool) → ((n : ℕ) → slice_index_or ms n false ≡ true → slice_index_or ns n false ≡ true)
    → (es : List Item)
    → some_held ms es ≡ true → some_held ns es ≡ true
some_grows ms ns more [] h = h
some_grows ms ns more (Draw l d f ∷ es) h = refl
some_grows ms ns more (Place n at t g ∷ es) h = turn (slice_index_or ms n false) (slice_index_or ns n false) (more n) h
    (λ k. some_grows ms ns more es k)
  where
    turn : (a b : Bool) → (a ≡ true → b ≡ true) → (a || some_held ms es) ≡ true
        → (some_held ms es ≡ true → some_held ns es ≡ true) → (b || some_held ns es) ≡ true
    turn a true m k rest = refl
    turn true false m k rest = absurd (let no : false ≡ true = m refl in cc)
    turn false false m k rest = rest k
some_grows ms ns more (Text l ∷ es) h = refl

map_grows : (f g : WideStructure → Bool) → ((s : WideStructure) → f s ≡ true → g s ≡ true)
    → (ss : List WideStructure) (n : ℕ)
    → slice_index_or (map f ss) n false ≡ true → slice_index_or (map g ss) n false ≡ true
map_grows f g more [] n h = h
map_grows f g more (s ∷ ss) zero h = more s h
map_grows f g more (s ∷ ss) (suc n) h = map_grows f g more ss n h

held_grows : (depth : ℕ) (ss : List WideStructure) (n : ℕ) → slice_index_or (held depth ss) n false ≡ true
    → slice_index_or (held (suc depth) ss) n false ≡ true
held_grows zero ss n h = absurd cc
held_grows (suc depth) ss n h =
    map_grows (λ s. some_held (held depth ss) s.items) (λ s. some_held (held (suc depth) ss) s.items)
    (λ s k. some_grows (held depth ss) (held (suc depth) ss) (held_grows depth ss) s.items k) ss n h

held_within : (more depth : ℕ) (ss : List WideStructure) (n : ℕ) → slice_index_or (held depth ss) n false ≡ true
    → slice_index_or (held (more + depth) ss) n false ≡ true
held_within zero depth ss n h = (let e : 0 + depth ≡ depth = omega arith in rw e h)
held_within (suc more) depth ss n h =
    let e : suc more + depth ≡ suc (more + depth) = omega arith in
    rw e (held_grows (more + depth) ss n (held_within more depth ss n h))

-- ---- what is not marked is empty

-- the items have no shapes and no labels, where these are those of each structure
abbrev NoneOf : (ℕ → List Shape) → (ℕ → List Label) → List Item → Type 0
NoneOf shapes labels es = (flat_map (item_shapes shapes) es ≡ []) × (flat_map (item_labels labels) es ≡ [])

both_none : {A : Type 0} (xs ys : List A) → xs ≡ [] → ys ≡ [] → xs ++ ys ≡ []
both_none xs ys a b = λ i. a i ++ b i

items_none : (shapes : ℕ → List Shape) (labels : ℕ → List Label) (marks : List Bool)
    → ((n : ℕ) → slice_index_or marks n false ≡ false → (shapes n ≡ []) × (labels n ≡ []))
    → (es : List Item) → some_held marks es ≡ false → NoneOf shapes labels es
items_none shapes labels marks none [] h = (refl, refl)
items_none shapes labels marks none (Draw l d f ∷ es) h = absurd cc
items_none shapes labels marks none (Place n at t g ∷ es) h = turn (slice_index_or marks n false) refl h
    (λ k. items_none shapes labels marks none es k)
  where
    turn : (b : Bool) → slice_index_or marks n false ≡ b → (b || some_held marks es) ≡ false
        → (some_held marks es ≡ false → NoneOf shapes labels es) → NoneOf shapes labels (Place n at t g ∷ es)
    turn true e k others = absurd cc
    turn false e k others =
        let here = none n e in
        let rest = others k in (
          both_none (flat_map (λ p. map (placed_shape t p) (shapes n)) (grid_points at g))
              (flat_map (item_shapes shapes) es)
              (copies_none (λ p. placed_shape t p) (shapes n) (grid_points at g) here.0) rest.0,
          both_none (flat_map (λ p. map (placed_label t p) (labels n)) (grid_points at g))
              (flat_map (item_labels labels) es)
              (copies_none (λ p. placed_label t p) (labels n) (grid_points at g) here.1) rest.1,
        )
items_none shapes labels marks none (Text l ∷ es) h = absurd cc

at_none : (shapes : ℕ → List Shape) (labels : ℕ → List Label) (marks : List Bool)
    → ((n : ℕ) → slice_index_or marks n false ≡ false → (shapes n ≡ []) × (labels n ≡ []))
    → (ss : List WideStructure) (n : ℕ) → slice_index_or (map (λ (s : WideStructure). some_held marks s.items) ss) n
    false ≡ false → NoneOf shapes labels (items_at ss n)
at_none shapes labels marks none [] n h = (refl, refl)
at_none shapes labels marks none (s ∷ ss) zero h = items_none shapes labels marks none s.items h
at_none shapes labels marks none (s ∷ ss) (suc n) h = at_none shapes labels marks none ss n h

empty_at : (depth : ℕ) (ss : List WideStructure) (n : ℕ) → slice_index_or (held depth ss) n false ≡ false
    → (shapes_of depth ss n ≡ []) × (labels_of depth ss n ≡ [])
empty_at zero ss n h = (refl, refl)
empty_at (suc depth) ss n h = at_none (shapes_of depth ss) (labels_of depth ss) (held depth ss)
    (empty_at depth ss) ss n h

pub marks_all : (ss : List WideStructure) (marks : List Bool) → marks ≡ held 65 ss → MarksAll ss marks
marks_all ss marks is n depth le h = turn (slice_index_or (held depth ss) n false) refl
  where
    e : 65 - depth + depth ≡ 65
    e = omega arith

    last : slice_index_or (held 65 ss) n false ≡ false
    last = sym (ap (λ (l : List Bool). slice_index_or l n false) is) ∙ h

    turn : (b : Bool) → slice_index_or (held depth ss) n false ≡ b → (shapes_of depth ss n ≡ [])
        × (labels_of depth ss n ≡ [])
    turn true k = absurd
        (let m : slice_index_or (held 65 ss) n false ≡ true = subst
        (λ (j : ℕ). slice_index_or (held j ss) n false ≡ true) e (held_within (65 - depth) depth ss n k) in
        let no : true ≡ false = sym m ∙ last in cc)
    turn false k = empty_at depth ss n k
