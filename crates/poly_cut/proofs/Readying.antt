-- What is made ready of items adds what the items add.
use Rattle.std.specs.Prelude.{◌≡◌, ◌⊎◌, ℕ, zero, suc, ◌+◌, ◌-◌, ◌<◌, ◌++◌, List, [], ◌∷◌, length, map, Option}
use Rattle.std.specs.Prelude.{Some, IfOk, slice_get, slice_index_or, Bool, false}
use Rattle.std.specs.List.{flat_map, AllByRecursion}
use Rattle.std.proofs.Common.{Result, Ok, Err, inl, inr, refl, sym, ap, ◌∙◌, subst, arith, take, get_or}
use Rattle.std.proofs.lemmas.List.{take_more}
use Rattle.std.proofs.lemmas.Grind.{flat_map-append}
use Rattle.std.proofs.lemmas.List.{append-nil}
use Rattle.std.proofs.lemmas.Option.{slice_get-get_or}
use Rattle.poly_cut.specs.declared.layout.Point.{Point}
use Rattle.poly_cut.specs.declared.layout.Turn.{Turn}
use Rattle.poly_cut.specs.declared.layout.Grid.{Grid}
use Rattle.poly_cut.specs.declared.layout.Figure.{Figure}
use Rattle.poly_cut.specs.declared.layout.Item.{Item}
use Rattle.poly_cut.specs.declared.layout.Item.TheVariants.{Draw, Place}
use Rattle.poly_cut.specs.declared.layout.WideStructure.{WideStructure}
use Rattle.poly_cut.specs.declared.ready.Ready.{Ready}
use Rattle.poly_cut.specs.declared.ready.Ready.TheVariants as ready
use Rattle.poly_cut.specs.Figures.{cut_of}
use Rattle.poly_cut.specs.Conditions.{IsPlaced}
use Rattle.poly_cut.specs.FlatForm.{shape, item_shapes, item_labels, shapes_of, labels_of, items_in, items_at}
use Rattle.poly_cut.specs.Code.Holding.{MarksAll}
use Rattle.poly_cut.specs.Code.Readied.{ready_shapes, ready_labels, IsReady, IsDrawing, AddsItem, AddsNothing, AddsAs}
use Rattle.poly_cut.specs.Code.Readied.{GainsItem, IsEntry, IsTable}
use Rattle.poly_cut.proofs.Placed.{no_shapes, no_labels}

-- one more at the end of a list
at_end : {A B : Type 0} (f : A → List B) (xs ys : List A) (x : A) → ys ≡ xs ++ x ∷ []
    → flat_map f ys ≡ flat_map f xs ++ f x
at_end f xs ys x is = ap (flat_map f) is ∙ flat_map-append f xs (x ∷ [])
    ∙ ap (λ l. flat_map f xs ++ l) (append-nil (f x))

all_more : {A : Type 0} (P : A → Type 0) (xs : List A) (x : A) → AllByRecursion P xs → P x
    → AllByRecursion P (xs ++ x ∷ [])
all_more P [] x all p = (p, tt)
all_more P (y ∷ xs) x all p = (all.0, all_more P xs x all.1 p)

-- what is put last adds what the item adds
pub put : (ss : List WideStructure) (item : Item) (r : Ready) (old new : List Ready) → new ≡ old ++ r ∷ []
    → AddsItem (length ss) item r → GainsItem ss item old new
put ss item r old new is adds = record {
  shapes = λ depth small.
      at_end (ready_shapes (shapes_of depth ss)) old new r is
      ∙ ap (λ l. flat_map (ready_shapes (shapes_of depth ss)) old ++ l) (adds.shapes (shapes_of depth ss));
  labels = λ depth small.
      at_end (ready_labels (labels_of depth ss)) old new r is
      ∙ ap (λ l. flat_map (ready_labels (labels_of depth ss)) old ++ l) (adds.labels (labels_of depth ss));
  each = λ all. subst (AllByRecursion (IsReady (length ss))) (sym is)
      (all_more (IsReady (length ss)) old r all adds.each);
}

-- where an item adds nothing, a list that stays as it is gains it
with_none : {A : Type 0} (old xs : List A) → xs ≡ [] → old ≡ old ++ xs
with_none old xs e = sym (ap (λ l. old ++ l) e ∙ append-nil old)

pub left_out : (ss : List WideStructure) (item : Item) (old new : List Ready) → new ≡ old → AddsNothing ss item
    → GainsItem ss item old new
left_out ss item old new is nothing = record {
  shapes = λ depth small.
      ap (flat_map (ready_shapes (shapes_of depth ss))) is
      ∙ with_none (flat_map (ready_shapes (shapes_of depth ss)) old) (item_shapes (shapes_of depth ss) item)
      (nothing.shapes depth small);
  labels = λ depth small.
      ap (flat_map (ready_labels (labels_of depth ss))) is
      ∙ with_none (flat_map (ready_labels (labels_of depth ss)) old) (item_labels (labels_of depth ss) item)
      (nothing.labels depth small);
  each = λ all. subst (AllByRecursion (IsReady (length ss))) (sym is) all;
}

-- a figure that is ready
pub drawing : (count layer datatype : ℕ) (f : Figure) (item : Item) (r : Ready) → item ≡ Draw layer datatype f
    → IsDrawing (map (shape layer datatype) (cut_of f)) r → AddsItem count item r
drawing count layer datatype f item r is so = record {
  shapes = λ of. so.same of ∙ sym (ap (item_shapes of) is);
  labels = λ of. so.none of ∙ sym (ap (item_labels of) is);
  each = so.each count;
}

-- nothing is added at all
pub none : (ss : List WideStructure) → AddsAs ss [] []
none ss = record { shapes = λ depth small. refl; labels = λ depth small. refl; each = tt }

-- one item more
pub more : (ss : List WideStructure) (items items' : List Item) (item : Item) (old new : List Ready)
    → items' ≡ items ++ item ∷ []
    → AddsAs ss items old → GainsItem ss item old new → AddsAs ss items' new
more ss items items' item old new is so gain = record {
  shapes = λ depth small.
      gain.shapes depth small ∙ ap (λ l. l ++ item_shapes (shapes_of depth ss) item) (so.shapes depth small)
      ∙ sym (at_end (item_shapes (shapes_of depth ss)) items items' item is);
  labels = λ depth small.
      gain.labels depth small ∙ ap (λ l. l ++ item_labels (labels_of depth ss) item) (so.labels depth small)
      ∙ sym (at_end (item_labels (labels_of depth ss)) items items' item is);
  each = gain.each so.each;
}

-- the item at a place
pub more_at : (ss : List WideStructure) (items : List Item) (i : ℕ) (item : Item) (old new : List Ready)
    → i < length items
    → item ≡ get_or items i item → AddsAs ss (take i items) old → GainsItem ss item old new
    → AddsAs ss (take (i + 1) items) new
more_at ss items i item old new within at so gain =
    more ss (take i items) (take (i + 1) items) item old new
    (take_more items i item within ∙ ap (λ x. take i items ++ x ∷ []) (sym at)) so gain

-- a placement of what holds nothing adds nothing
pub placed_nothing : (ss : List WideStructure) (marks : List Bool) (item : Item) (n : ℕ) (at : Point)
    (t : Turn) (g : Grid)
    → item ≡ Place n at t g → MarksAll ss marks → slice_index_or marks n false ≡ false → AddsNothing ss item
placed_nothing ss marks item n at t g is empty none_so = record {
  shapes = λ depth small.
      sym (no_shapes (shapes_of depth ss) item n at t g [] is (empty n depth (omega (arith, small)) none_so).0);
  labels = λ depth small.
      sym (no_labels (labels_of depth ss) item n at t g [] is (empty n depth (omega (arith, small)) none_so).1);
}

-- a placement that is ready is one
pub ready_so : (count : ℕ) (item : Ready) (n : ℕ) (at : Point) (t : Turn) (g : Grid) → item ≡ ready.Placed n at t g
    → IsReady count item → IsPlaced count n at t g
ready_so count item n at t g is h = subst (λ (x : Ready). IsReady count x) is h

-- the items of a list are those that it had and the one that was put last
cases : {A : Type 0} (xs : List A) (y : A) (i : ℕ) (x : A) → slice_get (xs ++ y ∷ []) i ≡ Some x
    → (slice_get xs i ≡ Some x) ⊎ ((i ≡ length xs) × (y ≡ x))
cases [] y zero x e = inr (refl, cc)
cases [] y (suc i) x e = cc
cases (z ∷ xs) y zero x e = inl e
cases (z ∷ xs) y (suc i) x e = elim (cases xs y i x e) [
  | inl before ↦ inl before
  | inr last ↦ inr (ap suc last.0, last.1)
]

-- one entry more
pub entered : (ss : List WideStructure) (table new : List (Option (List Ready))) (i : ℕ) (s : WideStructure)
    (entry : Option (List Ready)) → new ≡ table ++ entry ∷ [] → length table ≡ i → i < length ss → s ≡ get_or ss i s
    → IsTable ss table → IsEntry ss s.items entry → IsTable ss new
entered ss table new i s entry is size within at so this n other e =
    elim (cases table entry n other (ap (λ (t : List (Option (List Ready))). slice_get t n) (sym is) ∙ e)) [
      | inl before ↦ so n other before
      | inr last ↦
          let here : slice_get ss n ≡ Some s =
          ap (slice_get ss) (last.0 ∙ size) ∙ slice_get-get_or ss i s within ∙ ap Some (sym at) in
          subst (λ (x : Option (List Ready)). IsEntry ss (items_at ss n) x) last.1
          (subst (λ (o : Option WideStructure). IsEntry ss (items_in o) entry) (sym here) this)
    ]

-- what is made of the level below is the level's part, where it is so at each depth
pub deeper : {P E B : Type 0} (f : P → List B) (r : Result P E) (below part : ℕ → List B) (depth : ℕ) → 0 < depth
    → ((k : ℕ) → k < depth → below k ≡ part (suc k)) → IfOk r (λ made. f made ≡ below (depth - 1))
    → IfOk r (λ made. f made ≡ part depth)
deeper f (Err e) below part depth some each so = tt
deeper f (Ok made) below part zero some each so = absurd (omega (arith, some))
deeper f (Ok made) below part (suc k) some each so =
    let e : suc k - 1 ≡ k = omega arith in so ∙ ap below e ∙ each k (omega arith)

-- the items of the structure at a place
pub items_there : (ss : List WideStructure) (n : ℕ) (s : WideStructure) → n < length ss
    → items_at ss n ≡ (get_or ss n s).items
items_there ss n s within = ap items_in (slice_get-get_or ss n s within)
