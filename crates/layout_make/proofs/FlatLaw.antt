-- The flat form of a drawing is its tags, each as its shape, and its labels.
use Rattle.std.proofs.Common.{◌≡◌, ℕ, zero, suc, ◌-◌, ◌*◌, Bool, true, false, refl, sym, ap, ◌∙◌, ◌⊎◌, inl, inr, List}
use Rattle.std.proofs.Common.{[]}
use Rattle.std.proofs.Common.{◌∷◌, ◌++◌, map, length, append_assoc, Some, pos, slice_get, get_or}
use Rattle.std.specs.List.{flat_map, filter, list_any}
use Rattle.std.proofs.lemmas.Bool.{eq-eqb, or_left, or_right}
use Rattle.std.proofs.lemmas.List.{map-append, append-nil}
use Rattle.circuit.specs.declared.cell_kind.CellKind.{CellKind}
use Rattle.circuit.specs.declared.cell_kind.CellKind.TheVariants.{Buffer}
use Rattle.circuit.specs.CellKinds.{number_of}
use Rattle.geom.specs.declared.shapes.Shape.{Shape}
use Rattle.geom.specs.declared.shapes.Label.{Label}
use Rattle.geom.specs.declared.layout.Element.{Element}
use Rattle.geom.specs.declared.layout.Element.TheVariants.{Box, Place, Text}
use Rattle.geom.specs.declared.layout.Structure.{Structure}
use Rattle.geom.specs.FlatForm.{moved_shape, moved_label, elements_in, own_shapes, own_labels, elements_at, flat_shapes}
use Rattle.geom.specs.FlatForm.{flat_labels, flat_of}
use Rattle.rowed.specs.declared.row_cell.RowCell.{RowCell}
use Rattle.rowed.specs.RowNets.{row_at}
use Rattle.rowed.specs.PlacedNets.{PlacedView}
use Rattle.sorting.specs.Numbers.{numbers}
use Rattle.cell_library.specs.Kinds.{all_kinds}
use Rattle.cell_library.specs.Library.{LibraryView}
use Rattle.layout_make.proofs.Lawful.{IsLawful}
use Rattle.layout_make.specs.Sheet.{Sheet, Tag, shape_of, lower_edge}
use Rattle.layout_make.specs.Spots.{Spot, spots}
use Rattle.layout_make.specs.Channel.{channel}
use Rattle.layout_make.specs.Tags.{sheet, cell_tags, spot_tags, wire_tags, line_tags, row_tags, lag_tags, tags}
use Rattle.layout_make.specs.Draw
use Rattle.layout_make.proofs.Member.{In, in_head, not_in_nil}
use Rattle.layout_make.proofs.Joins.{from_map, to_map}
use Rattle.layout_make.proofs.Sound.{at_place}
use Rattle.layout_make.proofs.FlatForm.{shift, moved_cell}
use Rattle.layout_make.proofs.Ready.{spot_cell}

-- what stands among elements

own_boxes : (s : Sheet) (ts : List Tag) → own_shapes (Draw.boxes s ts) ≡ map (shape_of s) ts
own_boxes s [] = refl
own_boxes s (t ∷ ts) = ap (λ (zs : List Shape). shape_of s t ∷ zs) (own_boxes s ts)

no_own_labels : (s : Sheet) (ts : List Tag) → own_labels (Draw.boxes s ts) ≡ []
no_own_labels s [] = refl
no_own_labels s (t ∷ ts) = no_own_labels s ts

flat_append : (ss : List Structure) (xs ys : List Element) → flat_shapes ss (xs ++ ys) ≡ flat_shapes ss xs
    ++ flat_shapes ss ys
flat_append ss [] ys = refl
flat_append ss (Box s ∷ xs) ys = ap (λ (zs : List Shape). s ∷ zs) (flat_append ss xs ys)
flat_append ss (Place n x y ∷ xs) ys =
    ap (λ (zs : List Shape). map (moved_shape x y) (own_shapes (elements_at ss n)) ++ zs) (flat_append ss xs ys)
    ∙ sym (append_assoc (map (moved_shape x y) (own_shapes (elements_at ss n))) (flat_shapes ss xs) (flat_shapes ss ys))
flat_append ss (Text b ∷ xs) ys = flat_append ss xs ys

labels_append : (ss : List Structure) (xs ys : List Element) → flat_labels ss (xs ++ ys) ≡ flat_labels ss xs
    ++ flat_labels ss ys
labels_append ss [] ys = refl
labels_append ss (Box s ∷ xs) ys = labels_append ss xs ys
labels_append ss (Place n x y ∷ xs) ys =
    ap (λ (zs : List Label). map (moved_label x y) (own_labels (elements_at ss n)) ++ zs) (labels_append ss xs ys)
    ∙ sym (append_assoc (map (moved_label x y) (own_labels (elements_at ss n))) (flat_labels ss xs) (flat_labels ss ys))
labels_append ss (Text b ∷ xs) ys = ap (λ (zs : List Label). b ∷ zs) (labels_append ss xs ys)

-- kinds in use

pub kinds_same : (a b : CellKind) → number_of a ≡ number_of b → a ≡ b
kinds_same a b e = sym (back a) ∙ ap kind_of e ∙ back b
  where
    kind_of : ℕ → CellKind
    kind_of n = get_or all_kinds (n - 1) Buffer

    back : (k : CellKind) → kind_of (number_of k) ≡ k
    back Buffer = refl
    back k = refl

pub in_filter : {A : Type 0} (test : A → Bool) (x : A) (xs : List A) → In x xs → test x ≡ true → In x (filter test xs)
in_filter test x [] h e = absurd (not_in_nil x h)
in_filter {A} test x (y ∷ xs) h e = go (test y) refl (in_head x y xs h) (λ k. in_filter test x xs k e)
  where
    go : (b : Bool) → test y ≡ b → (x ≡ y) ⊎ In x xs → (In x xs → In x (filter test xs)) → In x (filter test (y ∷ xs))
    go true q (inl same) more = rw q (0, ap (λ (z : A). Some z) (sym same))
    go true q (inr k) more = let m = more k in rw q (suc m.0, m.1)
    go false q (inl same) more = absurd (let k : test x ≡ false = ap test same ∙ q in cc)
    go false q (inr k) more = rw q (more k)

all_in_kinds : (k : CellKind) → In k all_kinds
all_in_kinds Buffer = (0, refl)
all_in_kinds k = (number_of k - 1, refl)

any_in : {A : Type 0} (test : A → Bool) (x : A) (xs : List A) → In x xs → test x ≡ true → list_any test xs ≡ true
any_in test x [] h e = absurd (not_in_nil x h)
any_in test x (y ∷ xs) h e =
    elim (in_head x y xs h) [
      | inl same ↦ or_left (test y) (list_any test xs) (ap test (sym same) ∙ e)
      | inr k ↦ or_right (test y)
          (list_any test xs) (any_in test x xs k e)
    ]

row_in : (rows : List (List RowCell)) (r n : ℕ) (c : RowCell) → slice_get (row_at rows r) n ≡ Some c
    → In (row_at rows r) rows
row_in [] r n c e = absurd (let k : slice_get (row_at [] r) n ≡ Some c = e in cc)
row_in (row ∷ rows) zero n c e = (0, refl)
row_in (row ∷ rows) (suc r) n c e = let k = row_in rows r n c e in (suc k.0, k.1)

pub kind_used : (p : PlacedView) (r n : ℕ) (x : Spot) → slice_get (spots p r) n ≡ Some x
    → In x.cell.kind (Draw.used_kinds p)
kind_used p r n x e =
    let c = spot_cell (row_at p.net.rows r) _ n x e in
    in_filter (Draw.uses p) x.cell.kind all_kinds (all_in_kinds x.cell.kind)
    (any_in (Draw.row_has x.cell.kind) (row_at p.net.rows r) p.net.rows (row_in p.net.rows r n x.cell c)
    (any_in (λ (d : RowCell). Draw.same_kind x.cell.kind d.kind) x.cell (row_at p.net.rows r) (n, c)
    (eq-eqb (number_of x.cell.kind) (number_of x.cell.kind) refl)))

slice_append : {A : Type 0} (xs ys : List A) (n : ℕ) (x : A) → slice_get xs n ≡ Some x → slice_get (xs ++ ys) n ≡ Some x
slice_append [] ys n x e = absurd cc
slice_append (z ∷ xs) ys zero x e = e
slice_append (z ∷ xs) ys (suc n) x e = slice_append xs ys n x e

-- the structure of a kind in use
pub structure_found : (l : LibraryView) (k : CellKind) (ks : List CellKind) (rest : List Structure) → In k ks
    → elements_at (map (Draw.cell_structure l) ks ++ rest) (Draw.kind_place k ks) ≡ Draw.boxes (Draw.alone l)
    (cell_tags l 0 0 k)
structure_found l k ks rest h =
    let at = at_place (map number_of ks) (number_of k) (h.0, to_map number_of ks h.0 k h.1) in
    let j = from_map number_of ks (Draw.kind_place k ks) (number_of k) at in
    let same : j.0 ≡ k = kinds_same j.0 k j.2 in
    ap (λ (o : _). elements_in o)
    (slice_append (map (Draw.cell_structure l) ks) rest (Draw.kind_place k ks) (Draw.cell_structure l j.0)
    (to_map (Draw.cell_structure l) ks (Draw.kind_place k ks) j.0 j.1))
    ∙ ap (λ (x : CellKind). Draw.boxes (Draw.alone l) (cell_tags l 0 0 x)) same

-- references are the tags of their cells

abbrev pub structures : PlacedView → LibraryView → List Structure
structures p l = map (Draw.cell_structure l) (Draw.used_kinds p) ++ Draw.top_of p l ∷ []

abbrev Used : PlacedView → List Spot → Type 0
Used p xs = (n : ℕ) (x : Spot) → slice_get xs n ≡ Some x → In x.cell.kind (Draw.used_kinds p)

spot_flat : (p : PlacedView) (l : LibraryView) → IsLawful l → (r : ℕ) (x : Spot) → In x.cell.kind (Draw.used_kinds p)
    → map (shift (sheet p l) r x.slot)
    (own_shapes (elements_at (structures p l) (Draw.kind_place x.cell.kind (Draw.used_kinds p)))) ≡ map
    (shape_of (sheet p l)) (spot_tags l r x)
unfolding sheet
spot_flat p l laws r x h =
    ap (λ (es : List Element). map (shift (sheet p l) r x.slot) (own_shapes es))
    (structure_found l x.cell.kind (Draw.used_kinds p) (Draw.top_of p l ∷ []) h)
    ∙ ap (map (shift (sheet p l) r x.slot)) (own_boxes (Draw.alone l) (cell_tags l 0 0 x.cell.kind))
    ∙ moved_cell (sheet p l) laws r x.slot x.cell.kind

spots_flat : (p : PlacedView) (l : LibraryView) → IsLawful l → (r : ℕ) (xs : List Spot) → Used p xs
    → flat_shapes (structures p l) (map (Draw.place_of_spot p l r) xs) ≡ map (shape_of (sheet p l))
    (flat_map (spot_tags l r) xs)
unfolding sheet
spots_flat p l laws r [] used = refl
spots_flat p l laws r (x ∷ xs) used =
    ap (λ (zs : List Shape). zs ++ flat_shapes (structures p l) (map (Draw.place_of_spot p l r) xs))
    (spot_flat p l laws r x (used 0 x refl))
    ∙ ap (λ (zs : List Shape). map (shape_of (sheet p l)) (spot_tags l r x) ++ zs)
    (spots_flat p l laws r xs (λ n y e. used (suc n) y e))
    ∙ sym (map-append (shape_of (sheet p l)) (spot_tags l r x) (flat_map (spot_tags l r) xs))

boxes_flat : (ss : List Structure) (s : Sheet) (ts : List Tag) → flat_shapes ss (Draw.boxes s ts) ≡ map (shape_of s) ts
boxes_flat ss s [] = refl
boxes_flat ss s (t ∷ ts) = ap (λ (zs : List Shape). shape_of s t ∷ zs) (boxes_flat ss s ts)

row_flat : (p : PlacedView) (l : LibraryView) → IsLawful l → (r : ℕ)
    → flat_shapes (structures p l) (Draw.row_elements p l r) ≡ map (shape_of (sheet p l)) (row_tags p l r)
row_flat p l laws r =
    let places = map (Draw.place_of_spot p l r) (spots p r) in
    let rest = line_tags r ++ flat_map (wire_tags r) (channel p l r) in
    let s = sheet p l in
    flat_append (structures p l) places (Draw.boxes s rest)
    ∙ ap (λ (zs : List Shape). zs ++ flat_shapes (structures p l) (Draw.boxes s rest))
    (spots_flat p l laws r (spots p r) (kind_used p r))
    ∙ ap (λ (zs : List Shape). map (shape_of s) (flat_map (spot_tags l r) (spots p r)) ++ zs)
    (boxes_flat (structures p l) s rest)
    ∙ sym (map-append (shape_of s) (flat_map (spot_tags l r) (spots p r)) rest)

rows_flat : (p : PlacedView) (l : LibraryView) → IsLawful l → (rs : List ℕ)
    → flat_shapes (structures p l) (flat_map (Draw.row_elements p l) rs) ≡ map (shape_of (sheet p l))
    (flat_map (row_tags p l) rs)
rows_flat p l laws [] = refl
rows_flat p l laws (r ∷ rs) =
    flat_append (structures p l) (Draw.row_elements p l r) (flat_map (Draw.row_elements p l) rs)
    ∙ ap (λ (zs : List Shape). zs ++ flat_shapes (structures p l) (flat_map (Draw.row_elements p l) rs))
    (row_flat p l laws r)
    ∙ ap (λ (zs : List Shape). map (shape_of (sheet p l)) (row_tags p l r) ++ zs) (rows_flat p l laws rs)
    ∙ sym (map-append (shape_of (sheet p l)) (row_tags p l r) (flat_map (row_tags p l) rs))

texts_flat : (ss : List Structure) (bs : List Label) → flat_shapes ss (map (λ b. Text b) bs) ≡ []
texts_flat ss [] = refl
texts_flat ss (b ∷ bs) = texts_flat ss bs

pub top_found : (ks : List CellKind) (l : LibraryView) (t : Structure)
    → elements_at (map (Draw.cell_structure l) ks ++ t ∷ []) (length ks) ≡ t.elements
top_found [] l t = refl
top_found (k ∷ ks) l t = top_found ks l t

pub flat_is_tags : (p : PlacedView) (l : LibraryView) → IsLawful l → (flat_of (Draw.draw p l)).shapes ≡ map
    (shape_of (sheet p l)) (tags p l)
unfolding Draw.draw flat_of
flat_is_tags p l laws =
    let rows = flat_map (Draw.row_elements p l) (numbers 0 (length p.net.rows)) in
    let more = Draw.boxes (sheet p l) (lag_tags p.lag) in
    let ss = structures p l in
    ap (λ (es : List Element). flat_shapes ss es) (top_found (Draw.used_kinds p) l (Draw.top_of p l))
    ∙ flat_append ss (rows ++ more) (map (λ b. Text b) (Draw.labels p l))
    ∙ ap (λ (zs : List Shape). flat_shapes ss (rows ++ more) ++ zs) (texts_flat ss (Draw.labels p l))
    ∙ append-nil (flat_shapes ss (rows ++ more))
    ∙ flat_append ss rows more
    ∙ ap (λ (zs : List Shape). zs ++ flat_shapes ss more) (rows_flat p l laws (numbers 0 (length p.net.rows)))
    ∙ ap (λ (zs : List Shape). map (shape_of (sheet p l))
    (flat_map (row_tags p l) (numbers 0 (length p.net.rows))) ++ zs)
    (boxes_flat ss (sheet p l) (lag_tags p.lag))
    ∙ sym (map-append (shape_of (sheet p l)) (flat_map (row_tags p l) (numbers 0 (length p.net.rows)))
    (lag_tags p.lag))

-- labels

no_places : (p : PlacedView) (l : LibraryView) (r : ℕ) (xs : List Spot) → Used p xs
    → flat_labels (structures p l) (map (Draw.place_of_spot p l r) xs) ≡ []
no_places p l r [] used = refl
no_places p l r (x ∷ xs) used =
    ap (λ (es : List Element). map
    (moved_label (pos (x.slot * (l.columns * l.pitch))) (pos (lower_edge (sheet p l) r))) (own_labels es)
    ++ flat_labels (structures p l) (map (Draw.place_of_spot p l r) xs))
    (structure_found l x.cell.kind (Draw.used_kinds p) (Draw.top_of p l ∷ []) (used 0 x refl))
    ∙ ap
    (λ (bs : List Label). map (moved_label (pos (x.slot * (l.columns * l.pitch))) (pos (lower_edge (sheet p l) r)))
    bs ++ flat_labels (structures p l) (map (Draw.place_of_spot p l r) xs))
    (no_own_labels (Draw.alone l) (cell_tags l 0 0 x.cell.kind))
    ∙ no_places p l r xs (λ n y e. used (suc n) y e)

no_boxes : (ss : List Structure) (s : Sheet) (ts : List Tag) → flat_labels ss (Draw.boxes s ts) ≡ []
no_boxes ss s [] = refl
no_boxes ss s (t ∷ ts) = no_boxes ss s ts

no_rows : (p : PlacedView) (l : LibraryView) (rs : List ℕ)
    → flat_labels (structures p l) (flat_map (Draw.row_elements p l) rs) ≡ []
no_rows p l [] = refl
no_rows p l (r ∷ rs) =
    let rest = line_tags r ++ flat_map (wire_tags r) (channel p l r) in
    let ss = structures p l in
    labels_append ss (Draw.row_elements p l r) (flat_map (Draw.row_elements p l) rs)
    ∙ ap (λ (bs : List Label). bs ++ flat_labels ss (flat_map (Draw.row_elements p l) rs)) (
    labels_append ss (map (Draw.place_of_spot p l r) (spots p r)) (Draw.boxes (sheet p l) rest)
    ∙ ap (λ (bs : List Label). bs ++ flat_labels ss (Draw.boxes (sheet p l) rest))
    (no_places p l r (spots p r) (kind_used p r))
    ∙ no_boxes ss (sheet p l) rest
    )
    ∙ no_rows p l rs

all_texts : (ss : List Structure) (bs : List Label) → flat_labels ss (map (λ b. Text b) bs) ≡ bs
all_texts ss [] = refl
all_texts ss (b ∷ bs) = ap (λ (xs : List Label). b ∷ xs) (all_texts ss bs)

pub labels_flat : (p : PlacedView) (l : LibraryView) → (flat_of (Draw.draw p l)).labels ≡ Draw.labels p l
unfolding Draw.draw flat_of
labels_flat p l =
    let rows = flat_map (Draw.row_elements p l) (numbers 0 (length p.net.rows)) in
    let more = Draw.boxes (sheet p l) (lag_tags p.lag) in
    let ss = structures p l in
    ap (λ (es : List Element). flat_labels ss es) (top_found (Draw.used_kinds p) l (Draw.top_of p l))
    ∙ labels_append ss (rows ++ more) (map (λ b. Text b) (Draw.labels p l))
    ∙ ap (λ (bs : List Label). bs ++ flat_labels ss (map (λ b. Text b) (Draw.labels p l)))
    (labels_append ss rows more
    ∙ ap (λ (bs : List Label). bs ++ flat_labels ss more) (no_rows p l (numbers 0 (length p.net.rows)))
    ∙ no_boxes ss (sheet p l) (lag_tags p.lag))
    ∙ all_texts ss (Draw.labels p l)
