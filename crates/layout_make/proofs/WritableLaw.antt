-- A drawing can be written: its names are distinct, what is referenced holds no reference, and every structure but the
-- top is referenced.
use Rattle.std.proofs.Common.{◌≡◌, ◌≢◌, ℕ, zero, suc, ◌+◌, ◌<◌, ◌==◌, ◌||◌, refl, sym, ap, subst, ◌∙◌, arith, inl, inr}
use Rattle.std.proofs.Common.{List}
use Rattle.std.proofs.Common.{[], ◌∷◌, ◌++◌, length, length-append, map, Bool, true, false, Some, get_or}
use Rattle.std.specs.Prelude.{slice_get, slice_index_or, cond, AllPairs, codes, ℤ}
use Rattle.std.specs.List.{flat_map, filter, list_any}
use Rattle.std.proofs.lemmas.Bool.{cases_lt, eq-eqb}
use Rattle.std.proofs.lemmas.List.{length-map}
use Rattle.std.proofs.lemmas.List.Kept.{AllPairs-cons}
use Rattle.std.proofs.lemmas.Option.{same_Some}
use Rattle.std.proofs.Math.Bool.{or-false}
use Rattle.circuit.specs.CellKinds.{number_of}
use Rattle.circuit.specs.declared.cell_kind.CellKind.{CellKind}
use Rattle.circuit.specs.declared.cell_kind.CellKind.TheVariants.{Buffer}
use Rattle.geom.specs.FlatForm.{elements_at}
use Rattle.geom.specs.declared.shapes.Label.{Label}
use Rattle.geom.specs.declared.layout.Element.{Element}
use Rattle.geom.specs.declared.layout.Element.TheVariants.{Box, Place, Text}
use Rattle.geom.specs.declared.layout.Structure.{Structure}
use Rattle.geom.specs.Writable.{IsWritable, refers_to, is_referenced, holds_reference, names_in}
use Rattle.rowed.specs.declared.row_cell.RowCell.{RowCell}
use Rattle.sorting.specs.Numbers.{numbers, place_of}
use Rattle.rowed.specs.PlacedNets.{PlacedView}
use Rattle.rowed.proofs.SpanLaws.{got_at}
use Rattle.cell_library.specs.Kinds.{all_kinds}
use Rattle.cell_library.specs.Library.{LibraryView}
use Rattle.layout_make.specs.Sheet.{Sheet, Tag, shape_of}
use Rattle.layout_make.specs.Spots.{spots}
use Rattle.layout_make.specs.Channel.{channel}
use Rattle.layout_make.specs.Tags.{sheet, cell_tags, line_tags, wire_tags, lag_tags}
use Rattle.layout_make.specs.Draw as Draw
use Rattle.layout_make.specs.MayDraw.{MayDraw}
use Rattle.layout_make.proofs.FlatLaw.{kind_used, kinds_same, structure_found}
use Rattle.layout_make.proofs.Joins.{to_map, from_map}
use Rattle.layout_make.proofs.Member.{In, Once, in_head, in_append, in_left, in_map, map_in, in_flat_map, flat_map_in}
use Rattle.layout_make.proofs.Member.{upto_in, in_all, not_in_nil, once_cons, once_tail}
use Rattle.layout_make.proofs.Ready.{TracksLaw, spot_at}
use Rattle.layout_make.proofs.Sound.{at_place}
use Rattle.layout_make.proofs.TopDrawn.{passes, tells}
use Rattle.layout_make.proofs.WritableEach.{all_of, each_written}

-- names

-- a number of a name, by its first sign and its fourth
abbrev name_number : List ℕ → ℕ
name_number name = slice_index_or name 0 0 + slice_index_or name 3 0

-- the kind that it tells
abbrev kind_at : ℕ → CellKind
kind_at n = get_or all_kinds (place_of (map (λ k. name_number (Draw.kind_name k)) all_kinds) n) Buffer

kind_back : (k : CellKind) → kind_at (name_number (Draw.kind_name k)) ≡ k
kind_back Buffer = refl
kind_back k = refl

name_told : (a b : CellKind) → Draw.kind_name a ≡ Draw.kind_name b → a ≡ b
name_told a b e = sym (kind_back a) ∙ ap (λ (t : List ℕ). kind_at (name_number t)) e ∙ kind_back b

not_top : (a : CellKind) → Draw.kind_name a ≡ codes "TOP" → ⊥
not_top Buffer e = absurd (let k : 66 ≡ 84 = ap (λ (t : List ℕ). slice_index_or t 0 0) e in omega arith)
not_top a e =
    absurd (let k : slice_index_or (Draw.kind_name a) 0 0 ≡ 84 = ap (λ (t : List ℕ). slice_index_or t 0 0) e in
    omega arith)

-- kinds are used once

in_kept : {A : Type 0} (test : A → Bool) (x : A) (xs : List A) → In x (filter test xs) → In x xs
in_kept test x [] h = absurd (not_in_nil x h)
in_kept {A} test x (y ∷ xs) h = go (test y) refl (λ k. in_kept test x xs k) h
  where
    go : (b : Bool) → test y ≡ b → (In x (filter test xs) → In x xs) → In x (filter test (y ∷ xs)) → In x (y ∷ xs)
    go true q rest h =
        elim (in_head x y (filter test xs)
        (subst (λ (b : Bool). In x (cond b (y ∷ filter test xs) (filter test xs))) q h))
        [ inl e ↦ (0, ap (λ (z : A). Some z) (sym e)) | inr k ↦ (let m = rest k in (suc m.0, m.1)) ]
    go false q rest h = let m = rest (subst (λ (b : Bool). In x (cond b (y ∷ filter test xs) (filter test xs))) q h) in
        (suc m.0, m.1)

once_kept : {A : Type 0} (test : A → Bool) (xs : List A) → Once xs → Once (filter test xs)
once_kept test [] once = once
once_kept {A} test (y ∷ xs) once = go (test y) refl (once_kept test xs (once_tail y xs once))
  where
    not_later : In y xs → ⊥
    not_later h = let k : suc h.0 ≡ 0 = once (suc h.0) 0 y h.1 refl in omega arith

    go : (b : Bool) → test y ≡ b → Once (filter test xs) → Once (filter test (y ∷ xs))
    go true q rest = subst (λ (b : Bool). Once (cond b (y ∷ filter test xs) (filter test xs))) (sym q)
        (once_cons y (filter test xs) (λ h. not_later (in_kept test y xs h)) rest)
    go false q rest = subst (λ (b : Bool). Once (cond b (y ∷ filter test xs) (filter test xs))) (sym q) rest

numbers_rise : (i : ℕ) (k : CellKind) → slice_get all_kinds i ≡ Some k → suc i ≡ number_of k
numbers_rise zero k e = ap number_of (same_Some _ _ e)
numbers_rise (suc zero) k e = ap number_of (same_Some _ _ e)
numbers_rise (suc (suc zero)) k e = ap number_of (same_Some _ _ e)
numbers_rise (suc (suc (suc zero))) k e = ap number_of (same_Some _ _ e)
numbers_rise (suc (suc (suc (suc zero)))) k e = ap number_of (same_Some _ _ e)
numbers_rise (suc (suc (suc (suc (suc zero))))) k e = ap number_of (same_Some _ _ e)
numbers_rise (suc (suc (suc (suc (suc (suc zero)))))) k e = ap number_of (same_Some _ _ e)
numbers_rise (suc (suc (suc (suc (suc (suc (suc i))))))) k e = absurd cc

once_used : (p : PlacedView) → Once (Draw.used_kinds p)
once_used p = once_kept (Draw.uses p) all_kinds (λ i j k a b. let f = numbers_rise i k a in
    let g = numbers_rise j k b in omega arith)

names_apart : (ks : List CellKind) → Once ks
    → AllPairs (λ (a b : List ℕ). a ≢ b) (map Draw.kind_name ks ++ codes "TOP" ∷ [])
names_apart [] once = λ i j d lt le. absurd (omega arith)
names_apart (k ∷ ks) once = AllPairs-cons (λ (a b : List ℕ). a ≢ b) (Draw.kind_name k)
    (map Draw.kind_name ks ++ codes "TOP" ∷ [])
    (all_of (λ (b : List ℕ). Draw.kind_name k ≢ b) (map Draw.kind_name ks ++ codes "TOP" ∷ [])
    (in_all (λ (b : List ℕ). Draw.kind_name k ≢ b) (map Draw.kind_name ks ++ codes "TOP" ∷ [])
    (λ b h e. elim (in_append b (map Draw.kind_name ks) (codes "TOP" ∷ []) h) [
      | inl m ↦ let j = in_map Draw.kind_name b ks m in
          let n : suc j.1.0 ≡ 0 = once (suc j.1.0) 0 k
          (j.1.1 ∙ ap (λ (z : CellKind). Some z) (sym (name_told k j.0 (e ∙ j.2)))) refl in absurd (omega arith)
      | inr m ↦ elim (in_head b (codes "TOP") [] m) [ inl f ↦ not_top k (e ∙ f) | inr n ↦ absurd (not_in_nil b n) ]
    ]))) (names_apart ks (once_tail k ks once))

-- references

boxes_refer : (n : ℕ) (s : Sheet) (ts : List Tag) → refers_to n (Draw.boxes s ts) ≡ false
boxes_refer n s [] = refl
boxes_refer n s (t ∷ ts) = boxes_refer n s ts

boxes_hold : (s : Sheet) (ts : List Tag) → holds_reference (Draw.boxes s ts) ≡ false
boxes_hold s [] = refl
boxes_hold s (t ∷ ts) = boxes_hold s ts

record Refers (n : ℕ) (es : List Element) : Type 0 where
  x : ℤ
  y : ℤ
  there : In (Place n x y) es

refers_in : (n : ℕ) (es : List Element) → refers_to n es ≡ true → Refers n es
refers_in n [] e = absurd cc
refers_in n (Box s ∷ es) e = let k = refers_in n es e in record { x = k.x; y = k.y; there = (suc k.there.0, k.there.1) }
refers_in n (Text b ∷ es) e = let k = refers_in n es e in
    record { x = k.x; y = k.y; there = (suc k.there.0, k.there.1) }
refers_in n (Place m x y ∷ es) e = go (m == n) refl e (λ f. refers_in n es f)
  where
    go : (b : Bool) → (m == n) ≡ b → (b || refers_to n es) ≡ true → (refers_to n es ≡ true → Refers n es)
        → Refers n (Place m x y ∷ es)
    go true q e rest = record { x = x; y = y; there = (0, ap (λ (i : ℕ). Some (Place i x y)) (sym (tells m n q))) }
    go false q e rest = let k = rest e in record { x = k.x; y = k.y; there = (suc k.there.0, k.there.1) }

in_refers : (n : ℕ) (x y : ℤ) (es : List Element) (i : ℕ) → slice_get es i ≡ Some (Place n x y) → refers_to n es ≡ true
in_refers n x y [] i e = absurd cc
in_refers n x y (Box s ∷ es) zero e = absurd (let k : Box s ≡ Place n x y = same_Some _ _ e in cc)
in_refers n x y (Box s ∷ es) (suc i) e = in_refers n x y es i e
in_refers n x y (Text b ∷ es) zero e = absurd (let k : Text b ≡ Place n x y = same_Some _ _ e in cc)
in_refers n x y (Text b ∷ es) (suc i) e = in_refers n x y es i e
in_refers n x y (Place m u v ∷ es) zero e = let k : Place m u v ≡ Place n x y = same_Some _ _ e in
    let h : m ≡ n = cc in ap (λ (b : Bool). b || refers_to n es) (eq-eqb m n h)
in_refers n x y (Place m u v ∷ es) (suc i) e = later (m == n) (in_refers n x y es i e)
  where
    later : (b : Bool) → refers_to n es ≡ true → (b || refers_to n es) ≡ true
    later true h = refl
    later false h = h

only_top : (l : LibraryView) (n : ℕ) (ks : List CellKind) (t : Structure)
    → is_referenced n (map (Draw.cell_structure l) ks ++ t ∷ []) ≡ (refers_to n t.elements || false)
only_top l n [] t = refl
only_top l n (k ∷ ks) t = ap (λ (b : Bool). b || is_referenced n (map (Draw.cell_structure l) ks ++ t ∷ []))
    (boxes_refer n (Draw.alone l) (cell_tags l 0 0 k)) ∙ only_top l n ks t

module _ (p : PlacedView) (l : LibraryView) where
  abbrev kinds : List CellKind
  kinds = Draw.used_kinds p

  abbrev all : List Structure
  all = map (Draw.cell_structure l) kinds ++ Draw.top_of p l ∷ []

  -- what is referenced is the structure of a kind that is used
  record OfKind (n : ℕ) : Type 0 where
    kind : CellKind
    used : In kind kinds
    place : n ≡ Draw.kind_place kind kinds

  of_kind : (n : ℕ) → is_referenced n all ≡ true → OfKind n
  of_kind n e =
      go (refers_in n (Draw.top_elements p l) (sym (or-false (refers_to n (Draw.top_elements p l)))
      ∙ sym (only_top l n kinds (Draw.top_of p l)) ∙ e))
    where
      in_row : (r : ℕ) (x y : ℤ) → In (Place n x y) (Draw.row_elements p l r) → OfKind n
      in_row r x y h =
          elim (in_append (Place n x y) (map (Draw.place_of_spot p l r) (spots p r))
          (Draw.boxes (sheet p l) (line_tags r ++ flat_map (wire_tags r) (channel p l r))) h) [
            | inl k ↦ let m = in_map (Draw.place_of_spot p l r) (Place n x y) (spots p r) k in
                let f : n ≡ Draw.kind_place m.0.cell.kind kinds = told m.2 in
                record { kind = m.0.cell.kind; used = kind_used p r m.1.0 m.0 m.1.1; place = f }
            | inr k ↦ let t = in_map (λ (u : Tag). Box (shape_of (sheet p l) u)) (Place n x y)
                (line_tags r ++ flat_map (wire_tags r) (channel p l r)) k in
                absurd (let f : Place n x y ≡ Box (shape_of (sheet p l) t.0) = t.2 in cc)
          ]
        where
          told : {m : ℕ} {u v : ℤ} → Place n x y ≡ Place m u v → n ≡ m
          told e = cc

      go : Refers n (Draw.top_elements p l) → OfKind n
      go h =
          elim (in_append (Place n h.x h.y) (Draw.shape_elements p l)
          (map (λ (b : Label). Text b) (Draw.labels p l)) h.there) [
            | inl k ↦ elim (in_append (Place n h.x h.y)
                (flat_map (Draw.row_elements p l) (numbers 0 (length p.net.rows)))
                (Draw.boxes (sheet p l) (lag_tags p.lag)) k) [
                  | inl m ↦ let r = in_flat_map (Draw.row_elements p l) (Place n h.x h.y) (numbers 0 (length p.net.rows))
                      m in in_row r.0 h.x h.y r.2
                  | inr m ↦ let t = in_map (λ (u : Tag). Box (shape_of (sheet p l) u)) (Place n h.x h.y)
                      (lag_tags p.lag) m in
                      absurd (let f : Place n h.x h.y ≡ Box (shape_of (sheet p l) t.0) = t.2 in cc)
                ]
            | inr k ↦ let b = in_map (λ (b : Label). Text b) (Place n h.x h.y) (Draw.labels p l) k in
                absurd (let f : Place n h.x h.y ≡ Text b.0 = b.2 in cc)
          ]

  free_top : is_referenced (length kinds) all ≡ false
  free_top = go (is_referenced (length kinds) all) refl
    where
      go : (b : Bool) → is_referenced (length kinds) all ≡ b → is_referenced (length kinds) all ≡ false
      go false q = q
      go true q =
          let k = of_kind (length kinds) q in
          let at = at_place (map number_of kinds) (number_of k.kind)
          (k.used.0, to_map number_of kinds k.used.0 k.kind k.used.1) in
          let j = from_map number_of kinds (Draw.kind_place k.kind kinds) (number_of k.kind) at in
          let lt = within kinds (Draw.kind_place k.kind kinds) j.0 j.1 in
          let e = k.place in
          absurd (omega arith)
        where
          within : {A : Type 0} (xs : List A) (i : ℕ) (x : A) → slice_get xs i ≡ Some x → i < length xs
          within [] i x e = absurd cc
          within (y ∷ xs) zero x e = omega arith
          within (y ∷ xs) (suc i) x e = let k = within xs i x e in omega arith

  flat_reference : (n : ℕ) → is_referenced n all ≡ true → holds_reference (elements_at all n) ≡ false
  flat_reference n e =
      let k = of_kind n e in
      ap (λ (m : ℕ). holds_reference (elements_at all m)) k.place
      ∙ ap holds_reference (structure_found l k.kind kinds (Draw.top_of p l ∷ []) k.used)
      ∙ boxes_hold (Draw.alone l) (cell_tags l 0 0 k.kind)

any_at : {A : Type 0} (test : A → Bool) (xs : List A) → list_any test xs ≡ true → (i : ℕ) × (x : A)
    × (slice_get xs i ≡ Some x) × (test x ≡ true)
any_at test [] e = absurd cc
any_at {A} test (y ∷ xs) e = go (test y) refl e (λ f. any_at test xs f)
  where
    go : (b : Bool) → test y ≡ b → (b || list_any test xs) ≡ true
        → (list_any test xs ≡ true → (i : ℕ) × (x : A) × (slice_get xs i ≡ Some x) × (test x ≡ true))
        → (i : ℕ) × (x : A) × (slice_get (y ∷ xs) i ≡ Some x) × (test x ≡ true)
    go true q e rest = (0, y, refl, q)
    go false q e rest = let m = rest e in (suc m.0, m.1, m.2, m.3)

got : {A : Type 0} (xs : List A) (n : ℕ) → n < length xs → (x : A) × (slice_get xs n ≡ Some x)
got [] n lt = absurd (omega arith)
got (y ∷ xs) zero lt = (y, refl)
got (y ∷ xs) (suc n) lt = got xs n (omega arith)

bound : {A : Type 0} (xs : List A) (i : ℕ) (x : A) → slice_get xs i ≡ Some x → i < length xs
bound [] i x e = absurd cc
bound (y ∷ xs) zero x e = omega arith
bound (y ∷ xs) (suc i) x e = let k = bound xs i x e in omega arith

names_are : (l : LibraryView) (ks : List CellKind) (t : Structure)
    → names_in (map (Draw.cell_structure l) ks ++ t ∷ []) ≡ map Draw.kind_name ks ++ t.name ∷ []
names_are l [] t = refl
names_are l (k ∷ ks) t = ap (λ (ns : List (List ℕ)). Draw.kind_name k ∷ ns) (names_are l ks t)

module _ (p : PlacedView) (l : LibraryView) (law : TracksLaw) (may : MayDraw p l) where
  kind_referenced : (n : ℕ) (k : CellKind) → slice_get (kinds p l) n ≡ Some k → is_referenced n (all p l) ≡ true
  kind_referenced n k at =
      let row = any_at (Draw.row_has k) p.net.rows (passes (Draw.uses p) all_kinds n k at) in
      let cell = any_at (λ (c : RowCell). Draw.same_kind k c.kind) row.1 row.3 in
      let here = got_at p.net.rows row.0 row.1 [] row.2 in
      let x = spot_at p may.placed row.0 cell.0 cell.1
      (ap (λ (cells : List RowCell). slice_get cells cell.0) (sym here) ∙ cell.2) in
      let kind : x.0.cell.kind ≡ k = ap (λ (c : RowCell). c.kind) x.2
      ∙ kinds_same cell.1.kind k (tells (number_of k) (number_of cell.1.kind) cell.3) in
      let used = kind_used p row.0 cell.0 x.0 x.1 in
      let ks = kinds p l in
      let place = at_place (map number_of ks) (number_of x.0.cell.kind)
      (used.0, to_map number_of ks used.0 x.0.cell.kind used.1) in
      let j = from_map number_of ks (Draw.kind_place x.0.cell.kind ks) (number_of x.0.cell.kind) place in
      let own : j.0 ≡ k = kinds_same j.0 x.0.cell.kind j.2 ∙ kind in
      let same : Draw.kind_place x.0.cell.kind ks ≡ n = once_used p (Draw.kind_place x.0.cell.kind ks) n k
      (j.1 ∙ ap (λ (z : CellKind). Some z) own) at in
      let in_row = in_left (Draw.place_of_spot p l row.0 x.0) (map (Draw.place_of_spot p l row.0) (spots p row.0))
      (Draw.boxes (sheet p l) (line_tags row.0 ++ flat_map (wire_tags row.0) (channel p l row.0)))
      (map_in (Draw.place_of_spot p l row.0) x.0 (spots p row.0) (cell.0, x.1)) in
      let in_rows = flat_map_in (Draw.row_elements p l) row.0 (Draw.place_of_spot p l row.0 x.0)
      (numbers 0 (length p.net.rows)) (upto_in (length p.net.rows) row.0 (bound p.net.rows row.0 row.1 row.2))
      in_row in
      let in_shapes = in_left (Draw.place_of_spot p l row.0 x.0)
      (flat_map (Draw.row_elements p l) (numbers 0 (length p.net.rows)))
      (Draw.boxes (sheet p l) (lag_tags p.lag)) in_rows in
      let in_top = in_left (Draw.place_of_spot p l row.0 x.0) (Draw.shape_elements p l)
      (map (λ (b : Label). Text b) (Draw.labels p l)) in_shapes in
      only_top l n ks (Draw.top_of p l) ∙ or-false (refers_to n (Draw.top_elements p l))
      ∙ ap (λ (m : ℕ). refers_to m (Draw.top_elements p l)) (sym same) ∙ in_refers _ _ _ (Draw.top_elements p l)
      in_top.0 in_top.1

  others_used : (n : ℕ) → n < length (all p l) → n ≢ length (kinds p l) → is_referenced n (all p l) ≡ true
  others_used n lt ne =
      let ks = kinds p l in
      let a = length-append (map (Draw.cell_structure l) ks) (Draw.top_of p l ∷ []) in
      let b = length-map ks (Draw.cell_structure l) in
      let k = got ks n (elim (cases_lt n (length ks)) [ inl less ↦ less | inr ge ↦ absurd (ne (omega arith)) ]) in
      kind_referenced n k.0 k.1

  pub writable : IsWritable (Draw.draw p l)
  unfolding Draw.draw
  writable = record {
    each = (each_written p l law may).0;
    distinct = subst (AllPairs (λ (a b : List ℕ). a ≢ b)) (sym (names_are l (kinds p l) (Draw.top_of p l)))
        (names_apart (kinds p l) (once_used p));
    shallow = flat_reference p l;
    top_stands = (each_written p l law may).1;
    top_is_free = free_top p l;
    others_are_used = others_used;
  }
