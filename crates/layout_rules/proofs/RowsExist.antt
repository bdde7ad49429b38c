-- Every list of shapes has rows: the lower edges of its frames, put one after the other into a rising list.
use Rattle.std.proofs.Common.{◌≡◌, ℕ, zero, suc, Bool, true, false, refl, sym, ap, subst, ◌∙◌, arith, ◌⊎◌, inl, inr}
use Rattle.std.proofs.Common.{List, [], ◌∷◌, Some, ℤ, slice_get, int_lt}
use Rattle.std.proofs.lemmas.Bool.{both_ways}
use Rattle.std.proofs.lemmas.Option.{same_Some}
use Rattle.geom.specs.declared.shapes.Shape.{Shape}
use Rattle.layout_rules.specs.Layers.{is_frame}
use Rattle.layout_rules.specs.Rows.{AreRows}
use Rattle.layout_rules.proofs.Insertion.{Among, none_among, IsOrder, Rising, by_places, Inserted, insert}

lt_then : (x y z : ℤ) → int_lt x y ≡ true → int_lt y z ≡ true → int_lt x z ≡ true
lt_then x y z a b = grind arith

not_apart : (x y : ℤ) → int_lt x y ≡ false → int_lt y x ≡ false → x ≡ y
not_apart x y a b = grind arith

by_value : IsOrder int_lt
by_value = record { chain = lt_then; same = not_apart }

-- a frame has this lower edge
record IsEdge (shapes : List Shape) (y : ℤ) : Type 0 where
  number : ℕ
  frame : Shape
  frame_is : slice_get shapes number ≡ Some frame
  is_so : is_frame frame ≡ true
  edge_is : frame.rect.y0 ≡ y

-- the edges of the frames, rising
record Edges (shapes : List Shape) : Type 0 where
  edges : List ℤ
  rising : Rising int_lt edges
  each : (f : ℕ) (frame : Shape) → slice_get shapes f ≡ Some frame → is_frame frame ≡ true → Among frame.rect.y0 edges
  only : (y : ℤ) → Among y edges → IsEdge shapes y

-- with one shape more
one_later : (s : Shape) (shapes : List Shape) (y : ℤ) → IsEdge shapes y → IsEdge (s ∷ shapes) y
one_later s shapes y h =
    record { number = suc h.number; frame = h.frame; frame_is = h.frame_is; is_so = h.is_so; edge_is = h.edge_is }

with_frame : (s : Shape) (shapes : List Shape) → is_frame s ≡ true → Edges shapes → Edges (s ∷ shapes)
with_frame s shapes so rest =
    record { edges = put.items; rising = put.rising; each = each; only = λ y a. one_of y (put.only y a) }
  where
    put : Inserted int_lt s.rect.y0 rest.edges
    put = insert int_lt by_value s.rect.y0 rest.edges rest.rising

    each : (f : ℕ) (frame : Shape) → slice_get (s ∷ shapes) f ≡ Some frame → is_frame frame ≡ true
        → Among frame.rect.y0 put.items
    each zero frame h t = subst (λ (x : Shape). Among x.rect.y0 put.items) (same_Some s frame h) put.has
    each (suc f) frame h t = put.keeps frame.rect.y0 (rest.each f frame h t)

    one_of : (y : ℤ) → (y ≡ s.rect.y0) ⊎ Among y rest.edges → IsEdge (s ∷ shapes) y
    one_of y (inl e) = record { number = 0; frame = s; frame_is = refl; is_so = so; edge_is = sym e }
    one_of y (inr a) = one_later s shapes y (rest.only y a)

without_frame : (s : Shape) (shapes : List Shape) → is_frame s ≡ false → Edges shapes → Edges (s ∷ shapes)
without_frame s shapes none rest =
    record { edges = rest.edges; rising = rest.rising; each = each; only = λ y a. one_later s shapes y (rest.only y a) }
  where
    each : (f : ℕ) (frame : Shape) → slice_get (s ∷ shapes) f ≡ Some frame → is_frame frame ≡ true
        → Among frame.rect.y0 rest.edges
    each zero frame h t = absurd (both_ways (is_frame s) none (ap is_frame (same_Some s frame h) ∙ t))
    each (suc f) frame h t = rest.each f frame h t

edges_of : (shapes : List Shape) → Edges shapes
edges_of [] = record { edges = []; rising = tt; each = λ f frame h t. absurd cc; only = λ y a. none_among y a }
edges_of (s ∷ shapes) = go (is_frame s) refl (edges_of shapes)
  where
    go : (b : Bool) → is_frame s ≡ b → Edges shapes → Edges (s ∷ shapes)
    go true e rest = with_frame s shapes e rest
    go false e rest = without_frame s shapes e rest

-- every list of shapes has rows
pub some_rows : (shapes : List Shape) → (edges : List ℤ) × AreRows shapes edges
some_rows shapes = (
  found.edges,
  record {
    rising = by_places int_lt found.edges found.rising;
    each = λ f frame h t. (let a = found.each f frame h t in (a.place, a.there));
    only = λ r y h. (let e = found.only y (record { place = r; there = h }) in
        (e.number, e.frame, e.frame_is, e.is_so, e.edge_is));
  },
)
  where
    found : Edges shapes
    found = edges_of shapes
