-- Every list of shapes has its frames in the order of cells.
use Rattle.std.proofs.Common.{◌≡◌, ℕ, zero, suc, ◌<◌, Bool, true, false, sym, ap, subst, ◌∙◌, arith, ◌⊎◌, inl, inr}
use Rattle.std.proofs.Common.{List, [], get_or, length, ℤ, pos}
use Rattle.std.specs.Prelude.{int_lt, nat_lt, ◌&&◌, ◌||◌}
use Rattle.std.specs.Ordering.{int_eq}
use Rattle.std.proofs.lemmas.Bool.{cases_eq, and_parts, or_cases}
use Rattle.std.proofs.lemmas.Bool.Decides.{nat_tests}
use Rattle.std.proofs.lemmas.Int.{ints}
use Rattle.std.proofs.lemmas.Option.{get_or_from_slice_get, slice_get_within}
use Rattle.geom.specs.declared.shapes.Shape.{Shape}
use Rattle.layout_rules.specs.Layers.{is_frame}
use Rattle.layout_rules.specs.Reports.{Passes}
use Rattle.layout_rules.proofs.Deciding.{dec_same, dec_item, dec_true}
use Rattle.layout_rules.proofs.Insertion.{Among, none_among, IsOrder, Rising, by_places, Inserted, insert}
use Rattle.shape_extract.specs.Frames.{comes_before, AreFrames}
use Rattle.shape_extract.proofs.SameShapes.{same_int}

-- ---- the order of frames, by their corners and numbers

-- by the lower edges, then by the left ones, then by the numbers
abbrev comes : (a b x y : ℤ) (f g : ℕ) → Bool
comes a b x y f g = int_lt a b || (int_eq a b && (int_lt x y || (int_eq x y && nat_lt f g)))

-- what comes before a third by its number still does with a lower one
still : (b c y z : ℤ) (f g h : ℕ) → nat_lt f g ≡ true → comes b c y z g h ≡ true → comes b c y z f h ≡ true
still b c y z f g h lt q = grind (arith, ints, nat_tests)

module _ (a b c x y z : ℤ) (f g h : ℕ) (q : comes b c y z g h ≡ true) where
  lower : int_lt a b ≡ true → comes a c x z f h ≡ true
  lower lt = grind (arith, ints, nat_tests)

  left : int_eq a b ≡ true → int_lt x y ≡ true → comes a c x z f h ≡ true
  left e lt = grind (arith, ints, nat_tests)

  earlier : int_eq a b ≡ true → int_eq x y ≡ true → nat_lt f g ≡ true → comes a c x z f h ≡ true
  earlier e d lt = rw (same_int a b e, same_int x y d) (still b c y z f g h lt q)

  chained : comes a b x y f g ≡ true → comes a c x z f h ≡ true
  chained p = elim (or_cases _ _ p) [
    | inl lt ↦ lower lt
    | inr rest ↦ elim (or_cases _ _ (and_parts _ _ rest).1) [
      | inl lt ↦ left (and_parts _ _ rest).0 lt
      | inr last ↦ earlier (and_parts _ _ rest).0 (and_parts _ _ last).0 (and_parts _ _ last).1
    ]
  ]

-- one of two frames comes before the other
not_apart : (a b x y : ℤ) (f g : ℕ) → comes a b x y f g ≡ false → comes b a y x g f ≡ false → f ≡ g
not_apart a b x y f g p q = grind (arith, ints, nat_tests)

-- ---- the frames of some shapes

no_shape : Shape
no_shape = record { layer = 0; datatype = 0; rect = record { x0 = pos 0; y0 = pos 0; x1 = pos 0; y1 = pos 0 } }

module _ (shapes : List Shape) where
  abbrev shape_at : ℕ → Shape
  shape_at f = get_or shapes f no_shape

  before : ℕ → ℕ → Bool
  before f g = comes_before (shape_at f) f (shape_at g) g

  order : IsOrder before
  unfolding before
  order = record {
    chain = λ f g h p q. chained (shape_at f).rect.y0 (shape_at g).rect.y0 (shape_at h).rect.y0 (shape_at f).rect.x0
        (shape_at g).rect.x0 (shape_at h).rect.x0 f g h q p;
    same = λ f g. not_apart (shape_at f).rect.y0 (shape_at g).rect.y0 (shape_at f).rect.x0 (shape_at g).rect.x0 f g;
  }

  -- the frames among the first n shapes
  record FramesBelow (n : ℕ) : Type 0 where
    frames : List ℕ
    rising : Rising before frames
    each : (f : ℕ) → f < n → Passes is_frame shapes f → Among f frames
    only : (f : ℕ) → Among f frames → Passes is_frame shapes f

  with_frame : (n : ℕ) → Passes is_frame shapes n → FramesBelow n → FramesBelow (suc n)
  with_frame n passes rest =
      record { frames = put.items; rising = put.rising; each = each; only = λ f a. one_of f (put.only f a) }
    where
      put : Inserted before n rest.frames
      put = insert before order n rest.frames rest.rising

      each : (f : ℕ) → f < suc n → Passes is_frame shapes f → Among f put.items
      each f lt h =
          elim (cases_eq f n) [
            | inl e ↦ rw e put.has
            | inr ne ↦ put.keeps f
                (rest.each f (omega arith) h)
          ]

      one_of : (f : ℕ) → (f ≡ n) ⊎ Among f rest.frames → Passes is_frame shapes f
      one_of f (inl e) = subst (Passes is_frame shapes) (sym e) passes
      one_of f (inr a) = rest.only f a

  without_frame : (n : ℕ) → (Passes is_frame shapes n → ⊥) → FramesBelow n → FramesBelow (suc n)
  without_frame n none rest = record { frames = rest.frames; rising = rest.rising; each = each; only = rest.only }
    where
      each : (f : ℕ) → f < suc n → Passes is_frame shapes f → Among f rest.frames
      each f lt h =
          elim (cases_eq f n) [
            | inl e ↦ absurd (none (subst (Passes is_frame shapes) e h))
            | inr ne ↦ rest.each f
                (omega arith) h
          ]

  -- whether a shape is a frame
  is_one : (n : ℕ) → Dec (Passes is_frame shapes n)
  is_one n = dec_same (λ h. record { shape = h.0; shape_is = h.1; passes_so = h.2 })
      (λ p. (p.shape, p.shape_is, p.passes_so))
      (dec_item shapes n (λ s. is_frame s ≡ true) (λ s is. dec_true (is_frame s)))

  frames_below : (n : ℕ) → FramesBelow n
  frames_below zero =
      record { frames = []; rising = tt; each = λ f lt h. absurd (omega arith); only = λ f a. none_among f a }
  frames_below (suc n) =
      elim (is_one n) [
        | yes passes ↦ with_frame n passes (frames_below n)
        | no none ↦ without_frame n none
            (frames_below n)
      ]

  pub some_frames : (frames : List ℕ) × AreFrames shapes frames
  unfolding before
  some_frames = (
    found.frames,
    record {
      each = λ f h. (let a = found.each f (slice_get_within shapes f h.shape h.shape_is) h in
          record { place = a.place; there = a.there });
      only = λ c f h. found.only f (record { place = c; there = h });
      in_order = λ c d f g s t lt p q is_f is_g.
          ap (λ (x : Shape). comes_before x f t g) (sym (get_or_from_slice_get shapes f s no_shape is_f))
          ∙ ap (λ (x : Shape). comes_before (shape_at f) f x g) (sym (get_or_from_slice_get shapes g t no_shape is_g))
          ∙ by_places before found.frames found.rising c d f g p q lt;
    },
  )
    where
      found : FramesBelow (length shapes)
      found = frames_below (length shapes)
