-- The corners of the frames, read, sorted and numbered, are the frames in the order of cells.
use Rattle.std.proofs.Common.{◌≡◌, ◌≢◌, ℕ, ◌+◌, ◌<◌, ◌≤◌, inl, inr, Bool, true, false, List, [], ◌∷◌, ◌++◌, length}
use Rattle.std.proofs.Common.{Option, Some, None, option_map, refl, sym, ap, subst, ◌∙◌, arith, eq-eqb, ℤ}
use Rattle.std.specs.Prelude.{slice_get, count_by, ◌==◌, ◌&&◌, ◌||◌, nat_lt, int_lt, IsPermutation, IsSorted}
use Rattle.std.specs.declared.cmp.Ordering.{Ordering}
use Rattle.std.specs.Ordering.{int_cmp, nat_cmp, int_eq, is_lt, ordering_then}
use Rattle.std.specs.Cmp.{IsTotalOrder}
use Rattle.std.proofs.lemmas.Int.{ints}
use Rattle.std.proofs.lemmas.Cmp.{int_cmp_total, nat_cmp_total, then_total, on_total}
use Rattle.std.proofs.lemmas.Bool.Decides.{nat_tests}
use Rattle.std.proofs.lemmas.Bool.{cases_eq, both_ways, eqb-true}
use Rattle.std.proofs.lemmas.Option.{same_Some, slice_get_within}
use Rattle.std.proofs.lemmas.Option.{slice_get-map}
use Rattle.std.proofs.lemmas.List.Sorted.{IsPermutation-sym, sum_by-IsPermutation}
use Rattle.std.proofs.Math.ListN.{length-append}
use Rattle.geom.specs.declared.shapes.Shape.{Shape}
use Rattle.layout_rules.specs.Layers.{is_frame}
use Rattle.layout_rules.proofs.PlaceLaws.{count_by-once, count_by-one}
use Rattle.shape_extract.specs.declared.circuits.frames.Corner.{Corner}
use Rattle.shape_extract.specs.Code.Corners.{corner_of, IsCorner, HasCorner, AreCorners, numbers_of}
use Rattle.shape_extract.specs.Frames.{AreFrames}
use Rattle.shape_extract.proofs.Moved.{moved, far}
use Rattle.shape_extract.proofs.RowEdges.{push_old, push_new, push_cases}

-- the corners of the frames among the first shapes
pub record CornersBelow (n : ℕ) (shapes : List Shape) (corners : List Corner) : Type 0 where
  pub each : (f : ℕ) (frame : Shape) → f < n → slice_get shapes f ≡ Some frame → is_frame frame ≡ true
      → HasCorner shapes corners f frame
  pub only : (k : ℕ) (corner : Corner) → slice_get corners k ≡ Some corner → IsCorner shapes corner
  pub below : (k : ℕ) (corner : Corner) → slice_get corners k ≡ Some corner → corner.number < n
  pub once : (k l : ℕ) (c d : Corner) → slice_get corners k ≡ Some c → slice_get corners l ≡ Some d
      → c.number ≡ d.number → k ≡ l
  pub few : length corners ≤ n

module _ (shapes : List Shape) (n : ℕ) (corners : List Corner) (here : Shape) (are : CornersBelow n shapes corners)
    (got : slice_get shapes n ≡ Some here) where
  pub corners_more : is_frame here ≡ true → CornersBelow (n + 1) shapes (corners ++ corner_of here n ∷ [])
  corners_more frame_so = record {
    each = λ f frame lt at so. elim (cases_eq f n) [
      | inl e ↦
          let same : here ≡ frame = same_Some here frame (sym got ∙ (ap (slice_get shapes) (sym e) ∙ at)) in
          record {
            place = length corners;
            there = push_new corners (corner_of here n)
                ∙ ap (λ (s : Shape). Some (corner_of s n)) same ∙ ap (λ (m : ℕ). Some (corner_of frame m)) (sym e);
          }
      | inr ne ↦ let k = are.each f frame
          (omega arith) at so in record {
            place = k.place;
            there = push_old corners (corner_of here n) (corner_of frame f) k.place k.there;
          }
    ];
    only = λ k corner is. elim (push_cases corners (corner_of here n) corner k is) [
      | inl old ↦ are.only k corner old
      | inr new ↦ subst (IsCorner shapes) new.1
          (record { frame = here; frame_is = got; frame_so = frame_so; corner_is = refl })
    ];
    below = λ k corner is. elim (push_cases corners (corner_of here n) corner k is) [
      | inl old ↦ (let lt : corner.number < n = are.below k corner old in omega arith)
      | inr new ↦ (let e : n ≡ corner.number = ap (λ (x : Corner). x.number) new.1 in omega arith)
    ];
    once = λ k l c d p q same. elim (push_cases corners (corner_of here n) c k p) [
      | inl old ↦ elim (push_cases corners (corner_of here n) d l q) [
        | inl older ↦ are.once k l c d old older same
        | inr new ↦ absurd (let lt : c.number < n = are.below k c old in let e : n ≡ d.number =
            ap (λ (x : Corner). x.number) new.1 in omega arith)
      ]
      | inr new ↦ elim (push_cases corners (corner_of here n) d l q) [
        | inl old ↦ absurd (let lt : d.number < n = are.below l d old in let e : n ≡ c.number =
            ap (λ (x : Corner). x.number) new.1 in omega arith)
        | inr newer ↦ new.0 ∙ sym newer.0
      ]
    ];
    few = omega (arith, are.few, length-append corners (corner_of here n ∷ []));
  }

  pub corners_same : is_frame here ≡ false → CornersBelow (n + 1) shapes corners
  corners_same other = record {
    each = λ f frame lt at so. elim (cases_eq f n) [
      | inl e ↦ absurd (both_ways (is_frame here) other
          (ap is_frame (same_Some here frame (sym got ∙ (ap (slice_get shapes) (sym e) ∙ at))) ∙ so))
      | inr ne ↦ are.each f frame (omega arith) at so
    ];
    only = are.only;
    below = λ k corner is. (let lt : corner.number < n = are.below k corner is in omega arith);
    once = are.once;
    few = omega (arith, are.few);
  }

pub corners_all : (shapes : List Shape) (n : ℕ) (corners : List Corner) → length shapes ≤ n
    → CornersBelow n shapes corners → AreCorners shapes corners
corners_all shapes n corners all are = record {
  each = λ f frame at so. (let lt : f < length shapes =
      slice_get_within shapes f frame at in are.each f frame (omega arith) at so);
  only = are.only;
  once = are.once;
}

-- ---- the same corners in another order

abbrev has_number : ℕ → Corner → Bool
has_number f corner = corner.number == f

module _ (shapes : List Shape) (corners sorted : List Corner) (are : AreCorners shapes corners)
    (same : IsPermutation corners sorted) where
  old_place : (x : Corner) (k : ℕ) → slice_get sorted k ≡ Some x → (l : ℕ) × (slice_get corners l ≡ Some x)
  old_place x k is = moved sorted corners (IsPermutation-sym corners sorted same) x (k, is)

  -- each number has one corner
  one_of : (k : ℕ) (x : Corner) → slice_get sorted k ≡ Some x → count_by (has_number x.number) sorted ≡ 1
  one_of k x is =
      let old = old_place x k is in
      sum_by-IsPermutation _ corners sorted same
      ∙ count_by-once (has_number x.number) corners old.0 x old.1 (eq-eqb x.number x.number refl)
      (λ n y p t. are.once n old.0 y x p old.1 (eqb-true y.number x.number t))

  pub corners_sorted : AreCorners shapes sorted
  corners_sorted = record {
    each = λ f frame at so. (
        let k = are.each f frame at so in
        let new = moved corners sorted same (corner_of frame f) (k.place, k.there) in
        record { place = new.0; there = new.1 });
    only = λ k corner is. (let old = old_place corner k is in are.only old.0 corner old.1);
    once = λ k l c d p q e. count_by-one (has_number c.number) sorted k l c d (one_of k c p) p
        (eq-eqb c.number c.number refl) q (eq-eqb d.number c.number (sym e));
  }

-- ---- sorted corners are in the order of cells

abbrev corner_cmp : Corner → Corner → Ordering
corner_cmp a b = ordering_then (int_cmp a.y b.y) (ordering_then (int_cmp a.x b.x) (nat_cmp a.number b.number))

corner_cmp_total : IsTotalOrder corner_cmp
corner_cmp_total = then_total (on_total (λ (c : Corner). c.y) int_cmp_total)
    (then_total (on_total (λ (c : Corner). c.x) int_cmp_total) (on_total (λ (c : Corner). c.number) nat_cmp_total))

before_from : (y v x u : ℤ) (f g : ℕ)
    → is_lt (ordering_then (int_cmp v y) (ordering_then (int_cmp u x) (nat_cmp g f))) ≡ false → f ≢ g
    → (int_lt y v || (int_eq y v && (int_lt x u || (int_eq x u && nat_lt f g)))) ≡ true
before_from y v x u f g h ne = grind (arith, ints, nat_tests)

module _ (shapes : List Shape) (sorted : List Corner) (are : AreCorners shapes sorted)
    (up : IsSorted corner_cmp sorted) where
  number_at : (c f : ℕ) → slice_get (numbers_of sorted) c ≡ Some f → (x : Corner)
      × (slice_get sorted c ≡ Some x) × (x.number ≡ f)
  number_at c f is = by_corner (slice_get sorted c) refl (sym (slice_get-map (λ corner. corner.number) sorted c) ∙ is)
    where
      by_corner : (o : Option Corner) → slice_get sorted c ≡ o
          → option_map (λ (corner : Corner). corner.number) o ≡ Some f → (x : Corner)
          × (slice_get sorted c ≡ Some x) × (x.number ≡ f)
      by_corner None e k = absurd cc
      by_corner (Some x) e k = (x, e, same_Some x.number f k)

  pub frames_from : AreFrames shapes (numbers_of sorted)
  frames_from = record {
    each = λ f passes. (
        let k = are.each f passes.shape passes.shape_is passes.passes_so in
        record {
          place = k.place;
          there = slice_get-map (λ corner. corner.number) sorted k.place
              ∙ ap (option_map (λ (corner : Corner). corner.number)) k.there;
        });
    only = λ c f is. (
        let x = number_at c f is in
        let at = are.only c x.0 x.1 in
        record { shape = at.frame; shape_is = ap (slice_get shapes) (sym x.2) ∙ at.frame_is; passes_so = at.frame_so });
    in_order = λ c d f g s t lt p q s_is t_is. (
        let x = number_at c f p in
        let y = number_at d g q in
        let at_x = are.only c x.0 x.1 in
        let at_y = are.only d y.0 y.1 in
        let same_s : at_x.frame ≡ s = same_Some at_x.frame s (sym at_x.frame_is ∙ (ap (slice_get shapes) x.2 ∙ s_is)) in
        let same_t : at_y.frame ≡ t = same_Some at_y.frame t (sym at_y.frame_is ∙ (ap (slice_get shapes) y.2 ∙ t_is)) in
        let x_is : x.0 ≡ corner_of s f = at_x.corner_is ∙ ap (λ (v : Shape). corner_of v x.0.number) same_s
        ∙ ap (corner_of s) x.2 in
        let y_is : y.0 ≡ corner_of t g = at_y.corner_is ∙ ap (λ (v : Shape). corner_of v y.0.number) same_t
        ∙ ap (corner_of t) y.2 in
        let h : is_lt (corner_cmp (corner_of t g) (corner_of s f)) ≡ false =
        ap (λ (v : Corner). is_lt (corner_cmp v (corner_of s f))) (sym y_is)
        ∙ (ap (λ (v : Corner). is_lt (corner_cmp y.0 v)) (sym x_is)
        ∙ far corner_cmp_total sorted up c d x.0 y.0 (omega arith) x.1 y.1) in
        before_from s.rect.y0 t.rect.y0 s.rect.x0 t.rect.x0 f g h
        (λ e. (let same : c ≡ d = are.once c d x.0 y.0 x.1 y.1 (x.2 ∙ (e ∙ sym y.2)) in omega arith)));
  }
