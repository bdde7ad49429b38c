-- Shapes that are sorted with their numbers are in order: equal ones come one after the other, by rising number.
use Rattle.std.proofs.Common.{◌≡◌, ℕ, ◌+◌, ◌<◌, ◌≤◌, inl, inr, ℤ, true, false, eqb, List, [], ◌∷◌, ◌++◌}
use Rattle.std.proofs.Common.{length, Some, refl, sym, ap, subst, ◌∙◌, arith}
use Rattle.std.specs.Prelude.{slice_get, IsPermutation, IsSorted}
use Rattle.std.specs.declared.cmp.Ordering.{Ordering}
use Rattle.std.specs.declared.cmp.Ordering.TheVariants.{Less, Equal, Greater}
use Rattle.std.specs.Ordering.{int_cmp, nat_cmp, int_eq, is_lt, ordering_then, ordering_reverse}
use Rattle.std.specs.Cmp.{IsTotalOrder}
use Rattle.std.proofs.lemmas.Int.{ints}
use Rattle.std.proofs.lemmas.Cmp.{int_cmp_total, nat_cmp_total, then_total, on_total, tied_itself}
use Rattle.std.proofs.lemmas.Bool.Decides.{nat_tests}
use Rattle.std.proofs.lemmas.Bool.{cases_eq, and_from}
use Rattle.std.proofs.lemmas.Option.{same_Some, slice_get_within}
use Rattle.std.proofs.lemmas.List.Sorted.{IsPermutation-sym}
use Rattle.geom.specs.declared.shapes.Shape.{Shape}
use Rattle.shape_extract.specs.declared.distinct_shapes.Sided.{Sided}
use Rattle.shape_extract.specs.Code.DistinctShapes.{sided_of, AreAlike, AreInOrder}
use Rattle.shape_extract.proofs.Moved.{moved, far}
use Rattle.shape_extract.proofs.RowEdges.{push_old, push_new, push_cases}
use Rattle.shape_extract.proofs.SameShapes.{same_shape}
use Rattle.shape_extract.proofs.Each.{item_at}

-- ---- shapes compare by their fields, then by their numbers

-- the order of shapes without numbers
abbrev shape_cmp : Shape → Shape → Ordering
shape_cmp s t =
    ordering_then (int_cmp s.rect.x0 t.rect.x0) (ordering_then (int_cmp s.rect.y0 t.rect.y0)
    (ordering_then (int_cmp s.rect.x1 t.rect.x1) (ordering_then (int_cmp s.rect.y1 t.rect.y1)
    (ordering_then (nat_cmp s.layer t.layer) (nat_cmp s.datatype t.datatype)))))

shape_total : IsTotalOrder shape_cmp
shape_total =
    then_total (on_total (λ (s : Shape). s.rect.x0) int_cmp_total)
    (then_total (on_total (λ (s : Shape). s.rect.y0) int_cmp_total)
    (then_total (on_total (λ (s : Shape). s.rect.x1) int_cmp_total)
    (then_total (on_total (λ (s : Shape). s.rect.y1) int_cmp_total)
    (then_total (on_total (λ (s : Shape). s.layer) nat_cmp_total)
    (on_total (λ (s : Shape). s.datatype) nat_cmp_total)))))

-- what the derived order answers
abbrev sided_cmp : Sided → Sided → Ordering
sided_cmp a b =
    ordering_then (int_cmp a.x0 b.x0) (ordering_then (int_cmp a.y0 b.y0) (ordering_then (int_cmp a.x1 b.x1)
    (ordering_then (int_cmp a.y1 b.y1) (ordering_then (nat_cmp a.layer b.layer)
    (ordering_then (nat_cmp a.datatype b.datatype) (nat_cmp a.number b.number))))))

sided_total : IsTotalOrder sided_cmp
sided_total =
    then_total (on_total (λ (s : Sided). s.x0) int_cmp_total)
    (then_total (on_total (λ (s : Sided). s.y0) int_cmp_total)
    (then_total (on_total (λ (s : Sided). s.x1) int_cmp_total)
    (then_total (on_total (λ (s : Sided). s.y1) int_cmp_total)
    (then_total (on_total (λ (s : Sided). s.layer) nat_cmp_total)
    (then_total (on_total (λ (s : Sided). s.datatype) nat_cmp_total)
    (on_total (λ (s : Sided). s.number) nat_cmp_total))))))

then_assoc : (o p q : Ordering) → ordering_then (ordering_then o p) q ≡ ordering_then o (ordering_then p q)
then_assoc Less p q = refl
then_assoc Equal p q = refl
then_assoc Greater p q = refl

six_then : (a b c d e f g : Ordering)
    → ordering_then (ordering_then a (ordering_then b (ordering_then c (ordering_then d (ordering_then e f))))) g
    ≡ ordering_then a (ordering_then b (ordering_then c (ordering_then d (ordering_then e (ordering_then f g)))))
six_then a b c d e f g = simp then_assoc

by_number : (s t : Shape) (m n : ℕ)
    → ordering_then (shape_cmp s t) (nat_cmp m n) ≡ sided_cmp (sided_of s m) (sided_of t n)
by_number s t m n =
    six_then (int_cmp s.rect.x0 t.rect.x0) (int_cmp s.rect.y0 t.rect.y0) (int_cmp s.rect.x1 t.rect.x1)
    (int_cmp s.rect.y1 t.rect.y1) (nat_cmp s.layer t.layer) (nat_cmp s.datatype t.datatype) (nat_cmp m n)

not_less : (o p : Ordering) → is_lt (ordering_then o p) ≡ false → is_lt o ≡ false
not_less Less p h = h
not_less Equal p h = refl
not_less Greater p h = refl

number_not_less : (o p : Ordering) → o ≡ Equal → is_lt (ordering_then o p) ≡ false → is_lt p ≡ false
number_not_less o p e h = ap (λ (x : Ordering). is_lt (ordering_then x p)) (sym e) ∙ h

tie : (o : Ordering) → is_lt o ≡ false → is_lt (ordering_reverse o) ≡ false → o ≡ Equal
tie Less h k = absurd cc
tie Equal h k = refl
tie Greater h k = absurd cc

at_most : (m n : ℕ) → is_lt (nat_cmp n m) ≡ false → m ≤ n
at_most m n h = grind (arith, nat_tests)

then_equal : (o p : Ordering) → ordering_then o p ≡ Equal → (o ≡ Equal) × (p ≡ Equal)
then_equal Less p h = absurd cc
then_equal Equal p h = (refl, h)
then_equal Greater p h = absurd cc

int_equal : (a b : ℤ) → int_cmp a b ≡ Equal → int_eq a b ≡ true
int_equal a b h = grind (arith, ints)

nat_equal : (a b : ℕ) → nat_cmp a b ≡ Equal → eqb a b ≡ true
nat_equal a b h = grind (arith, nat_tests)

-- shapes that compare as equal are one
shape_equal : (s t : Shape) → shape_cmp s t ≡ Equal → s ≡ t
shape_equal s t h =
    let x0 = then_equal (int_cmp s.rect.x0 t.rect.x0) _ h in
    let y0 = then_equal (int_cmp s.rect.y0 t.rect.y0) _ x0.1 in
    let x1 = then_equal (int_cmp s.rect.x1 t.rect.x1) _ y0.1 in
    let y1 = then_equal (int_cmp s.rect.y1 t.rect.y1) _ x1.1 in
    let layer = then_equal (nat_cmp s.layer t.layer) (nat_cmp s.datatype t.datatype) y1.1 in
    same_shape s t
    (and_from (eqb s.layer t.layer) _ (nat_equal s.layer t.layer layer.0)
    (and_from (eqb s.datatype t.datatype) _ (nat_equal s.datatype t.datatype layer.1)
    (and_from (int_eq s.rect.x0 t.rect.x0) _ (int_equal s.rect.x0 t.rect.x0 x0.0)
    (and_from (int_eq s.rect.y0 t.rect.y0) _ (int_equal s.rect.y0 t.rect.y0 y0.0)
    (and_from (int_eq s.rect.x1 t.rect.x1) (int_eq s.rect.y1 t.rect.y1) (int_equal s.rect.x1 t.rect.x1 x1.0)
    (int_equal s.rect.y1 t.rect.y1 y1.0))))))

-- ---- the shapes with their numbers

-- it is a shape of the list with its number
pub record IsSided (shapes : List Shape) (x : Sided) : Type 0 where
  pub shape : Shape
  pub shape_is : slice_get shapes x.number ≡ Some shape
  pub is_so : x ≡ sided_of shape x.number

-- the first n shapes
pub record SidedTo (n : ℕ) (shapes : List Shape) (order : List Sided) : Type 0 where
  pub each : (m : ℕ) (s : Shape) → m < n → slice_get shapes m ≡ Some s
      → (k : ℕ) × (slice_get order k ≡ Some (sided_of s m))
  pub only : (k : ℕ) (x : Sided) → slice_get order k ≡ Some x → IsSided shapes x

pub sided_more : (n : ℕ) (shapes : List Shape) (order : List Sided) (here : Shape) → SidedTo n shapes order
    → slice_get shapes n ≡ Some here → SidedTo (n + 1) shapes (order ++ sided_of here n ∷ [])
sided_more n shapes order here are got = record {
  each = λ m s lt is. elim (cases_eq m n) [
    | inl e ↦
        let same : here ≡ s = same_Some here s (sym got ∙ (ap (slice_get shapes) (sym e) ∙ is)) in (
          length order,
          push_new order (sided_of here n) ∙ ap (λ (t : Shape). Some (sided_of t n)) same
              ∙ ap (λ (k : ℕ). Some (sided_of s k)) (sym e),
        )
    | inr ne ↦ let k = are.each m s (omega arith) is in (k.0, push_old order (sided_of here n) (sided_of s m) k.0 k.1)
  ];
  only = λ k x is. elim (push_cases order (sided_of here n) x k is) [
    | inl old ↦ are.only k x old
    | inr new ↦ subst (IsSided shapes) new.1 (record { shape = here; shape_is = got; is_so = refl })
  ];
}

-- ---- sorted

pub sided_moved : (n : ℕ) (shapes : List Shape) (order sorted : List Sided) → IsPermutation order sorted
    → SidedTo n shapes order → SidedTo n shapes sorted
sided_moved n shapes order sorted same are = record {
  each = λ m s lt is. moved order sorted same (sided_of s m) (are.each m s lt is);
  only = λ k x is. (
      let old = moved sorted order (IsPermutation-sym order sorted same) x (k, is) in
      are.only old.0 x old.1);
}

module _ (shapes : List Shape) (order : List Sided) (n : ℕ) (are : SidedTo n shapes order)
    (up : IsSorted sided_cmp order) where
  far_apart : (i j : ℕ) (x y : Sided) (s t : Shape) → i ≤ j → slice_get order i ≡ Some x → slice_get order j ≡ Some y
      → x ≡ sided_of s x.number → y ≡ sided_of t y.number
      → is_lt (ordering_then (shape_cmp t s) (nat_cmp y.number x.number)) ≡ false
  far_apart i j x y s t le p q x_is y_is =
      ap is_lt (by_number t s y.number x.number)
      ∙ (sym (ap (λ (v : Sided). is_lt (sided_cmp v (sided_of s x.number))) y_is)
      ∙ (sym (ap (λ (v : Sided). is_lt (sided_cmp y v)) x_is)
      ∙ far sided_total order up i j x y le p q))

  one_kind : (x y : Sided) (a : IsSided shapes x) (b : IsSided shapes y) → AreAlike shapes x y → a.shape ≡ b.shape
  one_kind x y a b alike = same_Some a.shape b.shape (sym a.shape_is ∙ (alike ∙ b.shape_is))

  between : (i j k : ℕ) (r s t : Sided) → i < j → j < k → slice_get order i ≡ Some r → slice_get order j ≡ Some s
      → slice_get order k ≡ Some t → AreAlike shapes r t → AreAlike shapes s t
  between i j k r s t ij jk p q u alike =
      let a = are.only i r p in
      let b = are.only j s q in
      let c = are.only k t u in
      let same : a.shape ≡ c.shape = one_kind r t a c alike in
      let up_to : is_lt (shape_cmp b.shape a.shape) ≡ false = not_less (shape_cmp b.shape a.shape)
      (nat_cmp s.number r.number) (far_apart i j r s a.shape b.shape (omega arith) p q a.is_so b.is_so) in
      let on : is_lt (shape_cmp c.shape b.shape) ≡ false = not_less (shape_cmp c.shape b.shape)
      (nat_cmp t.number s.number) (far_apart j k s t b.shape c.shape (omega arith) q u b.is_so c.is_so) in
      let back : is_lt (ordering_reverse (shape_cmp b.shape a.shape)) ≡ false =
      ap is_lt (sym (shape_total.antisymm a.shape b.shape))
      ∙ (ap (λ (v : Shape). is_lt (shape_cmp v b.shape)) same ∙ on) in
      let equal : b.shape ≡ a.shape = shape_equal b.shape a.shape (tie (shape_cmp b.shape a.shape) up_to back) in
      b.shape_is ∙ (ap Some (equal ∙ same) ∙ sym c.shape_is)

  later : (i j : ℕ) (s t : Sided) → i ≤ j → slice_get order i ≡ Some s → slice_get order j ≡ Some t
      → AreAlike shapes s t → s.number ≤ t.number
  later i j s t le p q alike =
      let a = are.only i s p in
      let b = are.only j t q in
      let same : a.shape ≡ b.shape = one_kind s t a b alike in
      let tied : shape_cmp b.shape a.shape ≡ Equal =
      ap (shape_cmp b.shape) same ∙ tied_itself shape_total b.shape in
      at_most s.number t.number (number_not_less (shape_cmp b.shape a.shape) (nat_cmp t.number s.number) tied
      (far_apart i j s t a.shape b.shape le p q a.is_so b.is_so))

  pub in_order : length shapes ≤ n → AreInOrder shapes order
  in_order all = record {
    within = λ k s is. (let a = are.only k s is in slice_get_within shapes s.number a.shape a.shape_is);
    all = λ m lt. (
        let s = item_at shapes m lt in
        let k = are.each m s.0 (omega arith) s.1 in
        record { place = k.0; sided = sided_of s.0 m; there = k.1; number_is = refl });
    together = between;
    rising = later;
  }
