-- A layout that can be written meets the premises of the proofs about its bytes.
use Rattle.std.proofs.Common.{◌≡◌, ◌≢◌, ℕ, zero, suc, ◌+◌, ◌<◌, ◌≤◌, List, [], ◌∷◌, length, Bool, true, false, eqb}
use Rattle.std.proofs.Common.{refl, sym, ap, ◌∙◌, arith, ◌⊎◌, inl, inr}
use Rattle.std.specs.Prelude.{ℤ, ◌<ℤ◌, slice_index_or, int_le, All, AllPairs, FitsSigned}
use Rattle.std.specs.List.{AllByRecursion}
use Rattle.std.specs.Int.{w32}
use Rattle.std.proofs.lemmas.Int.{ints}
use Rattle.std.proofs.lemmas.Bool.{eqb-true, cases_eq}
use Rattle.geom.specs.Rectangle.{Rectangle, IsProper}
use Rattle.geom.specs.FlatForm.{elements_at}
use Rattle.geom.specs.Writable.{IsWritableText, IsWritableShape, IsWritableLabel, names_in, is_referenced}
use Rattle.geom.specs.Writable.{holds_reference, IsWritable}
use Rattle.geom.specs.Writable as writable
use Rattle.geom.specs.declared.layout.Element.{Element}
use Rattle.geom.specs.declared.layout.Element.TheVariants.{Box, Place, Text}
use Rattle.geom.specs.declared.layout.Structure.{Structure}
use Rattle.geom.specs.declared.layout.Layout.{Layout}
use Rattle.gds_records.specs.Records.{same}
use Rattle.gds_records.specs.Drawing.{place_of}
use Rattle.gds_records.proofs.WrittenRead.{names_length}
use Rattle.gds_records.proofs.Premises.{IsText, IsBox, IsWritableElement, IsWritableStructure, AreFlat, unreferenced}
use Rattle.gds_records.proofs.Premises.{IsTree}
use Rattle.gds_records.proofs.Tree.{same_refl}

-- ---- each element by itself

all_recursively : {X : Type 0} (P : X → Type 0) (xs : List X) → All P xs → AllByRecursion P xs
all_recursively P [] all = tt
all_recursively P (x ∷ xs) all = (all 0 x (omega arith), all_recursively P xs (λ k d h. all (suc k) d (omega arith)))

is_text : (t : List ℕ) → IsWritableText t → IsText t
is_text t is = all_recursively (λ b. 0 < b) t is.without_zeros

at_most_of : (a b : ℤ) → a <ℤ b → int_le a b ≡ true
at_most_of a b h = grind (arith, ints)

apart_of : (a b : ℤ) → a <ℤ b → a ≡ b → ⊥
apart_of a b h e = omega (arith, ints)

is_box : (r : Rectangle) → FitsSigned w32 r.x0 → FitsSigned w32 r.y0 → FitsSigned w32 r.x1 → FitsSigned w32 r.y1
    → IsProper r → IsBox r
is_box r a b c d p = record {
  x0 = a;
  y0 = b;
  x1 = c;
  y1 = d;
  wide = at_most_of r.x0 r.x1 p.wide;
  high = at_most_of r.y0 r.y1 p.high;
  not_thin = apart_of r.x0 r.x1 p.wide;
  not_flat = apart_of r.y0 r.y1 p.high;
}

is_element : (names : List (List ℕ)) (e : Element) → writable.IsWritableElement (length names) e
    → IsWritableElement names e
is_element names (Box s) is = (is.layer, is.datatype, is_box s.rect is.left is.bottom is.right is.above is.proper)
is_element names (Place n x y) is = is
is_element names (Text l) is = (is.layer, is.x, is.y, is_text l.text is.written, omega (arith, is.written.short))

are_elements : (names : List (List ℕ)) (es : List Element)
    → AllByRecursion (writable.IsWritableElement (length names)) es → AllByRecursion (IsWritableElement names) es
are_elements names [] all = tt
are_elements names (e ∷ es) all = (is_element names e all.0, are_elements names es all.1)

is_structure : (names : List (List ℕ)) (s : Structure) → writable.IsWritableStructure (length names) s
    → IsWritableStructure names s
is_structure names s is = (
  is_text s.name is.name,
  are_elements names s.elements (all_recursively (writable.IsWritableElement (length names)) s.elements is.elements),
  omega (arith, is.name.short),
  is.name.some,
)

are_structures : (names : List (List ℕ)) (ss : List Structure)
    → AllByRecursion (writable.IsWritableStructure (length names)) ss → AllByRecursion (IsWritableStructure names) ss
are_structures names [] all = tt
are_structures names (s ∷ ss) all = (is_structure names s all.0, are_structures names ss all.1)

-- ---- each name in its own first place

same_is : (x y : List ℕ) → same x y ≡ true → x ≡ y
same_is [] [] e = refl
same_is [] (b ∷ y) e = absurd cc
same_is (a ∷ x) [] e = absurd cc
same_is (a ∷ x) (b ∷ y) e = both (same_is x y) (eqb a b) refl e
  where
    both : (same x y ≡ true → x ≡ y) → (t : Bool) → eqb a b ≡ t
        → (elim t as (λ (z : Bool). Bool) [ true ↦ same x y | false ↦ false ]) ≡ true → a ∷ x ≡ b ∷ y
    both g true f e = let p : a ≡ b = eqb-true a b f in let q : x ≡ y = g e in cc
    both g false f e = absurd cc

same_other : (x y : List ℕ) (t : Bool) → same x y ≡ t → x ≢ y → t ≡ false
same_other x y true e h = absurd (h (same_is x y e))
same_other x y false e h = refl

found_first : (x : List ℕ) (t : Bool) (m : ℕ) → same x x ≡ t
    → (elim t as (λ (z : Bool). ℕ) [ true ↦ 0 | false ↦ m ]) ≡ 0
found_first x true m e = refl
found_first x false m e = absurd (let f = same_refl x in cc)

found_later : (t : Bool) (m n : ℕ) → t ≡ false → m ≡ n
    → (elim t as (λ (z : Bool). ℕ) [ true ↦ 0 | false ↦ suc m ]) ≡ suc n
found_later true m n e f = absurd cc
found_later false m n e f = ap (λ (z : ℕ). suc z) f

in_place : (names : List (List ℕ)) → AllPairs (λ a b. a ≢ b) names → (n : ℕ) → n < length names
    → place_of (slice_index_or names n []) names ≡ n
in_place [] d n h = absurd (omega arith)
in_place (x ∷ xs) d zero h = found_first x (same x x) (suc (place_of x xs)) refl
in_place (x ∷ xs) d (suc n) h =
    found_later (same (slice_index_or xs n []) x) (place_of (slice_index_or xs n []) xs) n
    (same_other (slice_index_or xs n []) x (same (slice_index_or xs n []) x) refl
    (λ e. d 0 (suc n) [] (omega arith) h (sym e)))
    (in_place xs (λ i j z a b. d (suc i) (suc j) z (omega arith) (omega arith)) n (omega arith))

-- ---- references

-- what is left, from number k on
abbrev Stands : List Structure → ℕ → List Structure → Type 0
Stands all k ss = (i : ℕ) → i < length ss → elements_at all (k + i) ≡ elements_at ss i

stands_more : (all : List Structure) (k : ℕ) (s : Structure) (ss : List Structure) → Stands all k (s ∷ ss)
    → Stands all (suc k) ss
stands_more all k s ss st i h = let e : suc k + i ≡ k + suc i = omega arith in
    ap (λ (n : ℕ). elements_at all n) e ∙ st (suc i) (omega arith)

stands_here : (all : List Structure) (k : ℕ) (s : Structure) (ss : List Structure) → Stands all k (s ∷ ss)
    → elements_at all k ≡ s.elements
stands_here all k s ss st = let e : k ≡ k + 0 = omega arith in ap (λ (n : ℕ). elements_at all n) e ∙ st 0 (omega arith)

are_flat : (all : List Structure) → ((n : ℕ) → is_referenced n all ≡ true → holds_reference (elements_at all n) ≡ false)
    → (k : ℕ) (ss : List Structure) → Stands all k ss → AreFlat k all ss
are_flat all shallow k [] st = tt
are_flat all shallow k (s ∷ ss) st = (
  λ h. ap (λ (es : List Element). holds_reference es) (sym (stands_here all k s ss st)) ∙ shallow k h,
  are_flat all shallow (suc k) ss (stands_more all k s ss st),
)

skipped : (t : Bool) (k : ℕ) (rest : List ℕ) → t ≡ true
    → (elim t as (λ (z : Bool). List ℕ) [ true ↦ rest | false ↦ k ∷ rest ]) ≡ rest
skipped true k rest e = refl
skipped false k rest e = absurd cc

taken : (t : Bool) (k : ℕ) (rest : List ℕ) → t ≡ false → rest ≡ []
    → (elim t as (λ (z : Bool). List ℕ) [ true ↦ rest | false ↦ k ∷ rest ]) ≡ k ∷ []
taken true k rest e f = absurd cc
taken false k rest e f = ap (λ (z : List ℕ). k ∷ z) f

all_used : (all : List Structure) (k : ℕ) (ss : List Structure)
    → ((n : ℕ) → k ≤ n → n < k + length ss → is_referenced n all ≡ true) → unreferenced k all ss ≡ []
all_used all k [] used = refl
all_used all k (s ∷ ss) used = skipped (is_referenced k all) k (unreferenced (suc k) all ss)
    (used k (omega arith) (omega arith)) ∙ all_used all (suc k) ss (λ n a b. used n (omega arith) (omega arith))

one_free : (all : List Structure) (k top : ℕ) (ss : List Structure) → is_referenced top all ≡ false → k ≤ top
    → top < k + length ss
    → ((n : ℕ) → k ≤ n → n < k + length ss → n ≢ top → is_referenced n all ≡ true) → unreferenced k all ss ≡ top ∷ []
one_free all k top [] free a b used = absurd (omega arith)
one_free all k top (s ∷ ss) free a b used = here
    (λ h. one_free all (suc k) top ss free (omega arith) (omega arith) (λ n c d. used n (omega arith) (omega arith)))
    (cases_eq k top)
  where
    here : (k ≢ top → unreferenced (suc k) all ss ≡ top ∷ []) → (k ≡ top) ⊎ (k ≢ top)
        → unreferenced k all (s ∷ ss) ≡ top ∷ []
    here later (inl e) = taken (is_referenced k all) k (unreferenced (suc k) all ss)
        (ap (λ (n : ℕ). is_referenced n all) e ∙ free)
        (all_used all (suc k) ss (λ n c d. used n (omega arith) (omega arith) (λ f. omega arith)))
        ∙ ap (λ (n : ℕ). n ∷ []) e
    here later (inr h) = skipped (is_referenced k all) k (unreferenced (suc k) all ss)
        (used k (omega arith) (omega arith) h) ∙ later h

pub writable_is_tree : (layout : Layout) → IsWritable layout → IsTree layout
writable_is_tree layout is =
    let ss = layout.structures in
    let l : length (names_in ss) ≡ length ss = names_length ss in
    let each : AllByRecursion (writable.IsWritableStructure (length (names_in ss))) ss =
    rw l (all_recursively (writable.IsWritableStructure (length ss)) ss is.each) in
    record {
      each = are_structures (names_in ss) ss each;
      distinct = λ n h. in_place (names_in ss) is.distinct n (omega arith);
      flat = are_flat ss is.shallow 0 ss (λ i h. let e : 0 + i ≡ i = omega arith in ap (λ (n : ℕ). elements_at ss n) e);
      alone = one_free ss 0 layout.top ss is.top_is_free (omega arith) (omega (arith, is.top_stands))
          (λ n a b h. is.others_are_used n (omega arith) h);
    }
