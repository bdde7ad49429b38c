-- A layout whose placements are flat and which has one top is writable.
use Rattle.std.proofs.Common.{◌≡◌, ℕ, zero, suc, ◌+◌, ◌<◌, List, [], ◌∷◌, ◌++◌, map, length, Bool, true, false, eqb}
use Rattle.std.proofs.Common.{◌&&◌, ◌||◌, Option, Some, None, refl, sym, ap, subst, ◌∙◌, arith}
use Rattle.std.specs.Prelude.{slice_index_or, not}
use Rattle.std.specs.List.{AllByRecursion}
use Rattle.std.proofs.lemmas.Bool.Decides.{nat_tests}
use Rattle.geom.specs.declared.layout.Element.{Element}
use Rattle.geom.specs.declared.layout.Element.TheVariants.{Box, Place, Text}
use Rattle.geom.specs.declared.layout.Structure.{Structure}
use Rattle.geom.specs.declared.layout.Layout.{Layout}
use Rattle.gds_records.specs.Records.{same}
use Rattle.gds_records.specs.Whole.{Use, Outline, is_defined, is_used, all_uses, unknown, deep, tops, top_in, top_fault}
use Rattle.geom.specs.Writable.{names_in, refers_to, is_referenced, holds_reference}
use Rattle.gds_records.proofs.Premises.{IsWritableElement, IsWritableStructure, element_uses, outline, layout_outlines}
use Rattle.gds_records.proofs.Premises.{AreFlat, unreferenced, IsTree, IsOutlined}
use Rattle.gds_records.proofs.WrittenRead.{names_length, eqb_same}
use Rattle.gds_records.proofs.Written.{Distinct, distinct_so, eqb_suc}
use Rattle.gds_records.proofs.Conditions.{whole_of, number_of}

eqb_sym : (a b : ℕ) → eqb a b ≡ eqb b a
eqb_sym a b = grind (arith, nat_tests)

eqb_sucs : (a b : ℕ) → eqb (suc a) (suc b) ≡ eqb a b
eqb_sucs a b = grind (arith, nat_tests)

pick : (t : Bool) (s : Bool) → t ≡ true → s ≡ true
    → (elim t as (λ (b : Bool). Bool) [ true ↦ s | false ↦ false ]) ≡ true
pick t s e f = rw (e, f) refl

pub same_refl : (x : List ℕ) → same x x ≡ true
same_refl [] = refl
same_refl (a ∷ x) = pick (eqb a a) (same x x) (eqb_same a) (same_refl x)

pick_second : (u s v : Bool) → s ≡ v
    → (elim u as (λ (b : Bool). Bool) [ true ↦ s | false ↦ false ]) ≡ (elim u as (λ (b : Bool). Bool) [
      | true ↦ v
      | false ↦ false
    ])
pick_second true s v f = f
pick_second false s v f = refl

pick_same : (t u s v : Bool) → t ≡ u → s ≡ v
    → (elim t as (λ (b : Bool). Bool) [ true ↦ s | false ↦ false ]) ≡ (elim u as (λ (b : Bool). Bool) [
      | true ↦ v
      | false ↦ false
    ])
pick_same t u s v e f = rw e (pick_second u s v f)

same_sym : (x y : List ℕ) → same x y ≡ same y x
same_sym [] [] = refl
same_sym [] (b ∷ y) = refl
same_sym (a ∷ x) [] = refl
same_sym (a ∷ x) (b ∷ y) = pick_same (eqb a b) (eqb b a) (same x y) (same y x) (eqb_sym a b) (same_sym x y)

same_number : (names : List (List ℕ)) → Distinct names → (i n : ℕ) → i < length names → n < length names
    → same (slice_index_or names i []) (slice_index_or names n []) ≡ eqb n i
same_number [] d i n h g = absurd (omega arith)
same_number (x ∷ xs) d zero zero h g = same_refl x ∙ sym (eqb_same 0)
same_number (x ∷ xs) d zero (suc n) h g = same_sym x (slice_index_or xs n []) ∙ d.0 n (omega arith) ∙ sym (eqb_suc n)
same_number (x ∷ xs) d (suc i) zero h g = d.0 i (omega arith) ∙ sym (eqb_sym 0 (suc i) ∙ eqb_suc i)
same_number (x ∷ xs) d (suc i) (suc n) h g = same_number xs d.1 i n (omega arith) (omega arith) ∙ sym (eqb_sucs n i)

or_group : (x y z : Bool) → (x || (y || z)) ≡ ((x || y) || z)
or_group true y z = refl
or_group false y z = refl

used_append : (t : List ℕ) (a b : List Use) → is_used t (a ++ b) ≡ (is_used t a || is_used t b)
used_append t [] b = refl
used_append t (u ∷ a) b = ap (λ (x : Bool). same t u.name || x) (used_append t a b)
    ∙ or_group (same t u.name) (is_used t a) (is_used t b)

or_same : (a b c d : Bool) → a ≡ b → c ≡ d → (a || c) ≡ (b || d)
or_same a b c d e f = rw (e, f) refl

module _ (names : List (List ℕ)) (d : Distinct names) where
  element_used : (i : ℕ) → i < length names → (es : List Element) → AllByRecursion (IsWritableElement names) es
      → is_used (slice_index_or names i []) (element_uses names es) ≡ refers_to i es
  element_used i h [] all = refl
  element_used i h (Box s ∷ es) all = element_used i h es all.1
  element_used i h (Place n x y ∷ es) all =
      or_same (same (slice_index_or names i []) (slice_index_or names n [])) (eqb n i)
      (is_used (slice_index_or names i []) (element_uses names es)) (refers_to i es)
      (same_number names d i n h all.0.0) (element_used i h es all.1)
  element_used i h (Text l ∷ es) all = element_used i h es all.1

  used_placed : (i : ℕ) → i < length names → (ss : List Structure) → AllByRecursion (IsWritableStructure names) ss
      → is_used (slice_index_or names i []) (all_uses (map (outline names) ss)) ≡ is_referenced i ss
  used_placed i h [] all = refl
  used_placed i h (s ∷ ss) all =
      used_append (slice_index_or names i []) (element_uses names s.elements) (all_uses (map (outline names) ss))
      ∙ or_same (is_used (slice_index_or names i []) (element_uses names s.elements)) (refers_to i s.elements)
      (is_used (slice_index_or names i []) (all_uses (map (outline names) ss))) (is_referenced i ss)
      (element_used i h s.elements all.0.1) (used_placed i h ss all.1)

holds_so : (names : List (List ℕ)) (es : List Element)
    → not (eqb (length (element_uses names es)) 0) ≡ holds_reference es
holds_so names [] = refl
holds_so names (Box s ∷ es) = holds_so names es
holds_so names (Place n x y ∷ es) = ap (λ (x : Bool). not x) (eqb_suc (length (element_uses names es)))
holds_so names (Text l ∷ es) = holds_so names es

-- the names of what is left, from number k on
abbrev pub Stand : List (List ℕ) → ℕ → List Structure → Type 0
Stand names k ss = (i : ℕ) → i < length ss → (slice_index_or names (k + i) [] ≡ slice_index_or (names_in ss) i [])
    × (k + i < length names)

module _ (names : List (List ℕ)) (us : List Use) (placed : ℕ → Bool)
    (used : (i : ℕ) → i < length names → is_used (slice_index_or names i []) us ≡ placed i) where
  used_here : (k : ℕ) (s : Structure) (ss : List Structure) → Stand names k (s ∷ ss) → is_used s.name us ≡ placed k
  used_here k s ss st =
      let p = st 0 (omega arith) in
      let z : k + 0 ≡ k = omega arith in
      ap (λ (x : List ℕ). is_used x us) (sym p.0) ∙ used (k + 0) p.1 ∙ ap placed z

  stand_more : (k : ℕ) (s : Structure) (ss : List Structure) → Stand names k (s ∷ ss) → Stand names (suc k) ss
  stand_more k s ss st i h =
      let p = st (suc i) (omega arith) in
      let z : k + suc i ≡ suc k + i = omega arith in
      (ap (λ (j : ℕ). slice_index_or names j []) (sym z) ∙ p.0, subst (λ (j : ℕ). j < length names) z p.1)

  deep_step : (p h a b : Bool) (o : ℕ) (more : Option ℕ) → a ≡ p → b ≡ h → (p ≡ true → h ≡ false) → more ≡ None
      → (elim (a && b) as (λ (x : Bool). Option ℕ) [ true ↦ Some o | false ↦ more ]) ≡ None
  deep_step true true a b o more e f g m = absurd (let q = g refl in cc)
  deep_step true false a b o more e f g m = rw (e, f) m
  deep_step false h a b o more e f g m = rw e m

  deep_none : (k : ℕ) (all ss : List Structure) → ((i : ℕ) → placed i ≡ is_referenced i all) → Stand names k ss
      → AreFlat k all ss → deep us (map (outline names) ss) ≡ None
  deep_none k all [] same_placed st flat = refl
  deep_none k all (s ∷ ss) same_placed st flat =
      deep_step (is_referenced k all) (holds_reference s.elements) (is_used s.name us)
      (not (eqb (length (element_uses names s.elements)) 0)) 0 (deep us (map (outline names) ss))
      (used_here k s ss st ∙ same_placed k) (holds_so names s.elements) flat.0
      (deep_none (suc k) all ss same_placed (stand_more k s ss st) flat.1)

  top_step : (k : ℕ) (a b : Bool) (more : List (ℕ × ℕ)) (rest : List ℕ) → a ≡ b → map number_of more ≡ rest
      → map number_of
      (elim a as (λ (x : Bool). List (ℕ × ℕ)) [
        | true ↦ more
        | false ↦ (k, 0) ∷ more
      ]) ≡ (elim b as (λ (x : Bool). List ℕ) [ true ↦ rest | false ↦ k ∷ rest ])
  top_step k true true more rest e f = f
  top_step k false false more rest e f = ap (λ (x : List ℕ). k ∷ x) f
  top_step k true false more rest e f = absurd cc
  top_step k false true more rest e f = absurd cc

  tops_are : (k : ℕ) (all ss : List Structure) → ((i : ℕ) → placed i ≡ is_referenced i all) → Stand names k ss
      → map number_of (tops k us (map (outline names) ss)) ≡ unreferenced k all ss
  tops_are k all [] same_placed st = refl
  tops_are k all (s ∷ ss) same_placed st =
      top_step k (is_used s.name us) (is_referenced k all) (tops (suc k) us (map (outline names) ss))
      (unreferenced (suc k) all ss) (used_here k s ss st ∙ same_placed k)
      (tops_are (suc k) all ss same_placed (stand_more k s ss st))

-- ---- what is placed is a structure

left : (a b : Bool) → a ≡ true → (a || b) ≡ true
left a b e = rw e refl

right : (a b : Bool) → b ≡ true → (a || b) ≡ true
right true b e = refl
right false b e = e

defined : (names : List (List ℕ)) (ss : List Structure) (n : ℕ) → n < length ss
    → is_defined (slice_index_or (names_in ss) n []) (map (outline names) ss) ≡ true
defined names [] n h = absurd (omega arith)
defined names (s ∷ ss) zero h = left (same s.name s.name) (is_defined s.name (map (outline names) ss))
    (same_refl s.name)
defined names (s ∷ ss) (suc n) h = right (same (slice_index_or (names_in ss) n []) s.name)
    (is_defined (slice_index_or (names_in ss) n []) (map (outline names) ss)) (defined names ss n (omega arith))

known_step : (t : Bool) (o : ℕ) (more : Option ℕ) → t ≡ true → more ≡ None
    → (elim t as (λ (x : Bool). Option ℕ) [ true ↦ more | false ↦ Some o ]) ≡ None
known_step t o more e m = rw e m

module _ (names : List (List ℕ)) (os : List Outline)
    (all_defined : (n : ℕ) → n < length names → is_defined (slice_index_or names n []) os ≡ true) where
  element_known : (es : List Element) (us : List Use) → AllByRecursion (IsWritableElement names) es
      → unknown us os ≡ None → unknown (element_uses names es ++ us) os ≡ None
  element_known [] us all e = e
  element_known (Box s ∷ es) us all e = element_known es us all.1 e
  element_known (Place n x y ∷ es) us all e = known_step (is_defined (slice_index_or names n []) os) 0
      (unknown (element_uses names es ++ us) os) (all_defined n all.0.0) (element_known es us all.1 e)
  element_known (Text l ∷ es) us all e = element_known es us all.1 e

  all_known : (ss : List Structure) → AllByRecursion (IsWritableStructure names) ss
      → unknown (all_uses (map (outline names) ss)) os ≡ None
  all_known [] all = refl
  all_known (s ∷ ss) all = element_known s.elements (all_uses (map (outline names) ss)) all.0.1 (all_known ss all.1)

one_number : (o : ℕ) (ts : List (ℕ × ℕ)) (n : ℕ) → map number_of ts ≡ n ∷ [] → (top_fault o ts ≡ None) × (n ≡ top_in ts)
one_number o [] n e = absurd cc
one_number o (t ∷ []) n e = (refl, cc)
one_number o (t ∷ s ∷ ts) n e = absurd cc

pub tree_is_outlined : (layout : Layout) → IsTree layout → IsOutlined layout
tree_is_outlined layout is =
    let l : length (names_in layout.structures) ≡ length layout.structures = names_length layout.structures in
    let d = distinct_so (names_in layout.structures) (λ n h. is.distinct n (omega arith)) in
    let us = all_uses (layout_outlines layout.structures) in
    let used = λ (i : ℕ) (h : i < length (names_in layout.structures)). used_placed
    (names_in layout.structures) d i h layout.structures is.each in
    let st : Stand (names_in layout.structures) 0 layout.structures = λ i h. (
      let z : 0 + i ≡ i = omega arith in ap (λ (j : ℕ). slice_index_or (names_in layout.structures) j [])
          z,
      omega arith,
    ) in
    let t = one_number 0 (tops 0 us (layout_outlines layout.structures)) layout.top
    (tops_are (names_in layout.structures) us (λ i. is_referenced i layout.structures) used 0 layout.structures
    layout.structures (λ i. refl) st ∙ is.alone) in
    record {
      each = is.each;
      distinct = is.distinct;
      conditions = whole_of (unknown us (layout_outlines layout.structures))
          (deep us (layout_outlines layout.structures)) (top_fault 0 (tops 0 us (layout_outlines layout.structures)))
          (all_known (names_in layout.structures) (layout_outlines layout.structures)
          (λ n h. defined (names_in layout.structures) layout.structures n (omega arith)) layout.structures is.each)
          (deep_none (names_in layout.structures) us (λ i. is_referenced i layout.structures) used 0 layout.structures
          layout.structures (λ i. refl) st is.flat)
          t.0;
      top = t.1;
    }
