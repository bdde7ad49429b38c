-- The conditions on the whole of what is written.
use Rattle.std.proofs.Common.{◌≡◌, ℕ, suc, ◌+◌, List, [], ◌∷◌, ◌++◌, map, length, Bool, true, false, eqb, ◌&&◌, ◌||◌}
use Rattle.std.proofs.Common.{Option, Some, None, refl, sym, ap, ◌∙◌, append_assoc}
use Rattle.std.specs.Prelude.{slice_index_or, not}
use Rattle.std.specs.List.{flat_map, AllByRecursion}
use Rattle.std.proofs.lemmas.List.{map-append, length-map}
use Rattle.geom.specs.declared.layout.Element.{Element}
use Rattle.geom.specs.declared.layout.Element.TheVariants.{Box, Place, Text}
use Rattle.geom.specs.declared.layout.Structure.{Structure}
use Rattle.gds_records.specs.declared.fault.StreamKind.{StreamKind}
use Rattle.gds_records.specs.declared.fault.StreamKind.TheVariants.{UnknownName, Unsupported}
use Rattle.gds_records.specs.Records.{Record, record_with, trimmed, same}
use Rattle.gds_records.specs.Whole.{Use, Outline, uses_from, outlines, last_place, is_defined, is_used, all_uses}
use Rattle.gds_records.specs.Whole.{unknown, deep, tops, top_in, top_fault, outlines_fault, whole_fault, top_of}
use Rattle.geom.specs.Writable.{names_in}
use Rattle.gds_records.specs.Writing.{padded, dates, element_records, structure_records, records_of}
use Rattle.gds_records.proofs.Premises.{IsText, IsWritableStructure, element_uses, outline, layout_outlines}
use Rattle.gds_records.proofs.WrittenRead.{trimmed-padded, names_back, all_texts, flat_more, structure_more}

-- ---- without places

abbrev bare_use : Use → Use
bare_use u = record { place = 0; name = u.name }

abbrev bare : Outline → Outline
bare s = record { place = 0; name = s.name; uses = map bare_use s.uses }

used_bare : (t : List ℕ) (us : List Use) → is_used t (map bare_use us) ≡ is_used t us
used_bare t [] = refl
used_bare t (u ∷ us) = ap (λ (x : Bool). same t u.name || x) (used_bare t us)

defined_bare : (t : List ℕ) (ss : List Outline) → is_defined t (map bare ss) ≡ is_defined t ss
defined_bare t [] = refl
defined_bare t (s ∷ ss) = ap (λ (x : Bool). same t s.name || x) (defined_bare t ss)

all_bare : (ss : List Outline) → all_uses (map bare ss) ≡ map bare_use (all_uses ss)
all_bare [] = refl
all_bare (s ∷ ss) = ap (λ (x : List Use). map bare_use s.uses ++ x) (all_bare ss)
    ∙ sym (map-append bare_use s.uses (all_uses ss))

unknown_bare : (us : List Use) (ss : List Outline) → unknown (map bare_use us) (map bare ss) ≡ None
    → unknown us ss ≡ None
unknown_bare [] ss e = refl
unknown_bare (u ∷ us) ss e = cases (unknown_bare us ss) (is_defined u.name (map bare ss)) (is_defined u.name ss)
    (defined_bare u.name ss) e
  where
    cases : (unknown (map bare_use us) (map bare ss) ≡ None → unknown us ss ≡ None) → (a b : Bool) → a ≡ b
        → (elim a as (λ (x : Bool). Option ℕ) [
          | true ↦ unknown (map bare_use us) (map bare ss)
          | false ↦ Some 0
        ]) ≡ None
        → (elim b as (λ (x : Bool). Option ℕ) [ true ↦ unknown us ss | false ↦ Some u.place ]) ≡ None
    cases f true true q e = f e
    cases f true false q e = absurd cc
    cases f false b q e = absurd cc

deep_bare : (us : List Use) (ss : List Outline) → deep (map bare_use us) (map bare ss) ≡ None → deep us ss ≡ None
deep_bare us [] e = refl
deep_bare us (s ∷ ss) e =
    cases (deep_bare us ss) (is_used s.name (map bare_use us) && not (eqb (length (map bare_use s.uses)) 0))
    (is_used s.name us && not (eqb (length s.uses) 0))
    (ap (λ (x : Bool). x && not (eqb (length (map bare_use s.uses)) 0)) (used_bare s.name us)
    ∙ ap (λ (n : ℕ). is_used s.name us && not (eqb n 0)) (length-map s.uses bare_use)) e
  where
    cases : (deep (map bare_use us) (map bare ss) ≡ None → deep us ss ≡ None) → (a b : Bool) → a ≡ b
        → (elim a as (λ (x : Bool). Option ℕ) [ true ↦ Some 0 | false ↦ deep (map bare_use us) (map bare ss) ]) ≡ None
        → (elim b as (λ (x : Bool). Option ℕ) [ true ↦ Some s.place | false ↦ deep us ss ]) ≡ None
    cases f false false q e = f e
    cases f false true q e = absurd cc
    cases f true b q e = absurd cc

abbrev pub number_of : ℕ × ℕ → ℕ
number_of t = t.0

tops_bare : (n : ℕ) (us : List Use) (ss : List Outline)
    → map number_of (tops n (map bare_use us) (map bare ss)) ≡ map number_of (tops n us ss)
tops_bare n us [] = refl
tops_bare n us (s ∷ ss) = cases (tops_bare (suc n) us ss) (is_used s.name (map bare_use us)) (is_used s.name us)
    (used_bare s.name us)
  where
    cases : map number_of (tops (suc n) (map bare_use us) (map bare ss)) ≡ map number_of (tops (suc n) us ss)
        → (a b : Bool) → a ≡ b
        → map number_of
        (elim a as (λ (x : Bool). List (ℕ × ℕ)) [
          | true ↦ tops (suc n) (map bare_use us) (map bare ss)
          | false ↦ (n, 0) ∷ tops (suc n) (map bare_use us) (map bare ss)
        ])
        ≡ map number_of
        (elim b as (λ (x : Bool). List (ℕ × ℕ)) [
          | true ↦ tops (suc n) us ss
          | false ↦ (n, s.place) ∷ tops (suc n) us ss
        ])
    cases f true true q = f
    cases f false false q = ap (λ (x : List ℕ). n ∷ x) f
    cases f true false q = absurd cc
    cases f false true q = absurd cc

pub one_top : (a b : List (ℕ × ℕ)) (p q : ℕ) → map number_of a ≡ map number_of b → top_fault p a ≡ None
    → top_fault q b ≡ None
one_top [] b p q e f = absurd cc
one_top (x ∷ y ∷ a) b p q e f = absurd cc
one_top (x ∷ []) [] p q e f = absurd cc
one_top (x ∷ []) (y ∷ []) p q e f = refl
one_top (x ∷ []) (y ∷ z ∷ b) p q e f = absurd cc

pub top_same : (a b : List (ℕ × ℕ)) → map number_of a ≡ map number_of b → top_in a ≡ top_in b
top_same [] [] e = refl
top_same [] (y ∷ b) e = absurd cc
top_same (x ∷ a) [] e = absurd cc
top_same (x ∷ a) (y ∷ b) e = cc

pub parts : (u d : Option ℕ) (t : Option (ℕ × StreamKind))
    → (elim u as (λ (x : Option ℕ). Option (ℕ × StreamKind)) [
      | Some p ↦ Some (p, UnknownName)
      | None ↦ elim d as (λ (x : Option ℕ). Option (ℕ × StreamKind)) [
        | Some p ↦ Some (p, Unsupported)
        | None ↦ t
      ]
    ]) ≡ None
    → (u ≡ None) × (d ≡ None) × (t ≡ None)
parts (Some p) d t e = absurd cc
parts None (Some p) t e = absurd cc
parts None None t e = (refl, refl, e)

pub whole_of : (u d : Option ℕ) (t : Option (ℕ × StreamKind)) → u ≡ None → d ≡ None → t ≡ None
    → (elim u as (λ (x : Option ℕ). Option (ℕ × StreamKind)) [
      | Some p ↦ Some (p, UnknownName)
      | None ↦ elim d as (λ (x : Option ℕ). Option (ℕ × StreamKind)) [
        | Some p ↦ Some (p, Unsupported)
        | None ↦ t
      ]
    ]) ≡ None
whole_of u d t a b c = rw (a, b) c

fault_bare : (o : ℕ) (us : List Use) (ss : List Outline) → outlines_fault 0 (map bare_use us) (map bare ss) ≡ None
    → outlines_fault o us ss ≡ None
fault_bare o us ss e =
    let p = parts (unknown (map bare_use us) (map bare ss)) (deep (map bare_use us) (map bare ss))
    (top_fault 0 (tops 0 (map bare_use us) (map bare ss))) e in
    whole_of (unknown us ss) (deep us ss) (top_fault o (tops 0 us ss)) (unknown_bare us ss p.0) (deep_bare us ss p.1)
    (one_top (tops 0 (map bare_use us) (map bare ss)) (tops 0 us ss) 0 o (tops_bare 0 us ss) p.2)

-- ---- the outlines of what is written

cons_use : (n m : List ℕ) (us vs : List Use) → n ≡ m → us ≡ vs
    → record { place = 0; name = n } ∷ us ≡ record { place = 0; name = m } ∷ vs
cons_use n m us vs a b = rw (a, b) refl

element_uses_so : (names : List (List ℕ)) → AllByRecursion IsText names
    → (es : List Element) (o : ℕ) (rest : List Record)
    → map bare_use (uses_from o (flat_map (element_records names) es ++ (record_with 0x07 0 [] ∷ rest))) ≡ element_uses
    names es
element_uses_so names texts [] o rest = refl
element_uses_so names texts (Box s ∷ es) o rest = ap (λ (x : List Record). map bare_use (uses_from o x))
    (flat_more names (Box s) es (record_with 0x07 0 [] ∷ rest)) ∙ element_uses_so names texts es _ rest
element_uses_so names texts (Place n x y ∷ es) o rest =
    ap (λ (x : List Record). map bare_use (uses_from o x))
    (flat_more names (Place n x y) es (record_with 0x07 0 [] ∷ rest))
    ∙ cons_use (trimmed (padded (slice_index_or names n []))) (slice_index_or names n []) _ (element_uses names es)
    (trimmed-padded (slice_index_or names n []) (names_back names texts n)) (element_uses_so names texts es _ rest)
element_uses_so names texts (Text l ∷ es) o rest = ap (λ (x : List Record). map bare_use (uses_from o x))
    (flat_more names (Text l) es (record_with 0x07 0 [] ∷ rest)) ∙ element_uses_so names texts es _ rest

record Skipped (o : ℕ) (whole rest : List Record) : Type 0 where
  place : ℕ
  same_outlines : outlines o whole ≡ outlines place rest

skip_element : (names : List (List ℕ)) (e : Element) (o : ℕ) (rest : List Record)
    → Skipped o (element_records names e ++ rest) rest
skip_element names (Box s) o rest = record { place = _; same_outlines = refl }
skip_element names (Place n x y) o rest = record { place = _; same_outlines = refl }
skip_element names (Text l) o rest = record { place = _; same_outlines = refl }

skip_elements : (names : List (List ℕ)) (es : List Element) (o : ℕ) (rest : List Record)
    → Skipped o (flat_map (element_records names) es ++ (record_with 0x07 0 [] ∷ rest)) rest
skip_elements names [] o rest = record { place = _; same_outlines = refl }
skip_elements names (e ∷ es) o rest =
    let a = skip_element names e o (flat_map (element_records names) es ++ (record_with 0x07 0 [] ∷ rest)) in
    let b = skip_elements names es a.place rest in
    record {
      place = b.place;
      same_outlines = ap (λ (x : List Record). outlines o x)
          (flat_more names e es (record_with 0x07 0 [] ∷ rest)) ∙ a.same_outlines ∙ b.same_outlines;
    }

cons_outline : (n m : List ℕ) (us vs : List Use) (ss tt' : List Outline) → n ≡ m → us ≡ vs → ss ≡ tt'
    → record { place = 0; name = n; uses = us } ∷ ss ≡ record { place = 0; name = m; uses = vs } ∷ tt'
cons_outline n m us vs ss tt' a b c = rw (a, b, c) refl

structures_so : (names : List (List ℕ)) → AllByRecursion IsText names → (ss : List Structure)
    → AllByRecursion (IsWritableStructure names) ss → (o : ℕ)
    → map bare (outlines o (flat_map (structure_records names) ss ++ record_with 0x04 0 [] ∷ [])) ≡ map
    (outline names) ss
structures_so names texts [] all o = refl
structures_so names texts (s ∷ ss) all o =
    let rest = flat_map (structure_records names) ss ++ record_with 0x04 0 [] ∷ [] in
    let p = o + 28 + (4 + length (padded s.name)) in
    let k = skip_elements names s.elements p rest in
    ap (λ (x : List Record). map bare (outlines o x)) (structure_more names s ss (record_with 0x04 0 [] ∷ []))
    ∙ ap
    (λ (x : List Record). map bare (outlines o (record_with 0x05 2 (dates) ∷ record_with 0x06 6 (padded s.name) ∷ x)))
    (append_assoc (flat_map (element_records names) s.elements) (record_with 0x07 0 [] ∷ []) rest)
    ∙ cons_outline (trimmed (padded s.name)) s.name
    (map bare_use (uses_from p (flat_map (element_records names) s.elements ++ (record_with 0x07 0 [] ∷ rest))))
    (element_uses names s.elements)
    (map bare (outlines p (flat_map (element_records names) s.elements ++ (record_with 0x07 0 [] ∷ rest))))
    (map (outline names) ss)
    (trimmed-padded s.name all.0.0) (element_uses_so names texts s.elements p rest)
    (ap (λ (x : List Outline). map bare x) k.same_outlines ∙ structures_so names texts ss all.1 k.place)

outlines_so : (ss : List Structure) → AllByRecursion (IsWritableStructure (names_in ss)) ss
    → map bare (outlines 0 (records_of ss)) ≡ layout_outlines ss
outlines_so ss all = structures_so (names_in ss) (all_texts (names_in ss) ss all) ss all 62

pub conditions_so : (ss : List Structure) → AllByRecursion (IsWritableStructure (names_in ss)) ss
    → outlines_fault 0 (all_uses (layout_outlines ss)) (layout_outlines ss) ≡ None → whole_fault (records_of ss) ≡ None
conditions_so ss all e =
    let q = outlines_so ss all in
    let w : all_uses (layout_outlines ss) ≡ map bare_use (all_uses (outlines 0 (records_of ss))) =
    ap (λ (x : List Outline). all_uses x) (sym q) ∙ all_bare (outlines 0 (records_of ss)) in
    fault_bare (last_place 0 (records_of ss)) (all_uses (outlines 0 (records_of ss))) (outlines 0 (records_of ss))
    (ap (λ (x : List Outline). outlines_fault 0 (map bare_use (all_uses (outlines 0 (records_of ss)))) x) q
    ∙ ap (λ (x : List Use). outlines_fault 0 x (layout_outlines ss)) (sym w) ∙ e)

pub top_so : (ss : List Structure) → AllByRecursion (IsWritableStructure (names_in ss)) ss
    → top_in (tops 0 (all_uses (layout_outlines ss)) (layout_outlines ss)) ≡ top_of (records_of ss)
top_so ss all =
    let q = outlines_so ss all in
    let w : all_uses (layout_outlines ss) ≡ map bare_use (all_uses (outlines 0 (records_of ss))) =
    ap (λ (x : List Outline). all_uses x) (sym q) ∙ all_bare (outlines 0 (records_of ss)) in
    ap (λ (x : List Use). top_in (tops 0 x (layout_outlines ss))) w
    ∙ ap (λ (x : List Outline). top_in (tops 0 (map bare_use (all_uses (outlines 0 (records_of ss)))) x)) (sym q)
    ∙ top_same _ _ (tops_bare 0 (all_uses (outlines 0 (records_of ss))) (outlines 0 (records_of ss)))
