-- The records that are written are good.
use Rattle.std.proofs.Common.{◌≡◌, ℕ, zero, suc, ◌+◌, ◌%◌, ◌^◌, ◌<◌, ◌≤◌, List, [], ◌∷◌, ◌++◌, length, Bool, true}
use Rattle.std.proofs.Common.{false, cond, eqb, ◌&&◌, ◌||◌, None, refl, sym, ap, subst, ◌∙◌, append_assoc, arith, inl}
use Rattle.std.proofs.Common.{inr, ◌⊎◌}
use Rattle.std.specs.Prelude.{slice_index_or, ℤ, not}
use Rattle.std.specs.List.{flat_map, AllByRecursion}
use Rattle.std.proofs.lemmas.List.{append-nil, length-append}
use Rattle.std.proofs.lemmas.List.Concat.{flat_map-cons}
use Rattle.std.proofs.lemmas.Bool.{eqb-true}
use Rattle.std.proofs.lemmas.Bool.Decides.{nat_tests}
use Rattle.geom.specs.Rectangle.{Rectangle}
use Rattle.geom.specs.declared.layout.Element.{Element}
use Rattle.geom.specs.declared.layout.Element.TheVariants.{Box, Place, Text}
use Rattle.geom.specs.declared.layout.Structure.{Structure}
use Rattle.gds_records.specs.declared.fault.StreamKind.TheVariants.{Value, NotRectangle}
use Rattle.gds_records.specs.Records.{Record, record_with, trimmed, same}
use Rattle.gds_records.specs.Drawing.{place_of}
use Rattle.gds_records.specs.Values.{opener, is_structure_name, holds_zero, is_text, is_name, is_rectangle, rule}
use Rattle.gds_records.specs.Stream.{IsGood, AreGood}
use Rattle.geom.specs.Writable.{names_in}
use Rattle.gds_records.specs.Writing.{two_bytes, padded, point, corners, element_records, dates, structure_records}
use Rattle.gds_records.specs.Writing.{units, records_of}
use Rattle.gds_records.proofs.Premises.{IsText, IsShort, IsBox, IsWritableElement, IsWritableStructure}
use Rattle.gds_records.proofs.WrittenRead.{trimmed-padded, names_back, corners_so}

good_append : (a b c : List Record) → AreGood a b → AreGood (a ++ b) c → AreGood a (b ++ c)
good_append a [] c p q = subst (λ (x : List Record). AreGood x c) (append-nil a) q
good_append a (r ∷ b) c p q = (
  p.0,
  good_append (a ++ r ∷ []) b c p.1
      (subst (λ (x : List Record). AreGood x c) (sym (append_assoc a (r ∷ []) b)) q),
)

-- ---- texts

cond_length : (n : ℕ) (b : Bool) → eqb (n % 2) 0 ≡ b → (4 + (n + length {A = ℕ} (cond b [] (0 ∷ [])))) % 2 ≡ 0
cond_length n true e = let q : n % 2 ≡ 0 = eqb-true (n % 2) 0 e in omega arith
cond_length n false e = let q : n % 2 ≡ 0 → ⊥ = λ z. (let r : eqb (n % 2) 0 ≡ true = ap (λ (x : ℕ). eqb x 0) z in cc) in
    let l : n % 2 < 2 = omega arith in omega arith

padded_even : (t : List ℕ) → (4 + length (padded t)) % 2 ≡ 0
padded_even t = ap (λ (n : ℕ). (4 + n) % 2) (length-append t (cond (eqb (length t % 2) 0) [] (0 ∷ [])))
    ∙ cond_length (length t) (eqb (length t % 2) 0) refl

cond_short : (b : Bool) → length {A = ℕ} (cond b [] (0 ∷ [])) ≤ 1
cond_short true = omega arith
cond_short false = omega arith

padded_short : (t : List ℕ) → IsShort t → 4 + length (padded t) < 2 ^ 16
padded_short t h = omega (
  arith,
  length-append t (cond (eqb (length t % 2) 0) [] (0 ∷ [])),
  cond_short
      (eqb (length t % 2) 0),
)

pub eqb_suc : (n : ℕ) → eqb (suc n) 0 ≡ false
eqb_suc n = grind (arith, nat_tests)

no_zero : (t : List ℕ) → IsText t → holds_zero t ≡ false
no_zero [] all = refl
no_zero (zero ∷ t) all = absurd (omega (arith, all.0))
no_zero (suc b ∷ t) all = ap (λ (x : Bool). x || holds_zero t) (eqb_suc b) ∙ no_zero t all.1

text_so : (t : List ℕ) → IsText t → is_text (padded t) ≡ true
text_so t all = ap (λ (x : List ℕ). not (holds_zero x)) (trimmed-padded t all)
    ∙ ap (λ (x : Bool). not x) (no_zero t all)

both : (a b : Bool) → a ≡ true → b ≡ true → (a && b) ≡ true
both a b p q = rw (p, q) refl

some_length : (t : List ℕ) → 0 < length t → not (eqb (length t) 0) ≡ true
some_length [] h = absurd (omega arith)
some_length (x ∷ t) h = ap (λ (x : Bool). not x) (eqb_suc (length t))

name_so : (t : List ℕ) → IsText t → 0 < length t → is_name (padded t) ≡ true
name_so t all h = both (not (eqb (length (trimmed (padded t))) 0)) (is_text (padded t))
    (ap (λ (x : List ℕ). not (eqb (length x) 0)) (trimmed-padded t all) ∙ some_length t h) (text_so t all)

pass : (b : Bool) → b ≡ true → rule true b Value None ≡ None
pass b e = rw e refl

eqb_of : (n : ℕ) → n ≡ 0 → eqb n 0 ≡ true
eqb_of n e = ap (λ (x : ℕ). eqb x 0) e

text_good : (before : List Record) (t : List ℕ) → IsText t → IsShort t → IsGood before (record_with 0x19 6 (padded t))
text_good before t all h = record {
  short = padded_short t h;
  even = padded_even t;
  is_known = refl;
  form = refl;
  long = eqb_of _ (padded_even t);
  value = pass (is_text (padded t)) (text_so t all);
}

sname_good : (before : List Record) (t : List ℕ) → IsText t → IsShort t → 0 < length t
    → IsGood before (record_with 0x12 6 (padded t))
sname_good before t all h some = record {
  short = padded_short t h;
  even = padded_even t;
  is_known = refl;
  form = refl;
  long = eqb_of _ (padded_even t);
  value = pass (is_name (padded t)) (name_so t all some);
}

name_good : (before : List Record) (t : List ℕ) → IsText t → IsShort t → 0 < length t
    → is_structure_name t before ≡ false → IsGood before (record_with 0x06 6 (padded t))
name_good before t all h some fresh = record {
  short = padded_short t h;
  even = padded_even t;
  is_known = refl;
  form = refl;
  long = eqb_of _ (padded_even t);
  value = pass (is_name (padded t) && not (is_structure_name (trimmed (padded t)) before))
      (both (is_name (padded t)) (not (is_structure_name (trimmed (padded t)) before)) (name_so t all some)
      (ap (λ (x : List ℕ). not (is_structure_name x before)) (trimmed-padded t all)
      ∙ ap (λ (x : Bool). not x) fresh));
}

-- ---- points

pub opener_last : (l : ℕ) (a : List Record) (r : Record) → opener l (a ++ r ∷ []) ≡ opener (opener l a) (r ∷ [])
opener_last l [] r = refl
opener_last l (x ∷ a) r = by_kind (opener_last x.kind a r) (opener_last l a r)
    (eqb x.kind 0x08 || eqb x.kind 0x0A || eqb x.kind 0x0C)
  where
    by_kind : opener x.kind (a ++ r ∷ []) ≡ opener (opener x.kind a) (r ∷ [])
        → opener l (a ++ r ∷ []) ≡ opener (opener l a) (r ∷ []) → (t : Bool)
        → (elim t as (λ (y : Bool). ℕ) [ true ↦ opener x.kind (a ++ r ∷ []) | false ↦ opener l (a ++ r ∷ []) ]) ≡ opener
        (elim t as (λ (y : Bool). ℕ) [ true ↦ opener x.kind a | false ↦ opener l a ]) (r ∷ [])
    by_kind p q true = p
    by_kind p q false = q

choose : (t b h : Bool) → (t ≡ true) × (b ≡ true) ⊎ (t ≡ false) × (h ≡ true)
    → rule t b NotRectangle (rule true h Value None) ≡ None
choose t b h (inl p) = rw (p.0, p.1) refl
choose t b h (inr p) = rw (p.0, p.1) refl

corners_good : (before : List Record) (r : Rectangle) → opener 0 before ≡ 8 → IsBox r
    → IsGood before (record_with 0x10 3 (corners r))
corners_good before r o is = record {
  short = omega arith;
  even = refl;
  is_known = refl;
  form = refl;
  long = refl;
  value = choose (eqb (opener 0 before) 8) (is_rectangle (corners r)) false
      (inl (ap (λ (x : ℕ). eqb x 8) o, corners_so r is));
}

point_good : (before : List Record) (x y : ℤ) → eqb (opener 0 before) 8 ≡ false
    → IsGood before (record_with 0x10 3 (point x y))
point_good before x y o = record {
  short = omega arith;
  even = refl;
  is_known = refl;
  form = refl;
  long = refl;
  value = choose (eqb (opener 0 before) 8) (is_rectangle (point x y)) true (inr (o, refl));
}

-- ---- elements

pub record AreNames (names : List (List ℕ)) : Type 0 where
  pub texts : AllByRecursion IsText names
  pub short : AllByRecursion IsShort names
  pub some : AllByRecursion (λ (t : List ℕ). 0 < length t) names

any_short : (names : List (List ℕ)) → AllByRecursion IsShort names → (n : ℕ) → IsShort (slice_index_or names n [])
any_short [] all n = omega arith
any_short (t ∷ names) all zero = all.0
any_short (t ∷ names) all (suc n) = any_short names all.1 n

any_some : (names : List (List ℕ)) → AllByRecursion (λ (t : List ℕ). 0 < length t) names → (n : ℕ) → n < length names
    → 0 < length (slice_index_or names n [])
any_some [] all n h = absurd (omega arith)
any_some (t ∷ names) all zero h = all.0
any_some (t ∷ names) all (suc n) h = any_some names all.1 n (omega arith)

two_good : (before : List Record) (n : ℕ) → IsGood before (record_with 0x0D 2 (two_bytes n))
two_good before n = record { short = omega arith; even = refl; is_known = refl; form = refl; long = refl; value = refl }

datatype_good : (before : List Record) (n : ℕ) → IsGood before (record_with 0x0E 2 (two_bytes n))
datatype_good before n = record {
  short = omega arith;
  even = refl;
  is_known = refl;
  form = refl;
  long = refl;
  value = refl;
}

type_good : (before : List Record) → IsGood before (record_with 0x16 2 (two_bytes 0))
type_good before = record { short = omega arith; even = refl; is_known = refl; form = refl; long = refl; value = refl }

end_good : (before : List Record) → IsGood before (record_with 0x11 0 [])
end_good before = record { short = omega arith; even = refl; is_known = refl; form = refl; long = refl; value = refl }

element_good : (names : List (List ℕ)) → AreNames names → (before : List Record) (e : Element)
    → IsWritableElement names e → AreGood before (element_records names e)
element_good names are before (Box s) is =
    let a = record_with 0x08 0 [] in let b = record_with 0x0D 2 (two_bytes s.layer) in
    let c = record_with 0x0E 2 (two_bytes s.datatype) in
    let o : opener 0 (((before ++ a ∷ []) ++ b ∷ []) ++ c ∷ []) ≡ 8 = opener_last 0 ((before ++ a ∷ []) ++ b ∷ []) c
    ∙ opener_last 0 (before ++ a ∷ []) b ∙ opener_last 0 before a in (
      record { short = omega arith; even = refl; is_known = refl; form = refl; long = refl; value = refl },
      (two_good _ s.layer, (datatype_good _ s.datatype, (corners_good _ s.rect o is.2, (end_good _, tt)))),
    )
element_good names are before (Place n x y) is =
    let a = record_with 0x0A 0 [] in let b = record_with 0x12 6 (padded (slice_index_or names n [])) in
    let o : opener 0 ((before ++ a ∷ []) ++ b ∷ []) ≡ 10 = opener_last 0 (before ++ a ∷ []) b
    ∙ opener_last 0 before a in (
      record { short = omega arith; even = refl; is_known = refl; form = refl; long = refl; value = refl },
      (
        sname_good _ (slice_index_or names n []) (names_back names are.texts n) (any_short names are.short n)
            (any_some names are.some n is.0),
        (point_good _ x y (ap (λ (z : ℕ). eqb z 8) o), (end_good _, tt)),
      ),
    )
element_good names are before (Text l) is =
    let a = record_with 0x0C 0 [] in let b = record_with 0x0D 2 (two_bytes l.layer) in
    let c = record_with 0x16 2 (two_bytes 0) in
    let o : opener 0 (((before ++ a ∷ []) ++ b ∷ []) ++ c ∷ []) ≡ 12 = opener_last 0 ((before ++ a ∷ []) ++ b ∷ []) c
    ∙ opener_last 0 (before ++ a ∷ []) b ∙ opener_last 0 before a in (
      record { short = omega arith; even = refl; is_known = refl; form = refl; long = refl; value = refl },
      (
        two_good _
            l.layer,
        (
          type_good
              _,
          (point_good _ l.x l.y (ap (λ (z : ℕ). eqb z 8) o), (text_good _ l.text is.3 is.4, (end_good _, tt))),
        ),
      ),
    )

pub elements_good : (names : List (List ℕ)) → AreNames names → (before : List Record) (es : List Element)
    → AllByRecursion (IsWritableElement names) es → AreGood before (flat_map (element_records names) es)
elements_good names are before [] all = tt
elements_good names are before (e ∷ es) all =
    subst (λ (x : List Record). AreGood before x) (sym (flat_map-cons (element_records names) e es))
    (good_append before (element_records names e) (flat_map (element_records names) es)
    (element_good names are before e all.0) (elements_good names are (before ++ element_records names e) es all.1))

-- ---- structures

false_or : (x y : Bool) → x ≡ false → y ≡ false → (x || y) ≡ false
false_or true y e f = absurd cc
false_or false y e f = f

or_parts : (x y : Bool) → (x || y) ≡ false → (x ≡ false) × (y ≡ false)
or_parts true y e = absurd cc
or_parts false y e = (refl, e)

name_append : (t : List ℕ) (a b : List Record) → is_structure_name t a ≡ false → is_structure_name t b ≡ false
    → is_structure_name t (a ++ b) ≡ false
name_append t [] b p q = q
name_append t (x ∷ a) b p q =
    let r = or_parts (eqb x.kind 0x06 && same t (trimmed x.content)) (is_structure_name t a) p in
    false_or (eqb x.kind 0x06 && same t (trimmed x.content)) (is_structure_name t (a ++ b)) r.0
    (name_append t a b r.1 q)

no_name : (t : List ℕ) (names : List (List ℕ)) (e : Element) → is_structure_name t (element_records names e) ≡ false
no_name t names (Box s) = refl
no_name t names (Place n x y) = refl
no_name t names (Text l) = refl

no_names : (t : List ℕ) (names : List (List ℕ)) (es : List Element)
    → is_structure_name t (flat_map (element_records names) es) ≡ false
no_names t names [] = refl
no_names t names (e ∷ es) = ap (λ (x : List Record). is_structure_name t x) (flat_map-cons (element_records names) e es)
    ∙ name_append t (element_records names e) (flat_map (element_records names) es) (no_name t names e)
    (no_names t names es)

one_name : (t : List ℕ) (names : List (List ℕ)) (s : Structure) → IsText s.name → same t s.name ≡ false
    → is_structure_name t (structure_records names s) ≡ false
one_name t names s all e =
    false_or (same t (trimmed (padded s.name)))
    (is_structure_name t (flat_map (element_records names) s.elements ++ record_with 0x07 0 [] ∷ []))
    (ap (λ (x : List ℕ). same t x) (trimmed-padded s.name all) ∙ e)
    (name_append t (flat_map (element_records names) s.elements) (record_with 0x07 0 [] ∷ [])
    (no_names t names s.elements) refl)

structure_good : (names : List (List ℕ)) → AreNames names → (before : List Record) (s : Structure)
    → IsWritableStructure names s → is_structure_name s.name before ≡ false → AreGood before (structure_records names s)
structure_good names are before s is fresh =
    let a = record_with 0x05 2 (dates) in let b = record_with 0x06 6 (padded s.name) in (
      record { short = omega arith; even = refl; is_known = refl; form = refl; long = refl; value = refl },
      (
        name_good (before ++ a ∷ []) s.name is.0 is.2 is.3 (name_append s.name before (a ∷ []) fresh refl),
        good_append ((before ++ a ∷ []) ++ b ∷ []) (flat_map (element_records names) s.elements)
            (record_with 0x07 0 [] ∷ [])
            (elements_good names are ((before ++ a ∷ []) ++ b ∷ []) s.elements is.1)
            (record { short = omega arith; even = refl; is_known = refl; form = refl; long = refl; value = refl }, tt),
      ),
    )

abbrev pub Distinct : List (List ℕ) → Type 0
Distinct [] = Unit {0}
Distinct (x ∷ xs) = ((n : ℕ) → n < length xs → same (slice_index_or xs n []) x ≡ false) × Distinct xs

structures_good : (names : List (List ℕ)) → AreNames names → (before : List Record) (ss : List Structure)
    → AllByRecursion (IsWritableStructure names) ss → Distinct (names_in ss)
    → ((n : ℕ) → n < length (names_in ss) → is_structure_name (slice_index_or (names_in ss) n []) before ≡ false)
    → AreGood before (flat_map (structure_records names) ss)
structures_good names are before [] all d fresh = tt
structures_good names are before (s ∷ ss) all d fresh =
    subst (λ (x : List Record). AreGood before x) (sym (flat_map-cons (structure_records names) s ss))
    (good_append before (structure_records names s) (flat_map (structure_records names) ss)
    (structure_good names are before s all.0 (fresh 0 (omega arith)))
    (structures_good names are (before ++ structure_records names s) ss all.1 d.1
    (λ n h. name_append (slice_index_or (names_in ss) n []) before (structure_records names s)
    (fresh (suc n) (omega arith)) (one_name (slice_index_or (names_in ss) n []) names s all.0.0 (d.0 n h)))))

header : List Record
header = record_with 0x00 2 (two_bytes 600) ∷ record_with 0x01 2 (dates) ∷ record_with 0x02 6 (65 ∷ 81 ∷ 70 ∷ 80 ∷ [])
    ∷ record_with 0x03 5 units ∷ []

header_good : AreGood [] (record_with 0x00 2 (two_bytes 600) ∷ record_with 0x01 2 (dates)
    ∷ record_with 0x02 6 (65 ∷ 81 ∷ 70 ∷ 80 ∷ []) ∷ record_with 0x03 5 units ∷ [])
header_good = (
  record { short = omega arith; even = refl; is_known = refl; form = refl; long = refl; value = refl },
  (
    record { short = omega arith; even = refl; is_known = refl; form = refl; long = refl; value = refl },
    (
      record { short = omega arith; even = refl; is_known = refl; form = refl; long = refl; value = refl },
      (record { short = omega arith; even = refl; is_known = refl; form = refl; long = refl; value = refl }, tt),
    ),
  ),
)

not_first : (x y : List ℕ) (ys : List (List ℕ)) (m : ℕ) (t : Bool) → same x y ≡ t
    → (elim t as (λ (b : Bool). ℕ) [ true ↦ 0 | false ↦ suc (place_of x ys) ]) ≡ suc m
    → (t ≡ false) × (place_of x ys ≡ m)
not_first x y ys m true e h = absurd cc
not_first x y ys m false e h = (refl, cc)

pub distinct_so : (names : List (List ℕ))
    → ((n : ℕ) → n < length names → place_of (slice_index_or names n []) names ≡ n) → Distinct names
distinct_so [] h = tt
distinct_so (x ∷ xs) h = (
  λ n l. (not_first (slice_index_or xs n []) x xs n (same (slice_index_or xs n []) x) refl (h (suc n) (omega arith))).0,
  distinct_so xs
      (λ n l. (not_first (slice_index_or xs n []) x xs n (same (slice_index_or xs n []) x) refl
      (h (suc n) (omega arith))).1),
)

names_are : (names : List (List ℕ)) (ss : List Structure) → AllByRecursion (IsWritableStructure names) ss
    → AreNames (names_in ss)
names_are names [] all = record { texts = tt; short = tt; some = tt }
names_are names (s ∷ ss) all = let r = names_are names ss all.1 in
    record { texts = (all.0.0, r.texts); short = (all.0.2, r.short); some = (all.0.3, r.some) }

pub written_good : (ss : List Structure) → AllByRecursion (IsWritableStructure (names_in ss)) ss
    → Distinct (names_in ss) → AreGood [] (records_of ss)
written_good ss all d =
    let h = record_with 0x00 2 (two_bytes 600) ∷ record_with 0x01 2 (dates)
    ∷ record_with 0x02 6 (65 ∷ 81 ∷ 70 ∷ 80 ∷ []) ∷ record_with 0x03 5 units ∷ [] in
    good_append [] h (flat_map (structure_records (names_in ss)) ss ++ record_with 0x04 0 [] ∷ []) header_good
    (good_append h (flat_map (structure_records (names_in ss)) ss) (record_with 0x04 0 [] ∷ [])
    (structures_good (names_in ss) (names_are (names_in ss) ss all) h ss all d (λ n l. refl))
    (record { short = omega arith; even = refl; is_known = refl; form = refl; long = refl; value = refl }, tt))
