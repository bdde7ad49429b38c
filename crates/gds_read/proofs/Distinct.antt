-- The names of the structures of a sentence all differ, so each structure is the first of its name.
use Rattle.std.proofs.Common.{◌≡◌, ℕ, zero, suc, ◌+◌, ◌<◌, List, [], ◌∷◌, ◌++◌, map, length, Bool, true, false, eqb}
use Rattle.std.proofs.Common.{◌&&◌, ◌||◌, None, refl, sym, ap, subst, ◌∙◌, append_assoc, arith}
use Rattle.std.specs.Prelude.{not, slice_index_or}
use Rattle.std.proofs.lemmas.List.{append-nil, length-append}
use Rattle.std.proofs.lemmas.Bool.{eqb-true, or_parts}
use Rattle.gds_records.proofs.Tree.{same_refl}
use Rattle.gds_records.specs.declared.fault.StreamKind.TheVariants.{Value}
use Rattle.gds_records.specs.Language.{Language, One, Then, Many, Speaks, Repeats, none, more}
use Rattle.gds_records.specs.Records.{Record, kinds, trimmed, same}
use Rattle.gds_records.specs.Grammar.{structure_of_each, in_turn, library_front, wide_stream, wide_element}
use Rattle.gds_records.specs.Drawing.{starts, field, place_of, name_of}
use Rattle.gds_records.specs.Values.{is_structure_name, is_name, rule}
use Rattle.gds_records.specs.WideValues.{wide_opener, last_colrow, wide_fault_in}
use Rattle.gds_records.specs.Steps.{is_listed}
use Rattle.gds_records.specs.Profiles.{wide}
use Rattle.gds_records.specs.Profiled.{AreGoodIn}
use Rattle.gds_records.proofs.Sentences.{has_kind, mentions, lacks}

-- ---- the names that STRNAME records give, none of which stands before

abbrev pub strnames : List Record → List (List ℕ)
strnames [] = []
strnames (r ∷ rs) = elim (eqb r.kind 6) [ true ↦ trimmed r.content ∷ strnames rs | false ↦ strnames rs ]

-- each name differs from these and from those before it
abbrev pub Fresh : List (List ℕ) → List (List ℕ) → Type 0
Fresh seen [] = Unit {0}
Fresh seen (n ∷ ns) = (is_listed n seen ≡ false) × Fresh (seen ++ n ∷ []) ns

strnames_append : (a b : List Record) → strnames (a ++ b) ≡ strnames a ++ strnames b
strnames_append [] b = refl
strnames_append (r ∷ a) b = turn (eqb r.kind 6) (strnames_append a b)
  where
    turn : (z : Bool) → strnames (a ++ b) ≡ strnames a ++ strnames b
        → (elim z as (λ (t : Bool). List (List ℕ)) [
          | true ↦ trimmed r.content ∷ strnames (a ++ b)
          | false ↦ strnames (a ++ b)
        ])
        ≡ (elim z as (λ (t : Bool). List (List ℕ)) [ true ↦ trimmed r.content ∷ strnames a | false ↦ strnames a ])
        ++ strnames b
    turn true e = ap (λ (x : List (List ℕ)). trimmed r.content ∷ x) e
    turn false e = e

taken_listed : (t : List ℕ) (before : List Record) → is_structure_name t before ≡ is_listed t (strnames before)
taken_listed t [] = refl
taken_listed t (r ∷ rs) = turn (eqb r.kind 6) (taken_listed t rs)
  where
    turn : (z : Bool) → is_structure_name t rs ≡ is_listed t (strnames rs)
        → ((z && same t (trimmed r.content)) || is_structure_name t rs)
        ≡ is_listed t
        (elim z as (λ (x : Bool). List (List ℕ)) [ true ↦ trimmed r.content ∷ strnames rs | false ↦ strnames rs ])
    turn true e = ap (λ (b : Bool). same t (trimmed r.content) || b) e
    turn false e = e

name_free : (named taken : Bool) → rule true (named && not taken) Value None ≡ None → taken ≡ false
name_free true true h = absurd cc
name_free true false h = refl
name_free false taken h = absurd cc

named_free : (element : ℕ) (colrow : List ℕ) (taken : Bool) (r : Record) → r.kind ≡ 6
    → wide_fault_in element colrow taken r ≡ None → taken ≡ false
named_free element colrow taken r e v =
    name_free (is_name r.content) taken
    (sym (ap (λ (x : Record). wide_fault_in element colrow taken x) (λ i. record r { kind = e i })) ∙ v)

good_fresh : (before rs : List Record) → AreGoodIn wide before rs → Fresh (strnames before) (strnames rs)
good_fresh before [] g = tt
good_fresh before (r ∷ rs) g = turn (eqb r.kind 6) refl (good_fresh (before ++ r ∷ []) rs g.1)
  where
    given : (z : Bool) → eqb r.kind 6 ≡ z → strnames (before ++ r ∷ []) ≡ strnames before
        ++ (elim z as (λ (x : Bool). List (List ℕ)) [ true ↦ trimmed r.content ∷ [] | false ↦ [] ])
    given z e =
        strnames_append before (r ∷ [])
        ∙ ap
        (λ (y : Bool). strnames before
        ++ (elim y as (λ (x : Bool). List (List ℕ)) [ true ↦ trimmed r.content ∷ [] | false ↦ [] ])) e

    turn : (z : Bool) → eqb r.kind 6 ≡ z → Fresh (strnames (before ++ r ∷ [])) (strnames rs)
        → Fresh (strnames before)
        (elim z as (λ (x : Bool). List (List ℕ)) [ true ↦ trimmed r.content ∷ strnames rs | false ↦ strnames rs ])
    turn true e f = (
      sym (taken_listed (trimmed r.content) before)
          ∙ named_free (wide_opener 0 before) (last_colrow [] before) (is_structure_name (trimmed r.content) before) r
          (eqb-true r.kind 6 e) g.0.value,
      subst (λ (s : List (List ℕ)). Fresh s (strnames rs)) (given true e) f,
    )
    turn false e f = subst (λ (s : List (List ℕ)). Fresh s (strnames rs))
        (given false e ∙ append-nil (strnames before)) f

-- ---- each BGNSTR has its STRNAME directly behind it, and no other stands anywhere

abbrev paired : List ℕ → Bool → Bool
paired [] begun = not begun
paired (k ∷ ks) false = elim (eqb k 5) [ true ↦ paired ks true | false ↦ not (eqb k 6) && paired ks false ]
paired (k ∷ ks) true = eqb k 6 && paired ks false

-- the words of a language leave pairs as they are
record Passes (l : Language) : Type 0 where
  each : (w v : List ℕ) → Speaks l w → paired (w ++ v) false ≡ paired v false

lacking : (w v : List ℕ) → has_kind 5 w ≡ false → has_kind 6 w ≡ false → paired (w ++ v) false ≡ paired v false
lacking [] v e f = refl
lacking (k ∷ w) v e f =
    let p = or_parts (eqb k 5) (has_kind 5 w) e in
    let q = or_parts (eqb k 6) (has_kind 6 w) f in
    turn (eqb k 5) (eqb k 6) p.0 q.0 (lacking w v p.1 q.1)
  where
    turn : (a b : Bool) → a ≡ false → b ≡ false → paired (w ++ v) false ≡ paired v false
        → (elim a as (λ (x : Bool). Bool) [
          | true ↦ paired (w ++ v) true
          | false ↦ not b && paired (w ++ v) false
        ]) ≡ paired v false
    turn true b g h r = absurd cc
    turn false true g h r = absurd cc
    turn false false g h r = r

plain : (l : Language) → mentions 5 l ≡ false → mentions 6 l ≡ false → Passes l
plain l e f = record { each = λ w v h. lacking w v (lacks 5 l w e h) (lacks 6 l w f h) }

behind : (a b : Language) → Passes a → Passes b → Passes (Then a b)
behind a b p q = record {
  each = λ w v h. ap (λ (x : List ℕ). paired (x ++ v) false) h.2
      ∙ ap (λ (x : List ℕ). paired x false) (append_assoc h.0 h.1 v) ∙ p.each h.0 (h.1 ++ v) h.3 ∙ q.each h.1 v h.4;
}

repeated : (a : Language) → Passes a → (w v : List ℕ) → Repeats (Speaks a) w → paired (w ++ v) false ≡ paired v false
repeated a p w v (none w' e) = ap (λ (x : List ℕ). paired (x ++ v) false) e
repeated a p w v (more w' front rest e h r) =
    ap (λ (x : List ℕ). paired (x ++ v) false) e ∙ ap (λ (x : List ℕ). paired x false) (append_assoc front rest v)
    ∙ p.each front (rest ++ v) h ∙ repeated a p rest v r

many : (a : Language) → Passes a → Passes (Many a)
many a p = record { each = repeated a p }

-- one structure
structure : (each : Language) → mentions 5 each ≡ false → mentions 6 each ≡ false → Passes (structure_of_each each)
structure each e f = record {
  each = λ w v h.
      let inner : Language = Then (Many each) (One 7) in
      let rest = h.4 in
      ap (λ (x : List ℕ). paired (x ++ v) false) (h.2 ∙ (λ i. h.3 i ++ rest.2 i) ∙ (λ i. 5 ∷ (rest.3 i ++ rest.1)))
      ∙ lacking rest.1 v (lacks 5 inner rest.1 (ap (λ (b : Bool). b || false) e) rest.4)
      (lacks 6 inner rest.1 (ap (λ (b : Bool). b || false) f) rest.4);
}

abbrev all_plain : List Language → Bool
all_plain [] = true
all_plain (a ∷ others) = not (mentions 5 a || mentions 6 a) && all_plain others

plain_parts : (x y z : Bool) → (not (x || y) && z) ≡ true → (x ≡ false) × (y ≡ false) × (z ≡ true)
plain_parts false false z e = (refl, refl, e)
plain_parts false true z e = absurd cc
plain_parts true y z e = absurd cc

-- behind languages in turn that have neither record
skip_all : (before : List Language) (b : Language) → all_plain before ≡ true → Passes b → Passes (in_turn before b)
skip_all [] b e q = q
skip_all (a ∷ before) b e q =
    let p = plain_parts (mentions 5 a) (mentions 6 a) (all_plain before) e in
    behind a (in_turn before b) (plain a p.0 p.1) (skip_all before b p.2 q)

stream_passes : Passes wide_stream
stream_passes =
    skip_all library_front (Then (Many (structure_of_each wide_element)) (One 4)) refl
    (behind (Many (structure_of_each wide_element)) (One 4)
    (many (structure_of_each wide_element) (structure wide_element refl refl)) (plain (One 4) refl refl))

all_paired : (rs : List Record) → Speaks wide_stream (kinds rs) → paired (kinds rs) false ≡ true
all_paired rs h = ap (λ (x : List ℕ). paired x false) (sym (append-nil (kinds rs))) ∙ stream_passes.each (kinds rs) [] h

five_or_six : (k : ℕ) → eqb k 5 ≡ true → eqb k 6 ≡ true → ⊥
five_or_six k e f =
    let p : k ≡ 5 = eqb-true k 5 e in
    let q : k ≡ 6 = eqb-true k 6 f in
    omega (arith, p, q)

-- the names of structures, and before them that of one whose BGNSTR was just read
abbrev named_from : List Record → Bool → List (List ℕ)
named_from rs false = map name_of (starts rs)
named_from rs true = name_of rs ∷ map name_of (starts rs)

named_each : (rs : List Record) (begun : Bool) → paired (kinds rs) begun ≡ true → named_from rs begun ≡ strnames rs
named_each [] false e = refl
named_each [] true e = absurd cc
named_each (r ∷ rs) false e = turn (eqb r.kind 5) (eqb r.kind 6) refl refl e (named_each rs true) (named_each rs false)
  where
    turn : (b n : Bool) → eqb r.kind 5 ≡ b → eqb r.kind 6 ≡ n
        → (elim b as (λ (x : Bool). Bool) [
          | true ↦ paired (kinds rs) true
          | false ↦ not n && paired (kinds rs) false
        ]) ≡ true
        → (paired (kinds rs) true ≡ true → name_of rs ∷ map name_of (starts rs) ≡ strnames rs)
        → (paired (kinds rs) false ≡ true → map name_of (starts rs) ≡ strnames rs)
        → map name_of (elim b as (λ (x : Bool). List (List Record)) [ true ↦ rs ∷ starts rs | false ↦ starts rs ])
        ≡ (elim n as (λ (x : Bool). List (List ℕ)) [ true ↦ trimmed r.content ∷ strnames rs | false ↦ strnames rs ])
    turn true true f g h p q = absurd (five_or_six r.kind f g)
    turn true false f g h p q = p h
    turn false true f g h p q = absurd cc
    turn false false f g h p q = q h
named_each (r ∷ rs) true e = turn (eqb r.kind 5) (eqb r.kind 6) refl refl e (named_each rs false)
  where
    turn : (b n : Bool) → eqb r.kind 5 ≡ b → eqb r.kind 6 ≡ n → (n && paired (kinds rs) false) ≡ true
        → (paired (kinds rs) false ≡ true → map name_of (starts rs) ≡ strnames rs)
        → trimmed (elim n as (λ (x : Bool). List ℕ) [ true ↦ r.content | false ↦ field 6 rs ])
        ∷ map name_of (elim b as (λ (x : Bool). List (List Record)) [ true ↦ rs ∷ starts rs | false ↦ starts rs ])
        ≡ (elim n as (λ (x : Bool). List (List ℕ)) [ true ↦ trimmed r.content ∷ strnames rs | false ↦ strnames rs ])
    turn true true f g h q = absurd (five_or_six r.kind f g)
    turn false true f g h q = ap (λ (x : List (List ℕ)). trimmed r.content ∷ x) (q h)
    turn true false f g h q = absurd cc
    turn false false f g h q = absurd cc

pub fresh_names : (rs : List Record) → Speaks wide_stream (kinds rs) → AreGoodIn wide [] rs
    → Fresh [] (map name_of (starts rs))
fresh_names rs h good = subst (λ (ns : List (List ℕ)). Fresh [] ns) (sym (named_each rs false (all_paired rs h)))
    (good_fresh [] rs good)

-- ---- the places of names that differ

place_behind : (n : List ℕ) (seen ns : List (List ℕ)) → is_listed n seen ≡ false
    → place_of n (seen ++ ns) ≡ length seen + place_of n ns
place_behind n [] ns e = omega arith
place_behind n (s ∷ seen) ns e = turn (same n s) e (place_behind n seen ns)
  where
    turn : (z : Bool) → (z || is_listed n seen) ≡ false
        → (is_listed n seen ≡ false → place_of n (seen ++ ns) ≡ length seen + place_of n ns)
        → (elim z as (λ (x : Bool). ℕ) [ true ↦ 0 | false ↦ suc (place_of n (seen ++ ns)) ]) ≡ suc
        (length seen) + place_of n ns
    turn true f g = absurd cc
    turn false f g = let q : place_of n (seen ++ ns) ≡ length seen + place_of n ns = g f in omega (arith, q)

place_first : (n : List ℕ) (ns : List (List ℕ)) → place_of n (n ∷ ns) ≡ 0
place_first n ns = ap (λ (z : Bool). elim z as (λ (x : Bool). ℕ) [ true ↦ 0 | false ↦ suc (place_of n ns) ])
    (same_refl n)

pub each_first : (seen ns : List (List ℕ)) → Fresh seen ns → (k : ℕ) → k < length ns
    → place_of (slice_index_or ns k []) (seen ++ ns) ≡ length seen + k
each_first seen [] f k h = absurd (omega arith)
each_first seen (n ∷ ns) f zero h =
    let here = place_behind n seen (n ∷ ns) f.0 in
    let first = place_first n ns in
    omega (arith, here, first)
each_first seen (n ∷ ns) f (suc k) h =
    let size : length (seen ++ n ∷ []) ≡ length seen + length (n ∷ []) = length-append seen (n ∷ []) in
    let next : place_of (slice_index_or ns k []) ((seen ++ n ∷ []) ++ ns) ≡ length (seen ++ n ∷ []) + k =
    each_first (seen ++ n ∷ []) ns f.1 k (omega (arith, h)) in
    ap (λ (x : List (List ℕ)). place_of (slice_index_or ns k []) x) (sym (append_assoc seen (n ∷ []) ns)) ∙ next
    ∙ omega (arith, size)
