-- Bytes and coordinates of records have their sizes, and in a strict stream what is referenced holds no reference.
use Rattle.std.proofs.Common.{◌≡◌, ℕ, zero, suc, ◌+◌, ◌*◌, ◌<◌, List, [], ◌∷◌, ◌++◌, map, take, drop, length, Bool}
use Rattle.std.proofs.Common.{true, false, eqb, ◌&&◌, ◌||◌, Option, Some, None, FitsSigned, refl, sym, ap, subst, ◌∙◌}
use Rattle.std.proofs.Common.{arith}
use Rattle.std.specs.Prelude.{not}
use Rattle.std.specs.Int.{w32, from_be_bytes, cast_signed}
use Rattle.std.specs.List.{flat_map, AllByRecursion}
use Rattle.std.proofs.lemmas.List.Concat.{flat_map-cons}
use Rattle.std.proofs.lemmas.Int.{ints}
use Rattle.std.proofs.lemmas.Bool.{eqb-true, or_left, or_right}
use Rattle.std.proofs.lemmas.Bool.Decides.{nat_tests}
use Rattle.std.proofs.lemmas.List.{nil_from_length}
use Rattle.gds_records.proofs.Wider.{same_so}
use Rattle.geom.specs.declared.layout.Element.{Element}
use Rattle.geom.specs.declared.layout.Element.TheVariants.{Box, Place, Text}
use Rattle.geom.specs.FlatForm.{elements_at}
use Rattle.geom.specs.Writable.{refers_to, is_referenced, holds_reference}
use Rattle.gds_records.specs.Records.{Record, spelled, number, trimmed, same}
use Rattle.gds_records.specs.Drawing.{starts, up_to, parts, field, has, coordinate, box_of, place_of, element_of}
use Rattle.gds_records.specs.Drawing.{name_of, element_parts, structure_of, names_of, structures_of}
use Rattle.gds_records.specs.Whole.{Use, Outline, uses_from, outlines, is_defined, is_used, all_uses, unknown, deep}
use Rattle.gds_records.specs.Whole.{tops, top_fault, last_place, whole_fault}
use Rattle.gds_records.specs.Steps.{is_listed}
use Rattle.gds_records.specs.Scan.{IsBytes}
use Rattle.gds_read.proofs.Numbering.{defined_listed}
use Rattle.gds_read.proofs.Judged.{used_append}
use Rattle.gds_read.proofs.Ends.{parts_none, names_same}
use Rattle.gds_read.proofs.Shaped.{Covered, IsShaped, all_weaker}

-- ---- bytes in the data of records

bytes_back : (xs ys : List ℕ) → IsBytes (xs ++ ys) → IsBytes ys
bytes_back [] ys h = h
bytes_back (x ∷ xs) ys h = bytes_back xs ys (λ i. h (suc i))

pub bytes_front : (xs ys : List ℕ) → IsBytes (xs ++ ys) → IsBytes xs
bytes_front [] ys h i = omega arith
bytes_front (x ∷ xs) ys h zero = h 0
bytes_front (x ∷ xs) ys h (suc i) = bytes_front xs ys (λ j. h (suc j)) i

abbrev pub HasBytes : Record → Type 0
HasBytes r = IsBytes r.content

content_bytes : (r : Record) → IsBytes (spelled r) → HasBytes r
content_bytes r h = λ i. h (suc (suc (suc (suc i))))

pub all_bytes : (rs : List Record) → IsBytes (flat_map spelled rs) → AllByRecursion HasBytes rs
all_bytes [] h = tt
all_bytes (r ∷ rs) h =
    let w : IsBytes (spelled r ++ flat_map spelled rs) = subst (λ (x : List ℕ). IsBytes x)
    (flat_map-cons spelled r rs) h in (
      content_bytes r (bytes_front (spelled r) (flat_map spelled rs) w),
      all_bytes rs
          (bytes_back (spelled r) (flat_map spelled rs) w),
    )

pub field_bytes : (k : ℕ) (rs : List Record) → AllByRecursion HasBytes rs → IsBytes (field k rs)
field_bytes k [] all = λ i. omega arith
field_bytes k (r ∷ rs) all = turn (eqb r.kind k) (field_bytes k rs all.1)
  where
    turn : (z : Bool) → IsBytes (field k rs)
        → IsBytes (elim z as (λ (x : Bool). List ℕ) [ true ↦ r.content | false ↦ field k rs ])
    turn true h = all.0
    turn false h = h

pub starts_bytes : (rs : List Record) → AllByRecursion HasBytes rs
    → AllByRecursion (AllByRecursion HasBytes) (starts rs)
starts_bytes [] all = tt
starts_bytes (r ∷ rs) all = turn (eqb r.kind 5) (starts_bytes rs all.1)
  where
    turn : (z : Bool) → AllByRecursion (AllByRecursion HasBytes) (starts rs)
        → AllByRecursion (AllByRecursion HasBytes)
        (elim z as (λ (x : Bool). List (List Record)) [ true ↦ rs ∷ starts rs | false ↦ starts rs ])
    turn true h = (all.1, h)
    turn false h = h

up_to_bytes : (k : ℕ) (rs : List Record) → AllByRecursion HasBytes rs → AllByRecursion HasBytes (up_to k rs)
up_to_bytes k [] all = tt
up_to_bytes k (r ∷ rs) all = turn (eqb r.kind k) (up_to_bytes k rs all.1)
  where
    turn : (z : Bool) → AllByRecursion HasBytes (up_to k rs)
        → AllByRecursion HasBytes (elim z as (λ (x : Bool). List Record) [ true ↦ [] | false ↦ r ∷ up_to k rs ])
    turn true h = tt
    turn false h = (all.0, h)

all_more : (rs : List Record) (r : Record) → AllByRecursion HasBytes rs → HasBytes r
    → AllByRecursion HasBytes (rs ++ r ∷ [])
all_more [] r all h = (h, tt)
all_more (x ∷ rs) r all h = (all.0, all_more rs r all.1 h)

parts_bytes : (k : ℕ) (front rs : List Record) → AllByRecursion HasBytes front → AllByRecursion HasBytes rs
    → AllByRecursion (AllByRecursion HasBytes) (parts k front rs)
parts_bytes k front [] f all = tt
parts_bytes k front (r ∷ rs) f all = turn (eqb r.kind k) (all_more front r f all.0) (parts_bytes k [] rs tt all.1)
    (parts_bytes k (front ++ r ∷ []) rs (all_more front r f all.0) all.1)
  where
    turn : (z : Bool) → AllByRecursion HasBytes (front ++ r ∷ [])
        → AllByRecursion (AllByRecursion HasBytes) (parts k [] rs)
        → AllByRecursion (AllByRecursion HasBytes) (parts k (front ++ r ∷ []) rs)
        → AllByRecursion (AllByRecursion HasBytes)
        (elim z as (λ (x : Bool). List (List Record)) [
          | true ↦ (front ++ r ∷ []) ∷ parts k [] rs
          | false ↦ parts k (front ++ r ∷ []) rs
        ])
    turn true g h i = (g, h)
    turn false g h i = i

drop_bytes : (rs : List Record) → AllByRecursion HasBytes rs → AllByRecursion HasBytes (drop 1 rs)
drop_bytes [] all = tt
drop_bytes (r ∷ rs) all = all.1

pub element_bytes : (p : List Record) → AllByRecursion HasBytes p
    → AllByRecursion (AllByRecursion HasBytes) (element_parts p)
element_bytes p all = parts_bytes 17 [] (up_to 7 (drop 1 p)) tt (up_to_bytes 7 (drop 1 p) (drop_bytes p all))

-- ---- coordinates

pub four_low : (c : List ℕ) → IsBytes c → from_be_bytes w32 (take 4 c) < 4294967296
four_low [] f = omega arith
four_low (a ∷ []) f = omega (arith, f 0)
four_low (a ∷ b ∷ []) f = omega (arith, f 0, f 1)
four_low (a ∷ b ∷ d ∷ []) f = omega (arith, f 0, f 1, f 2)
four_low (a ∷ b ∷ d ∷ e ∷ c) f = omega (arith, f 0, f 1, f 2, f 3)

pub drop_is_bytes : (n : ℕ) (c : List ℕ) → IsBytes c → IsBytes (drop n c)
drop_is_bytes zero c f = f
drop_is_bytes (suc n) [] f = f
drop_is_bytes (suc n) (x ∷ c) f = drop_is_bytes n c (λ i. f (suc i))

pub signed_fits : (n : ℕ) → n < 4294967296 → FitsSigned w32 (cast_signed w32 n)
signed_fits n h = omega (arith, ints)

pub coordinate_fits : (xy : List ℕ) (i : ℕ) → IsBytes xy → FitsSigned w32 (coordinate xy i)
coordinate_fits xy i f = signed_fits (from_be_bytes w32 (take 4 (drop (4 * i) xy)))
    (four_low (drop (4 * i) xy) (drop_is_bytes (4 * i) xy f))

-- ---- elements

pub place_low : (t : List ℕ) (ns : List (List ℕ)) → is_listed t ns ≡ true → place_of t ns < length ns
place_low t [] e = absurd cc
place_low t (n ∷ ns) e = turn (same t n) (place_low t ns) e
  where
    turn : (z : Bool) → (is_listed t ns ≡ true → place_of t ns < length ns) → (z || is_listed t ns) ≡ true
        → (elim z as (λ (x : Bool). ℕ) [ true ↦ 0 | false ↦ suc (place_of t ns) ]) < suc (length ns)
    turn true f g = omega arith
    turn false f g = let h : place_of t ns < length ns = f g in omega arith

-- ---- names that are used

used_names : (t : List ℕ) (us : List Use) → is_used t us ≡ is_listed t (map (λ u. u.name) us)
used_names t [] = refl
used_names t (u ∷ us) = ap (λ (b : Bool). same t u.name || b) (used_names t us)

-- each reference among the elements is among these uses
abbrev UsesKnown : List Use → List Record → Type 0
UsesKnown us p = AllByRecursion (λ q. has 10 q ≡ true → is_used (trimmed (field 18 q)) us ≡ true) (element_parts p)

module _ (r : Record) (rs : List Record) (o : ℕ) where
  abbrev mine : List Use
  mine = uses_from (o + (4 + length r.content)) rs

  abbrev others : List Outline
  others = outlines (o + (4 + length r.content)) rs

  own_known : IsShaped rs → UsesKnown (mine ++ all_uses others) rs
  own_known s = all_weaker (Covered s.list)
      (λ q. has 10 q ≡ true → is_used (trimmed (field 18 q)) (mine ++ all_uses others) ≡ true)
      (λ q f e. used_append (trimmed (field 18 q)) mine (all_uses others)
      ∙ or_left (is_used (trimmed (field 18 q)) mine) (is_used (trimmed (field 18 q)) (all_uses others))
      (used_names (trimmed (field 18 q)) mine ∙ ap (λ (x : List (List ℕ)). is_listed (trimmed (field 18 q)) x)
      (s.names (o + (4 + length r.content))) ∙ f e))
      (element_parts rs) s.covered

  wider : (p : List Record) → UsesKnown (all_uses others) p → UsesKnown (mine ++ all_uses others) p
  wider p k = all_weaker (λ q. has 10 q ≡ true → is_used (trimmed (field 18 q)) (all_uses others) ≡ true)
      (λ q. has 10 q ≡ true → is_used (trimmed (field 18 q)) (mine ++ all_uses others) ≡ true)
      (λ q f e. used_append (trimmed (field 18 q)) mine (all_uses others)
      ∙ or_right (is_used (trimmed (field 18 q)) mine) (is_used (trimmed (field 18 q)) (all_uses others)) (f e))
      (element_parts p) k

  known_turn : (z : Bool) → AllByRecursion IsShaped
      (elim z as (λ (x : Bool). List (List Record)) [ true ↦ rs ∷ starts rs | false ↦ starts rs ])
      → (AllByRecursion IsShaped (starts rs) → AllByRecursion (UsesKnown (all_uses others)) (starts rs))
      → AllByRecursion
      (UsesKnown
      (all_uses
      (elim z as (λ (x : Bool). List Outline) [
        | true ↦ record { place = o; name = name_of rs; uses = mine }
            ∷ others
        | false ↦ others
      ])))
      (elim z as (λ (x : Bool). List (List Record)) [ true ↦ rs ∷ starts rs | false ↦ starts rs ])
  known_turn true a f = (
    own_known a.0,
    all_weaker (UsesKnown (all_uses others))
        (UsesKnown (mine ++ all_uses others)) wider (starts rs) (f a.1),
  )
  known_turn false a f = f a

uses_known : (rs : List Record) (o : ℕ) → AllByRecursion IsShaped (starts rs)
    → AllByRecursion (UsesKnown (all_uses (outlines o rs))) (starts rs)
uses_known [] o all = tt
uses_known (r ∷ rs) o all = known_turn r rs o (eqb r.kind 5) all (λ a. uses_known rs (o + (4 + length r.content)) a)

all_defined : (us : List Use) (ss : List Outline) → unknown us ss ≡ None → (t : List ℕ) → is_used t us ≡ true
    → is_listed t (map (λ s. s.name) ss) ≡ true
all_defined [] ss e t u = absurd cc
all_defined (x ∷ us) ss e t u = turn (is_defined x.name ss) refl e (same t x.name) refl u
    (λ f g. all_defined us ss f t g)
  where
    turn : (d : Bool) → is_defined x.name ss ≡ d
        → (elim d as (λ (y : Bool). Option ℕ) [ true ↦ unknown us ss | false ↦ Some x.place ]) ≡ None → (z : Bool)
        → same t x.name ≡ z → (z || is_used t us) ≡ true
        → (unknown us ss ≡ None → is_used t us ≡ true → is_listed t (map (λ s. s.name) ss) ≡ true)
        → is_listed t (map (λ s. s.name) ss) ≡ true
    turn false p f z q g h = absurd cc
    turn true p f true q g h = ap (λ (y : List ℕ). is_listed y (map (λ s. s.name) ss)) (same_so t x.name q)
        ∙ sym (defined_listed x.name ss) ∙ p
    turn true p f false q g h = h f g

-- ---- what is referenced holds no reference

-- a text that stands for n
record Named (names : List (List ℕ)) (us : List Use) (n : ℕ) : Type 0 where
  name : List ℕ
  place : n ≡ place_of name names
  used : is_used name us ≡ true

module _ (names : List (List ℕ)) (us : List Use) (n : ℕ) where
  element_named : (q : List Record) (es : List Element) → (has 10 q ≡ true → is_used (trimmed (field 18 q)) us ≡ true)
      → (refers_to n es ≡ true → Named names us n) → refers_to n (element_of names q ∷ es) ≡ true → Named names us n
  element_named q es known others = turn (has 8 q) (has 10 q) known
    where
      both : (z : Bool) → eqb (place_of (trimmed (field 18 q)) names) n ≡ z → (z || refers_to n es) ≡ true
          → is_used (trimmed (field 18 q)) us ≡ true → Named names us n
      both true e f u = record {
        name = trimmed (field 18 q);
        place = sym (eqb-true (place_of (trimmed (field 18 q)) names) n e);
        used = u;
      }
      both false e f u = others f

      turn : (z s : Bool) → (s ≡ true → is_used (trimmed (field 18 q)) us ≡ true)
          → refers_to n ((elim z as (λ (x : Bool). Element) [
            | true ↦ Box
                (record { layer = number (field 13 q); datatype = number (field 14 q); rect = box_of (field 16 q) })
            | false ↦ elim s as (λ (x : Bool). Element) [
              | true ↦ Place (place_of (trimmed (field 18 q)) names) (coordinate (field 16 q) 0)
                  (coordinate (field 16 q) 1)
              | false ↦ Text
                  (record {
                    layer = number (field 13 q);
                    x = coordinate (field 16 q) 0;
                    y = coordinate (field 16 q) 1;
                    text = trimmed (field 25 q);
                  })
            ]
          ]) ∷ es) ≡ true → Named names us n
      turn true s k e = others e
      turn false true k e = both (eqb (place_of (trimmed (field 18 q)) names) n) refl e (k refl)
      turn false false k e = others e

  elements_named : (qs : List (List Record))
      → AllByRecursion (λ q. has 10 q ≡ true → is_used (trimmed (field 18 q)) us ≡ true) qs
      → refers_to n (map (element_of names) qs) ≡ true → Named names us n
  elements_named [] all e = absurd cc
  elements_named (q ∷ qs) all e = element_named q (map (element_of names) qs) all.0 (elements_named qs all.1) e

  structures_named : (ps : List (List Record)) → AllByRecursion (UsesKnown us) ps
      → is_referenced n (map (structure_of names) ps) ≡ true → Named names us n
  structures_named [] all e = absurd cc
  structures_named (p ∷ ps) all e = turn (refers_to n (map (element_of names) (element_parts p))) refl e
      (structures_named ps all.1)
    where
      turn : (z : Bool) → refers_to n (map (element_of names) (element_parts p)) ≡ z
          → (z || is_referenced n (map (structure_of names) ps)) ≡ true
          → (is_referenced n (map (structure_of names) ps) ≡ true → Named names us n) → Named names us n
      turn true f g h = elements_named (element_parts p) all.0 f
      turn false f g h = h g

no_references : (names : List (List ℕ)) (list : List (List ℕ)) → list ≡ [] → (qs : List (List Record))
    → AllByRecursion (Covered list) qs → holds_reference (map (element_of names) qs) ≡ false
no_references names list none [] all = refl
no_references names list none (q ∷ qs) all = turn (has 8 q) (has 10 q) all.0 (no_references names list none qs all.1)
  where
    turn : (z s : Bool) → (s ≡ true → is_listed (trimmed (field 18 q)) list ≡ true)
        → holds_reference (map (element_of names) qs) ≡ false
        → holds_reference ((elim z as (λ (x : Bool). Element) [
          | true ↦ Box
              (record { layer = number (field 13 q); datatype = number (field 14 q); rect = box_of (field 16 q) })
          | false ↦ elim s as (λ (x : Bool). Element) [
            | true ↦ Place (place_of (trimmed (field 18 q)) names) (coordinate (field 16 q) 0)
                (coordinate (field 16 q) 1)
            | false ↦ Text
                (record {
                  layer = number (field 13 q);
                  x = coordinate (field 16 q) 0;
                  y = coordinate (field 16 q) 1;
                  text = trimmed (field 25 q);
                })
          ]
        ]) ∷ map (element_of names) qs) ≡ false
    turn true s k e = e
    turn false true k e = absurd
        (let f : is_listed (trimmed (field 18 q)) list ≡ true = k refl in
        let g : is_listed (trimmed (field 18 q)) list ≡ false =
        ap (λ (x : List (List ℕ)). is_listed (trimmed (field 18 q)) x) none in cc)
    turn false false k e = e

clash : (b : Bool) → b ≡ false → not b ≡ false → ⊥
clash true e f = cc
clash false e f = cc

no_uses : (a : Bool) (n : ℕ) → (a && not (eqb n 0)) ≡ false → a ≡ true → n ≡ 0
no_uses true zero e f = refl
no_uses true (suc n) e f = absurd (clash (eqb (suc n) 0) (grind (arith, nat_tests)) e)
no_uses false n e f = absurd cc

module _ (names : List (List ℕ)) (us : List Use) (t : List ℕ) (used : is_used t us ≡ true) where
  module _ (r : Record) (rs : List Record) (o : ℕ) where
    own_free : IsShaped rs → (is_used (name_of rs) us && not (eqb (length (mine r rs o)) 0)) ≡ false
        → same t (name_of rs) ≡ true → holds_reference (map (element_of names) (element_parts rs)) ≡ false
    own_free s d e =
        let n : length (mine r rs o) ≡ 0 = no_uses (is_used (name_of rs) us) (length (mine r rs o)) d
        (ap (λ (x : List ℕ). is_used x us) (sym (same_so t (name_of rs) e)) ∙ used) in
        let m : s.list ≡ [] = sym (s.names (o + (4 + length r.content)))
        ∙ ap (λ (x : List Use). map (λ (u : Use). u.name) x) (nil_from_length (mine r rs o) n) in
        no_references names s.list m (element_parts rs) s.covered

    pick : (z : Bool) → same t (name_of rs) ≡ z → (w : Bool)
        → (is_used (name_of rs) us && not (eqb (length (mine r rs o)) 0)) ≡ w → IsShaped rs
        → AllByRecursion IsShaped (starts rs)
        → (elim w as (λ (x : Bool). Option ℕ) [ true ↦ Some o | false ↦ deep us (others r rs o) ]) ≡ None
        → (z || is_listed t (map name_of (starts rs))) ≡ true
        → (AllByRecursion IsShaped (starts rs) → deep us (others r rs o) ≡ None
        → is_listed t (map name_of (starts rs)) ≡ true
        → holds_reference (elements_at (map (structure_of names) (starts rs))
        (place_of t (map name_of (starts rs)))) ≡ false)
        → holds_reference (elements_at (structure_of names rs ∷ map (structure_of names) (starts rs))
        (elim z as (λ (x : Bool). ℕ) [ true ↦ 0 | false ↦ suc (place_of t (map name_of (starts rs))) ])) ≡ false
    pick z e true g s a d l f = absurd cc
    pick true e false g s a d l f = own_free s g e
    pick false e false g s a d l f = f a d l

    free_turn : (z : Bool) → AllByRecursion IsShaped
        (elim z as (λ (x : Bool). List (List Record)) [ true ↦ rs ∷ starts rs | false ↦ starts rs ])
        → deep us
        (elim z as (λ (x : Bool). List Outline) [
          | true ↦ record { place = o; name = name_of rs; uses = (mine r rs o) }
              ∷ (others r rs o)
          | false ↦ (others r rs o)
        ]) ≡ None
        → is_listed t
        (map name_of
        (elim z as (λ (x : Bool). List (List Record)) [ true ↦ rs ∷ starts rs | false ↦ starts rs ])) ≡ true
        → (AllByRecursion IsShaped (starts rs) → deep us (others r rs o) ≡ None
        → is_listed t (map name_of (starts rs)) ≡ true
        → holds_reference (elements_at (map (structure_of names) (starts rs))
        (place_of t (map name_of (starts rs)))) ≡ false)
        → holds_reference
        (elements_at
        (map (structure_of names)
        (elim z as (λ (x : Bool). List (List Record)) [ true ↦ rs ∷ starts rs | false ↦ starts rs ]))
        (place_of t
        (map name_of
        (elim z as (λ (x : Bool). List (List Record)) [ true ↦ rs ∷ starts rs | false ↦ starts rs ])))) ≡ false
    free_turn true a d l f = pick (same t (name_of rs)) refl
        (is_used (name_of rs) us && not (eqb (length (mine r rs o)) 0)) refl a.0 a.1 d l f
    free_turn false a d l f = f a d l

  shallow_at : (rs : List Record) (o : ℕ) → AllByRecursion IsShaped (starts rs) → deep us (outlines o rs) ≡ None
      → is_listed t (map name_of (starts rs)) ≡ true
      → holds_reference (elements_at (map (structure_of names) (starts rs))
      (place_of t (map name_of (starts rs)))) ≡ false
  shallow_at [] o all d l = absurd cc
  shallow_at (r ∷ rs) o all d l = free_turn r rs o (eqb r.kind 5) all d l (shallow_at rs (o + (4 + length r.content)))

-- ---- the whole

known_names : (rs : List Record) → unknown (all_uses (outlines 0 rs)) (outlines 0 rs) ≡ None → (t : List ℕ)
    → is_used t (all_uses (outlines 0 rs)) ≡ true → is_listed t (names_of rs) ≡ true
known_names rs e t u = ap (λ (x : List (List ℕ)). is_listed t x) (sym (names_same 0 rs))
    ∙ all_defined (all_uses (outlines 0 rs)) (outlines 0 rs) e t u

-- what is referenced holds no reference
pub shallow_of : (rs : List Record) → AllByRecursion IsShaped (starts rs) → whole_fault rs ≡ None → (n : ℕ)
    → is_referenced n (structures_of rs) ≡ true → holds_reference (elements_at (structures_of rs) n) ≡ false
shallow_of rs shapes e n f =
    let p = parts_none (unknown (all_uses (outlines 0 rs)) (outlines 0 rs))
    (deep (all_uses (outlines 0 rs)) (outlines 0 rs))
    (top_fault (last_place 0 rs) (tops 0 (all_uses (outlines 0 rs)) (outlines 0 rs))) _ _ e in
    let m = structures_named (names_of rs) (all_uses (outlines 0 rs)) n (starts rs) (uses_known rs 0 shapes) f in
    subst (λ (k : ℕ). holds_reference (elements_at (structures_of rs) k) ≡ false) (sym m.place)
    (shallow_at (names_of rs) (all_uses (outlines 0 rs)) m.name m.used rs 0 shapes p.1
    (known_names rs p.0 m.name m.used))
