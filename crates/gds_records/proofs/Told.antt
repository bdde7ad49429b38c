-- A scan is told by its steps.
use Rattle.std.proofs.Common.{◌≡◌, ℕ, zero, suc, ◌+◌, List, [], ◌∷◌, ◌++◌, drop, length, Option, Some, None}
use Rattle.std.proofs.Common.{Bool, true, false, eqb, ◌&&◌, ◌||◌, refl, sym, ap, subst, ◌∙◌, arith, inl, inr}
use Rattle.std.specs.List.{flat_map}
use Rattle.std.proofs.lemmas.List.{map-append, length-append}
use Rattle.gds_records.specs.declared.fault.StreamKind.{StreamKind}
use Rattle.gds_records.specs.Language.{Language}
use Rattle.gds_records.specs.Derivative.{after, after_all}
use Rattle.gds_records.specs.Records.{Record, spelled, kinds, trimmed, same}
use Rattle.gds_records.specs.Values.{is_structure_name}
use Rattle.gds_records.specs.WideValues.{wide_opener, last_colrow}
use Rattle.gds_records.specs.Profiles.{Profile, value_fault_of, strict, wide, IsProfile}
use Rattle.gds_records.specs.Profiled.{own_fault_in, kind_of, length_of, here_record, alive, may_follow_in, fault_of}
use Rattle.gds_records.specs.Profiled.{fault_here_in, Scanned, Faulty, Whole, scan_in}
use Rattle.gds_records.specs.Steps.{is_listed, names_with, Kept, nothing_kept, kept_with, value_here, step_fault}
use Rattle.gds_records.specs.Steps.{Told, Stopped, Ended, steps, all_steps, told}
use Rattle.gds_records.proofs.Records as records
use Rattle.gds_records.proofs.Found.{flat_more}
use Rattle.gds_records.proofs.Written.{opener_last}

after_more : (ks : List ℕ) (k : ℕ) (l : Language) → after_all (ks ++ k ∷ []) l ≡ after k (after_all ks l)
after_more [] k l = refl
after_more (x ∷ ks) k l = after_more ks k (after x l)

-- names, as they are listed so far
abbrev pub Lists : List (List ℕ) → List Record → Type 0
Lists names before = (t : List ℕ) → is_listed t names ≡ is_structure_name t before

or_false : (x : Bool) → (x || false) ≡ x
or_false true = refl
or_false false = refl

or_group : (x y z : Bool) → (x || (y || z)) ≡ ((x || y) || z)
or_group true y z = refl
or_group false y z = refl

listed_append : (t : List ℕ) (ns ms : List (List ℕ)) → is_listed t (ns ++ ms) ≡ (is_listed t ns || is_listed t ms)
listed_append t [] ms = refl
listed_append t (n ∷ ns) ms = ap (λ (x : Bool). same t n || x) (listed_append t ns ms)
    ∙ or_group (same t n) (is_listed t ns) (is_listed t ms)

named_append : (t : List ℕ) (a b : List Record) → is_structure_name t
    (a ++ b) ≡ (is_structure_name t a || is_structure_name t b)
named_append t [] b = refl
named_append t (x ∷ a) b = ap (λ (y : Bool). eqb x.kind 6 && same t (trimmed x.content) || y) (named_append t a b)
    ∙ or_group (eqb x.kind 6 && same t (trimmed x.content)) (is_structure_name t a) (is_structure_name t b)

one_more : (t : List ℕ) (names : List (List ℕ)) (r : Record) (z : Bool)
    → is_listed t
    (elim z as (λ (x : Bool). List (List ℕ)) [ true ↦ names ++ trimmed r.content ∷ [] | false ↦ names ]) ≡ (is_listed t
    names || (z && same t (trimmed r.content) || false))
one_more t names r true = listed_append t names (trimmed r.content ∷ [])
one_more t names r false = sym (or_false (is_listed t names))

lists_more : (names : List (List ℕ)) (before : List Record) (r : Record) → Lists names before
    → Lists (names_with names r) (before ++ r ∷ [])
lists_more names before r h t = one_more t names r (eqb r.kind 6)
    ∙ ap (λ (x : Bool). x || (eqb r.kind 6 && same t (trimmed r.content) || false)) (h t)
    ∙ sym (named_append t before (r ∷ []))

own_of : (t : Option StreamKind) (f : Bool) (v : Option StreamKind) → fault_of t f v ≡ None → t ≡ None
own_of (Some k) f v e = absurd cc
own_of None f v e = refl

-- ---- what is kept of records, one more at a time

wide_opener_last : (l : ℕ) (a : List Record) (r : Record)
    → wide_opener l (a ++ r ∷ []) ≡ wide_opener (wide_opener l a) (r ∷ [])
wide_opener_last l [] r = refl
wide_opener_last l (x ∷ a) r =
    by_kind (wide_opener_last x.kind a r) (wide_opener_last l a r)
    (eqb x.kind 0x08 || eqb x.kind 0x09 || eqb x.kind 0x0A || eqb x.kind 0x0B || eqb x.kind 0x0C)
  where
    by_kind : wide_opener x.kind (a ++ r ∷ []) ≡ wide_opener (wide_opener x.kind a) (r ∷ [])
        → wide_opener l (a ++ r ∷ []) ≡ wide_opener (wide_opener l a) (r ∷ []) → (t : Bool)
        → (elim t as (λ (y : Bool). ℕ) [
          | true ↦ wide_opener x.kind (a ++ r ∷ [])
          | false ↦ wide_opener l (a ++ r ∷ [])
        ])
        ≡ wide_opener (elim t as (λ (y : Bool). ℕ) [ true ↦ wide_opener x.kind a | false ↦ wide_opener l a ]) (r ∷ [])
    by_kind p q true = p
    by_kind p q false = q

colrow_last : (l : List ℕ) (a : List Record) (r : Record)
    → last_colrow l (a ++ r ∷ []) ≡ last_colrow (last_colrow l a) (r ∷ [])
colrow_last l [] r = refl
colrow_last l (x ∷ a) r = by_kind (colrow_last x.content a r) (colrow_last l a r) (eqb x.kind 0x13)
  where
    by_kind : last_colrow x.content (a ++ r ∷ []) ≡ last_colrow (last_colrow x.content a) (r ∷ [])
        → last_colrow l (a ++ r ∷ []) ≡ last_colrow (last_colrow l a) (r ∷ []) → (t : Bool)
        → (elim t as (λ (y : Bool). List ℕ) [
          | true ↦ last_colrow x.content (a ++ r ∷ [])
          | false ↦ last_colrow l (a ++ r ∷ [])
        ])
        ≡ last_colrow (elim t as (λ (y : Bool). List ℕ) [ true ↦ last_colrow x.content a | false ↦ last_colrow l a ])
        (r ∷ [])
    by_kind p q true = p
    by_kind p q false = q

module _ (profile : Profile)
    (opener_more : (l : ℕ) (a : List Record) (r : Record)
    → profile.opener l (a ++ r ∷ []) ≡ profile.opener (profile.opener l a) (r ∷ []))
    (opener_first : 0 ≡ profile.opener 0 []) where
  pub record Keeps (before : List Record) (l : Language) (kept : Kept) (o : ℕ) : Type 0 where
    pub language : l ≡ after_all (kinds before) profile.language
    pub last : kept.element ≡ profile.opener 0 before
    pub colrow : kept.colrow ≡ last_colrow [] before
    pub listed : Lists kept.names before
    pub place : o ≡ length (flat_map spelled before)

  same_value : (before : List Record) (l : Language) (kept : Kept) (o : ℕ) (b : List ℕ) → Keeps before l kept o
      → value_here profile kept b ≡ value_fault_of profile before (here_record b)
  same_value before l kept o b k i =
      profile.value_at (k.last i) (k.colrow i) (k.listed (trimmed (here_record b).content) i) (here_record b)

  same_fault : (before : List Record) (l : Language) (kept : Kept) (o : ℕ) (b : List ℕ) → Keeps before l kept o
      → step_fault profile l kept b ≡ fault_here_in profile before b
  same_fault before l kept o b k i =
      fault_of (own_fault_in profile b) (alive (after (kind_of b) (k.language i))) (same_value before l kept o b k i)

  place_more : (before : List Record) (o : ℕ) (b : List ℕ) → records.Sound profile b
      → o ≡ length (flat_map spelled before)
      → o + length_of b ≡ length (flat_map spelled (before ++ here_record b ∷ []))
  place_more before o b s e =
      omega (
        arith,
        ap (λ (x : List ℕ). length x) (flat_more before (here_record b)),
        length-append
            (flat_map spelled before) (spelled (here_record b)),
        records.spelled_length profile
            (here_record b),
        records.length_here profile b s,
      )

  keeps_more : (before : List Record) (l : Language) (kept : Kept) (o : ℕ) (b : List ℕ) → records.Sound profile b
      → Keeps before l kept o
      → Keeps (before ++ here_record b ∷ []) (after (kind_of b) l) (kept_with profile kept (here_record b))
      (o + length_of b)
  keeps_more before l kept o b s k = record {
    language = ap (λ (x : Language). after (kind_of b) x) k.language
        ∙ sym (ap (λ (ks : List ℕ). after_all ks profile.language)
        (map-append (λ x. x.kind) before (here_record b ∷ []))
        ∙ after_more (kinds before) (kind_of b) profile.language);
    last = ap (λ (x : ℕ). profile.opener x (here_record b ∷ [])) k.last ∙ sym (opener_more 0 before (here_record b));
    colrow = ap (λ (x : List ℕ). last_colrow x (here_record b ∷ [])) k.colrow
        ∙ sym (colrow_last [] before (here_record b));
    listed = lists_more kept.names before (here_record b) k.listed;
    place = place_more before o b s k.place;
  }

  steps_so : (n : ℕ) (before : List Record) (l : Language) (kept : Kept) (o : ℕ) (b : List ℕ) → Keeps before l kept o
      → steps profile n l kept o b ≡ told (scan_in profile n before b)
  steps_so zero before l kept o b k = refl
  steps_so (suc n) before l kept o b k =
      cases (step_fault profile l kept b) (fault_here_in profile before b) (same_fault before l kept o b k) refl
      (eqb (kind_of b) 4)
      (λ s. steps_so n (before ++ here_record b ∷ []) (after (kind_of b) l) (kept_with profile kept (here_record b))
      (o + length_of b) (drop (length_of b) b) (keeps_more before l kept o b s k))
    where
      behind : Told
      behind = steps profile n (after (kind_of b) l) (kept_with profile kept (here_record b)) (o + length_of b)
          (drop (length_of b) b)

      sound : fault_here_in profile before b ≡ None → records.Sound profile b
      sound f =
          records.parts_of profile b
          (own_of (own_fault_in profile b) (may_follow_in profile before (kind_of b))
          (value_fault_of profile before (here_record b)) f)

      cases : (t u : Option StreamKind) → t ≡ u → fault_here_in profile before b ≡ u → (z : Bool)
          → (records.Sound profile b
          → behind ≡ told (scan_in profile n (before ++ here_record b ∷ []) (drop (length_of b) b)))
          → (elim t as (λ (x : Option StreamKind). Told) [
            | Some x ↦ Stopped o x
            | None ↦ elim z as (λ (x : Bool). Told) [
              | true ↦ Ended (o + length_of b) (drop (length_of b) b)
              | false ↦ behind
            ]
          ])
          ≡ told (elim u as (λ (x : Option StreamKind). Scanned) [
            | Some x ↦ Faulty (length (flat_map spelled before)) x
            | None ↦ elim z as (λ (x : Bool). Scanned) [
              | true ↦ Whole (before ++ here_record b ∷ []) (drop (length_of b) b)
              | false ↦ scan_in profile n (before ++ here_record b ∷ []) (drop (length_of b) b)
            ]
          ])
      cases (Some x) (Some y) e f z g =
          let q : x ≡ y = cc in
          ap (λ (p : ℕ). Stopped p x) k.place ∙ ap (λ (w : StreamKind). Stopped (length (flat_map spelled before)) w) q
      cases (Some x) None e f z g = absurd cc
      cases None (Some y) e f z g = absurd cc
      cases None None e f true g = ap (λ (p : ℕ). Ended p (drop (length_of b) b))
          (place_more before o b (sound f) k.place)
      cases None None e f false g = g (sound f)

  told_so : (bytes : List ℕ) → all_steps profile bytes ≡ told (scan_in profile (suc (length bytes)) [] bytes)
  unfolding all_steps
  told_so bytes =
      steps_so (suc (length bytes)) [] profile.language nothing_kept 0 bytes
      (record { language = refl; last = opener_first; colrow = refl; listed = λ t. refl; place = refl })

abbrev IsTold : List ℕ → Profile → Type 0
IsTold bytes p = all_steps p bytes ≡ told (scan_in p (suc (length bytes)) [] bytes)

pub profile_told : (p : Profile) (bytes : List ℕ) → IsProfile p → IsTold bytes p
profile_told p bytes (inl e) = subst (IsTold bytes) (sym e) (told_so strict opener_last refl bytes)
profile_told p bytes (inr e) = subst (IsTold bytes) (sym e) (told_so wide wide_opener_last refl bytes)
