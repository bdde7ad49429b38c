-- The conditions on the whole stream, structure by structure.
use Rattle.std.proofs.Common.{◌≡◌, ℕ, ◌+◌, ◌<◌, List, [], ◌∷◌, ◌++◌, map, take, drop, length, Bool, true, false, cond}
use Rattle.std.proofs.Common.{◌||◌, Option, Some, None, Bor, refl, sym, ap, ◌∙◌, append_assoc}
use Rattle.std.specs.Prelude.{slice_index_or}
use Rattle.std.specs.List.{list_any}
use Rattle.std.specs.Str.{bytes_eq}
use Rattle.indexmap.specs.IndexSet.{insert_key}
use Rattle.std.proofs.lemmas.List.{map-append, append-nil}
use Rattle.gds_records.proofs.Wider.{same_so}
use Rattle.poly_cut.proofs.Parity.{or_assoc, or_false}
use Rattle.gds_records.specs.declared.fault.StreamKind.{StreamKind}
use Rattle.gds_records.specs.declared.fault.StreamKind.TheVariants.{UnknownName, Unsupported, NoTop, SeveralTops}
use Rattle.gds_records.specs.Records.{Record, same}
use Rattle.gds_records.specs.Steps.{is_listed}
use Rattle.gds_records.specs.Whole.{Use, Outline, is_used, all_uses, outlines, last_place, tops, top_in, top_fault}
use Rattle.gds_records.specs.Whole.{top_of}
use Rattle.gds_records.specs.WideWhole.{first_of, first_long, wide_outlines_fault, wide_whole_fault}
use Rattle.gds_read.specs.declared.outline.NamedUse.{NamedUse}
use Rattle.gds_read.specs.declared.outline.NamedOutline.{NamedOutline}
use Rattle.gds_read.specs.declared.conditions.Tops.TheVariants.{Nothing, One, Several}
use Rattle.gds_read.specs.Code.Outlining.{use_of, outline_of}
use Rattle.gds_read.specs.Code.Numbering.{AreUsed, number_in, IsNumbering, unnumbered}
use Rattle.gds_read.specs.Code.Tops.{told_tops}
use Rattle.gds_read.proofs.Named.{listed_any}
use Rattle.gds_read.proofs.Numbering.{unknown_so}
use Rattle.gds_read.proofs.Items.{next_item, one_more}

-- ---- names that are used

listed_append : (t : List ℕ) (xs : List (List ℕ)) (n : List ℕ)
    → is_listed t (xs ++ n ∷ []) ≡ (is_listed t xs || same t n)
listed_append t [] n = or_false (same t n)
listed_append t (x ∷ xs) n = ap (λ (b : Bool). same t x || b) (listed_append t xs n)
    ∙ sym (or_assoc (same t x) (is_listed t xs) (same t n))

listed_insert : (t : List ℕ) (keys : List (List ℕ)) (n : List ℕ)
    → is_listed t (insert_key bytes_eq keys n) ≡ (is_listed t keys || same t n)
listed_insert t keys n = turn (list_any (bytes_eq n) keys) refl
  where
    there : (s : Bool) → same t n ≡ s → is_listed n keys ≡ true → is_listed t keys ≡ (is_listed t keys || s)
    there true e l = let q : is_listed t keys ≡ true = ap (λ (x : List ℕ). is_listed x keys) (same_so t n e)
        ∙ l in rw q refl
    there false e l = sym (or_false (is_listed t keys))

    turn : (b : Bool) → list_any (bytes_eq n) keys ≡ b
        → is_listed t (cond b keys (keys ++ n ∷ [])) ≡ (is_listed t keys || same t n)
    turn true e = there (same t n) refl (listed_any n keys ∙ e)
    turn false e = listed_append t keys n

pub used_append : (t : List ℕ) (a b : List Use) → is_used t (a ++ b) ≡ (is_used t a || is_used t b)
used_append t [] b = refl
used_append t (u ∷ a) b = ap (λ (x : Bool). same t u.name || x) (used_append t a b)
    ∙ sym (or_assoc (same t u.name) (is_used t a) (is_used t b))

pub uses_more : (t : List ℕ) (us : List NamedUse) (i : ℕ) (u : NamedUse) (first old new : List (List ℕ)) → i < length us
    → u ≡ slice_index_or us i u
    → is_listed t old ≡ (is_listed t first || is_used t (map use_of (take i us)))
    → new ≡ insert_key bytes_eq old u.name.now
    → is_listed t new ≡ (is_listed t first || is_used t (map use_of (take (i + 1) us)))
uses_more t us i u first old new h q e add =
    ap (λ (x : List (List ℕ)). is_listed t x) add ∙ listed_insert t old u.name.now
    ∙ ap (λ (b : Bool). b || same t u.name.now) e
    ∙ or_assoc (is_listed t first) (is_used t (map use_of (take i us))) (same t u.name.now)
    ∙ ap (λ (b : Bool). is_listed t first || (is_used t (map use_of (take i us)) || b))
    (sym (or_false (same t u.name.now)))
    ∙ ap (λ (b : Bool). is_listed t first || b) (sym (used_append t (map use_of (take i us)) (use_of u ∷ [])))
    ∙ ap (λ (x : List Use). is_listed t first || is_used t x)
    (sym (map-append use_of (take i us) (u ∷ [])) ∙ ap (λ (x : List NamedUse). map use_of x)
    (sym (one_more us i u h q)))

all_append : (a : List Outline) (s : Outline) → all_uses (a ++ s ∷ []) ≡ all_uses a ++ s.uses
all_append [] s = append-nil s.uses
all_append (x ∷ a) s = ap (λ (y : List Use). x.uses ++ y) (all_append a s)
    ∙ sym (append_assoc x.uses (all_uses a) s.uses)

pub used_more : (ss : List NamedOutline) (i : ℕ) (s : NamedOutline) (old new : List (List ℕ)) → i < length ss
    → s ≡ slice_index_or ss i s
    → AreUsed old (all_uses (map outline_of (take i ss)))
    → ((t : List ℕ) → is_listed t new ≡ (is_listed t old || is_used t (map use_of s.uses)))
    → AreUsed new (all_uses (map outline_of (take (i + 1) ss)))
used_more ss i s old new h q used add t =
    add t ∙ ap (λ (b : Bool). b || is_used t (map use_of s.uses)) (used t)
    ∙ sym (used_append t (all_uses (map outline_of (take i ss))) (map use_of s.uses))
    ∙ ap (λ (x : List Use). is_used t x) (sym (all_append (map outline_of (take i ss)) (outline_of s)))
    ∙ ap (λ (x : List Outline). is_used t (all_uses x))
    (sym (map-append outline_of (take i ss) (s ∷ [])) ∙ ap (λ (x : List NamedOutline). map outline_of x)
    (sym (one_more ss i s h q)))

-- ---- the first unknown name

-- the first of two numbers that is there
abbrev or_else : Option ℕ → Option ℕ → Option ℕ
or_else (Some n) other = Some n
or_else None other = other

module _ (f : List ℕ → Option ℕ) where
  unnumbered_append : (a b : List Use) → unnumbered f (a ++ b) ≡ or_else (unnumbered f a) (unnumbered f b)
  unnumbered_append [] b = refl
  unnumbered_append (u ∷ a) b = turn (f u.name) (unnumbered_append a b)
    where
      turn : (o : Option ℕ) → unnumbered f (a ++ b) ≡ or_else (unnumbered f a) (unnumbered f b)
          → (elim o as (λ (x : Option ℕ). Option ℕ) [ Some n ↦ unnumbered f (a ++ b) | None ↦ Some u.place ]) ≡ or_else
          (elim o as (λ (x : Option ℕ). Option ℕ) [ Some n ↦ unnumbered f a | None ↦ Some u.place ]) (unnumbered f b)
      turn (Some n) e = e
      turn None e = refl

  split_first : (ss : List NamedOutline) (i : ℕ) (s : NamedOutline) → i < length ss → s ≡ slice_index_or ss i s
      → unnumbered f (all_uses (map outline_of (drop i ss))) ≡ or_else (unnumbered f (map use_of s.uses))
      (unnumbered f (all_uses (map outline_of (drop (i + 1) ss))))
  split_first ss i s h q =
      ap (λ (x : List NamedOutline). unnumbered f (all_uses (map outline_of x))) (next_item ss i s h q)
      ∙ unnumbered_append (map use_of s.uses) (all_uses (map outline_of (drop (i + 1) ss)))

  pub unknown_there : (ss : List NamedOutline) (i : ℕ) (s : NamedOutline) (p : ℕ) (total : Option ℕ) → i < length ss
      → s ≡ slice_index_or ss i s → unnumbered f (all_uses (map outline_of (drop i ss))) ≡ total
      → Some p ≡ unnumbered f (map use_of s.uses) → Some p ≡ total
  unknown_there ss i s p total h q e w =
      ap (λ (x : Option ℕ). or_else x (unnumbered f (all_uses (map outline_of (drop (i + 1) ss))))) w
      ∙ sym (split_first ss i s h q) ∙ e

  pub unknown_later : (ss : List NamedOutline) (i : ℕ) (s : NamedOutline) (total : Option ℕ) → i < length ss
      → s ≡ slice_index_or ss i s → unnumbered f (all_uses (map outline_of (drop i ss))) ≡ total
      → None ≡ unnumbered f (map use_of s.uses) → unnumbered f (all_uses (map outline_of (drop (i + 1) ss))) ≡ total
  unknown_later ss i s total h q e w =
      ap (λ (x : Option ℕ). or_else x (unnumbered f (all_uses (map outline_of (drop (i + 1) ss))))) w
      ∙ sym (split_first ss i s h q) ∙ e

-- ---- the searches together

pub not_some : (o : Option ℕ) → ((p : ℕ) → o ≡ Some p → ⊥) → o ≡ None
not_some (Some p) h = absurd (h p refl)
not_some None h = refl

pub top_none : (o : ℕ) (ts : List (ℕ × ℕ)) (n : ℕ) → One n ≡ told_tops ts → (top_fault o ts ≡ None) × (n ≡ top_in ts)
top_none o [] n e = absurd cc
top_none o (t ∷ []) n e = (refl, cc)
top_none o (t ∷ s ∷ ts) n e = absurd cc

pub top_several : (o : ℕ) (ts : List (ℕ × ℕ)) (p : ℕ) → Several p ≡ told_tops ts
    → top_fault o ts ≡ Some (p, SeveralTops)
top_several o [] p e = absurd cc
top_several o (t ∷ []) p e = absurd cc
top_several o (t ∷ s ∷ ts) p e = let w : s.1 ≡ p = cc in rw w refl

pub top_nothing : (o : ℕ) (ts : List (ℕ × ℕ)) → Nothing ≡ told_tops ts → top_fault o ts ≡ Some (o, NoTop)
top_nothing o [] e = refl
top_nothing o (t ∷ []) e = absurd cc
top_nothing o (t ∷ s ∷ ts) e = absurd cc

-- what the searches answer over the outlines of records
module _ (rs : List Record) (structures : List NamedOutline) (entries : List (Bor (List ℕ) × ℕ))
    (same : map outline_of structures ≡ outlines 0 rs)
    (numbers : IsNumbering entries (map (λ s. s.name) (map outline_of structures))) where
  abbrev us : List Use
  us = all_uses (map outline_of structures)

  wide_is : wide_whole_fault rs ≡ first_of (unnumbered (number_in entries) us) UnknownName
      (first_of (first_long (map outline_of structures) (map outline_of structures)) Unsupported
      (top_fault (last_place 0 rs) (tops 0 us (map outline_of structures))))
  wide_is =
      ap (λ (x : List Outline). wide_outlines_fault (last_place 0 rs) x) (sym same)
      ∙ ap (λ (x : Option ℕ). first_of x UnknownName
      (first_of (first_long (map outline_of structures) (map outline_of structures)) Unsupported
      (top_fault (last_place 0 rs) (tops 0 us (map outline_of structures)))))
      (unknown_so (number_in entries) (map outline_of structures) numbers.each us)

  pub wide_unknown : (p : ℕ) → Some p ≡ unnumbered (number_in entries) us → wide_whole_fault rs ≡ Some (p, UnknownName)
  wide_unknown p e =
      wide_is
      ∙ ap (λ (x : Option ℕ). first_of x UnknownName
      (first_of (first_long (map outline_of structures) (map outline_of structures)) Unsupported
      (top_fault (last_place 0 rs) (tops 0 us (map outline_of structures))))) (sym e)

  known : (o : Option ℕ) → o ≡ unnumbered (number_in entries) us → ((q : ℕ) → o ≡ Some q → ⊥)
      → wide_whole_fault rs ≡ first_of (first_long (map outline_of structures) (map outline_of structures)) Unsupported
      (top_fault (last_place 0 rs) (tops 0 us (map outline_of structures)))
  known o e n =
      wide_is
      ∙ ap (λ (x : Option ℕ). first_of x UnknownName
      (first_of (first_long (map outline_of structures) (map outline_of structures)) Unsupported
      (top_fault (last_place 0 rs) (tops 0 us (map outline_of structures))))) (sym e ∙ not_some o n)

  pub wide_deep : (o : Option ℕ) (p : ℕ) → o ≡ unnumbered (number_in entries) us → ((q : ℕ) → o ≡ Some q → ⊥)
      → Some p ≡ first_long (map outline_of structures) (map outline_of structures) → wide_whole_fault rs ≡ Some (p, Unsupported)
  wide_deep o p e n f =
      known o e n
      ∙ ap (λ (x : Option ℕ). first_of x Unsupported
      (top_fault (last_place 0 rs) (tops 0 us (map outline_of structures)))) (sym f)

  pub wide_top : (o d : Option ℕ) → o ≡ unnumbered (number_in entries) us → ((q : ℕ) → o ≡ Some q → ⊥)
      → d ≡ first_long (map outline_of structures) (map outline_of structures) → ((q : ℕ) → d ≡ Some q → ⊥)
      → (total : Option (ℕ × StreamKind)) → top_fault (last_place 0 rs) (tops 0 us (map outline_of structures)) ≡ total
      → wide_whole_fault rs ≡ total
  wide_top o d e n f m total t =
      known o e n
      ∙ ap (λ (x : Option ℕ). first_of x Unsupported
      (top_fault (last_place 0 rs) (tops 0 us (map outline_of structures)))) (sym f ∙ not_some d m) ∙ t

  pub top_is : (top : ℕ) → top ≡ top_in (tops 0 us (map outline_of structures)) → top ≡ top_of rs
  top_is top t = t ∙ ap (λ (x : List Outline). top_in (tops 0 (all_uses x) x)) same
