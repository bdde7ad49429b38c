-- What is strict is wide: sentences, and the conditions on the whole.
use Rattle.std.proofs.Common.{◌≡◌, ℕ, suc, List, [], ◌∷◌, ◌++◌, Bool, true, false, length, eqb, Option, Some}
use Rattle.std.proofs.Common.{None, refl, sym, ap, subst, ◌∙◌, arith, append_assoc, inl, inr}
use Rattle.std.specs.Prelude.{not, ◌&&◌, ◌||◌}
use Rattle.std.specs.List.{AllByRecursion}
use Rattle.std.proofs.lemmas.Bool.{eqb-true}
use Rattle.std.proofs.lemmas.Bool.Decides.{nat_tests}
use Rattle.std.proofs.lemmas.List.{append-nil}
use Rattle.gds_records.specs.declared.fault.StreamKind.{StreamKind}
use Rattle.gds_records.specs.declared.fault.StreamKind.TheVariants.{Unsupported, UnknownName}
use Rattle.gds_records.specs.Language.{Language, One, Then, Many, Speaks, Repeats, none, more}
use Rattle.gds_records.specs.declared.codes.TheConstants.{ENDLIB, ELFLAGS, PLEX, SREF, SNAME, STRANS, XY, BGNSTR}
use Rattle.gds_records.specs.declared.codes.TheConstants.{STRNAME, ENDSTR}
use Rattle.gds_records.specs.Grammar.{◌>>◌, maybe, tail, reference, turned, element, turned_reference, wide_element}
use Rattle.gds_records.specs.Grammar.{structure_of_each, in_turn, library_front, stream, wide_stream}
use Rattle.gds_records.specs.Records.{Record, same}
use Rattle.gds_records.specs.Whole.{Use, Outline, is_used, all_uses, unknown, deep, tops, top_fault, outlines}
use Rattle.gds_records.specs.Whole.{last_place, whole_fault}
use Rattle.gds_records.specs.WideWhole.{uses_by, some_use, goes_down, first_long, first_of}
use Rattle.gds_records.specs.WideWhole.{wide_whole_fault}

-- ---- sentences

-- each word of the first is one of the second
record Within (a b : Language) : Type 0 where
  says : (w : List ℕ) → Speaks a w → Speaks b w

itself : (a : Language) → Within a a
itself a = record { says = λ w h. h }

in_then : {a b c d : Language} → Within a c → Within b d → Within (Then a b) (Then c d)
in_then f g = record { says = λ w h. (h.0, h.1, h.2, f.says h.0 h.3, g.says h.1 h.4) }

-- in a then, the second alone
second : {b d : Language} (a : Language) → Within b d → Within (Then a b) (Then a d)
second a g = in_then (itself a) g

in_many : {a b : Language} → Within a b → Within (Many a) (Many b)
in_many {a} {b} f = record { says = λ w h. turn w h }
  where
    turn : (w : List ℕ) → Repeats (Speaks a) w → Repeats (Speaks b) w
    turn w (none w' e) = none w e
    turn w (more w' front rest e h r) = more w front rest e (f.says front h) (turn rest r)

strans_within : Within (maybe (One STRANS)) turned
strans_within = record { says = turn }
  where
    turn : (w : List ℕ) → Speaks (maybe (One STRANS)) w → Speaks turned w
    turn w (inl h) = inl (w, [], sym (append-nil w), h, ([], [], refl, inr refl, inr refl))
    turn w (inr h) = inr h

reference_within : Within reference turned_reference
reference_within = second (One SREF)
    (second (maybe (One ELFLAGS) >> maybe (One PLEX))
    (second (One SNAME) (in_then strans_within (itself (One XY >> tail)))))

element_within : Within element wide_element
element_within = record { says = turn }
  where
    turn : (w : List ℕ) → Speaks element w → Speaks wide_element w
    turn w (inl h) = inl h
    turn w (inr (inl h)) = inr (inr (inl (reference_within.says w h)))
    turn w (inr (inr h)) = inr (inr (inr (inr h)))

structure_within : Within (structure_of_each element) (structure_of_each wide_element)
structure_within = second (One BGNSTR) (second (One STRNAME) (in_then (in_many element_within) (itself (One ENDSTR))))

-- behind languages in turn
seconds : {b d : Language} (before : List Language) → Within b d → Within (in_turn before b) (in_turn before d)
seconds [] g = g
seconds (a ∷ before) g = second a (seconds before g)

stream_within : Within stream wide_stream
stream_within = seconds library_front (in_then (in_many structure_within) (itself (One ENDLIB)))

pub sentence_within : (w : List ℕ) → Speaks stream w → Speaks wide_stream w
sentence_within w h = stream_within.says w h

-- ---- names

eqb_same : (k : ℕ) → eqb k k ≡ true
eqb_same k = grind (arith, nat_tests)

same_itself : (a : List ℕ) → same a a ≡ true
same_itself [] = refl
same_itself (x ∷ a) = turn (eqb x x) (eqb_same x) (same_itself a)
  where
    turn : (t : Bool) → t ≡ true → same a a ≡ true
        → (elim t as (λ (b : Bool). Bool) [ true ↦ same a a | false ↦ false ]) ≡ true
    turn true e ih = ih
    turn false e ih = absurd cc

pub same_so : (a b : List ℕ) → same a b ≡ true → a ≡ b
same_so [] [] e = refl
same_so [] (y ∷ b) e = absurd cc
same_so (x ∷ a) [] e = absurd cc
same_so (x ∷ a) (y ∷ b) e = turn (eqb x y) refl e (λ h. same_so a b h)
  where
    turn : (t : Bool) → eqb x y ≡ t → (elim t as (λ (k : Bool). Bool) [ true ↦ same a b | false ↦ false ]) ≡ true
        → (same a b ≡ true → a ≡ b) → x ∷ a ≡ y ∷ b
    turn true q e ih = λ i. eqb-true x y q i ∷ ih e i
    turn false q e ih = absurd cc

-- ---- what is referenced references nothing, so there are no loops and no long chains

empty_so : (us : List Use) → not (eqb (length us) 0) ≡ false → us ≡ []
empty_so [] e = refl
empty_so (u ∷ us) e = absurd
    (let z : eqb (suc (length us)) 0 ≡ false = grind (arith, nat_tests) in
    let h : true ≡ false = sym (ap (λ (b : Bool). not b) z) ∙ e in cc)

first_none : (b : Bool) (p : ℕ) (r : Option ℕ)
    → (elim b as (λ (x : Bool). Option ℕ) [ true ↦ Some p | false ↦ r ]) ≡ None → (b ≡ false) × (r ≡ None)
first_none true p r e = absurd cc
first_none false p r e = (refl, e)

used_not : (a b : Bool) → (a && b) ≡ false → a ≡ true → b ≡ false
used_not true b e h = e
used_not false b e h = absurd cc

-- a structure that is used references nothing
used_empty : (us : List Use) (name : List ℕ) (ss : List Outline) → deep us ss ≡ None → is_used name us ≡ true
    → uses_by name ss ≡ []
used_empty us name [] d u = refl
used_empty us name (s ∷ ss) d u =
    let f = first_none (is_used s.name us && not (eqb (length s.uses) 0)) s.place (deep us ss) d in
    turn (same name s.name) refl f.0 (used_empty us name ss f.1 u)
  where
    turn : (t : Bool) → same name s.name ≡ t → (is_used s.name us && not (eqb (length s.uses) 0)) ≡ false
        → uses_by name ss ≡ [] → (elim t as (λ (x : Bool). List Use) [ true ↦ s.uses | false ↦ uses_by name ss ]) ≡ []
    turn true e h ih = empty_so s.uses
        (used_not (is_used s.name us) (not (eqb (length s.uses) 0)) h
        (ap (λ (n : List ℕ). is_used n us) (sym (same_so name s.name e)) ∙ u))
    turn false e h ih = ih

or_right : (a b : Bool) → b ≡ true → (a || b) ≡ true
or_right true b e = refl
or_right false b e = e

or_left : (a b : Bool) → a ≡ true → (a || b) ≡ true
or_left true b e = refl
or_left false b e = absurd cc

used_left : (name : List ℕ) (us vs : List Use) → is_used name us ≡ true → is_used name (us ++ vs) ≡ true
used_left name [] vs e = absurd cc
used_left name (u ∷ us) vs e = turn (same name u.name) e (λ h. used_left name us vs h)
  where
    turn : (t : Bool) → (t || is_used name us) ≡ true → (is_used name us ≡ true → is_used name (us ++ vs) ≡ true)
        → (t || is_used name (us ++ vs)) ≡ true
    turn true e ih = refl
    turn false e ih = ih e

used_right : (name : List ℕ) (us vs : List Use) → is_used name vs ≡ true → is_used name (us ++ vs) ≡ true
used_right name [] vs e = e
used_right name (u ∷ us) vs e = or_right (same name u.name) (is_used name (us ++ vs)) (used_right name us vs e)

AreUsed : List Use → List Use → Type 0
AreUsed all us = AllByRecursion (λ u. is_used u.name all ≡ true) us

their_own : (before us : List Use) → AreUsed (before ++ us) us
unfolding AreUsed
their_own before [] = tt
their_own before (u ∷ us) = (
  used_right u.name before (u ∷ us) (or_left (same u.name u.name) (is_used u.name us) (same_itself u.name)),
  subst (λ (all : List Use). AllByRecursion (λ v. is_used v.name all ≡ true) us) (append_assoc before (u ∷ []) us)
      (their_own (before ++ u ∷ []) us),
)

more_used : (before all us : List Use) → AreUsed all us → AreUsed (before ++ all) us
unfolding AreUsed
more_used before all [] h = tt
more_used before all (u ∷ us) h = (used_right u.name before all h.0, more_used before all us h.1)

kept_used : (all after us : List Use) → AreUsed all us → AreUsed (all ++ after) us
unfolding AreUsed
kept_used all after [] h = tt
kept_used all after (u ∷ us) h = (used_left u.name all after h.0, kept_used all after us h.1)

-- what any structure uses is used
uses_used : (name : List ℕ) (ss : List Outline) → AreUsed (all_uses ss) (uses_by name ss)
unfolding AreUsed
uses_used name [] = tt
uses_used name (s ∷ ss) = turn (same name s.name) (uses_used name ss)
  where
    turn : (t : Bool) → AreUsed (all_uses ss) (uses_by name ss)
        → AreUsed (s.uses ++ all_uses ss)
        (elim t as (λ (x : Bool). List Use) [ true ↦ s.uses | false ↦ uses_by name ss ])
    turn true ih = kept_used s.uses (all_uses ss) s.uses (their_own [] s.uses)
    turn false ih = more_used s.uses (all_uses ss) (uses_by name ss) ih

none_use : (test : List ℕ → Bool) (all us : List Use) → AreUsed all us
    → ((name : List ℕ) → is_used name all ≡ true → test name ≡ false) → some_use test us ≡ false
unfolding AreUsed
none_use test all [] h f = refl
none_use test all (u ∷ us) h f = ap (λ (b : Bool). b || some_use test us) (f u.name h.0) ∙ none_use test all us h.1 f

module _ (ss : List Outline) (shallow : deep (all_uses ss) ss ≡ None) where
  ends_here : (name : List ℕ) → is_used name (all_uses ss) ≡ true → uses_by name ss ≡ []
  ends_here name u = used_empty (all_uses ss) name ss shallow u

  short : (n : ℕ) (name : List ℕ) → goes_down (suc (suc n)) ss name ≡ false
  short n name = none_use (goes_down (suc n) ss) (all_uses ss) (uses_by name ss) (uses_used name ss)
      (λ m u. ap (λ (us : List Use). some_use (goes_down n ss) us) (ends_here m u))

  no_first_long : (rest : List Outline) → first_long ss rest ≡ None
  no_first_long [] = refl
  no_first_long (s ∷ rest) = turn (goes_down 65 ss s.name) (short 63 s.name) (no_first_long rest)
    where
      turn : (t : Bool) → t ≡ false → first_long ss rest ≡ None
          → (elim t as (λ (x : Bool). Option ℕ) [ true ↦ Some s.place | false ↦ first_long ss rest ]) ≡ None
      turn true q ih = absurd cc
      turn false q ih = ih

-- ---- the conditions on the whole

none_parts : (u d : Option ℕ) (t : Option (ℕ × StreamKind))
    → (elim u as (λ (x : Option ℕ). Option (ℕ × StreamKind)) [
      | Some p ↦ Some (p, UnknownName)
      | None ↦ elim d as (λ (x : Option ℕ). Option (ℕ × StreamKind)) [ Some p ↦ Some (p, Unsupported) | None ↦ t ]
    ]) ≡ None → (u ≡ None) × (d ≡ None) × (t ≡ None)
none_parts (Some p) d t e = absurd cc
none_parts None (Some p) t e = absurd cc
none_parts None None t e = (refl, refl, e)

none_of : (a b : Option ℕ) (t : Option (ℕ × StreamKind)) → a ≡ None → b ≡ None → t ≡ None
    → first_of a UnknownName (first_of b Unsupported t) ≡ None
none_of a b t p q s = rw (p, q) s

pub whole_within : (rs : List Record) → whole_fault rs ≡ None → wide_whole_fault rs ≡ None
whole_within rs h =
    let ss = outlines 0 rs in
    let n = none_parts (unknown (all_uses ss) ss) (deep (all_uses ss) ss)
    (top_fault (last_place 0 rs) (tops 0 (all_uses ss) ss)) h in
    none_of (unknown (all_uses ss) ss) (first_long ss ss)
    (top_fault (last_place 0 rs) (tops 0 (all_uses ss) ss)) n.0 (no_first_long ss n.1 ss) n.2
