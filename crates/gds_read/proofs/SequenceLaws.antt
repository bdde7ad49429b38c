-- What a record comes to at the front of a sequence, and at a place, is what the language there says.
use Rattle.std.proofs.Common.{◌≡◌, ℕ, List, [], ◌∷◌, Bool, true, false, eqb}
use Rattle.std.proofs.Common.{◌&&◌, Option, Some, None, refl, sym, ap, subst, ◌∙◌, arith}
use Rattle.std.proofs.lemmas.Bool.{eqb-true, and_parts, and_right}
use Rattle.std.proofs.lemmas.Bool.Decides.{nat_tests}
use Rattle.gds_records.specs.Language.{Language, Nothing, Empty, One, Then, Either, Many}
use Rattle.gds_records.specs.Derivative.{speaks_nothing, then, either, after}
use Rattle.gds_records.specs.Profiled.{alive}
use Rattle.gds_records.specs.Grammar.{◌>>◌, maybe, wide_element, structure_of_each}
use Rattle.gds_read.specs.declared.sequence.Part.{Part}
use Rattle.gds_read.specs.declared.sequence.Part.TheVariants.{Over, Must, May, Flags, Turn, Turned}
use Rattle.gds_read.specs.declared.sequence.Sequence.{Sequence}
use Rattle.gds_read.specs.declared.sequence.Coming.{Coming}
use Rattle.gds_read.specs.declared.sequence.Coming.TheVariants as coming
use Rattle.gds_read.specs.declared.place.Level.{Level}
use Rattle.gds_read.specs.declared.place.Level.TheVariants as levels
use Rattle.gds_read.specs.declared.place.Place.{Place}
use Rattle.gds_read.specs.Code.Sequences.{part, in_parts, in_sequence, choices, pick, Followed, On}
use Rattle.gds_read.specs.Code.Sequences.{Past, Barred, follow, followed, is_nothing, bars, each_kind, is_clear}
use Rattle.gds_read.specs.Code.Places.{inside, behind, and_then, at_level, rest_of, is_clear_place, IsAt}

-- ---- parts

-- the records of what is left of a part
abbrev left : Option Part → Language
left None = Nothing
left (Some p) = part p

-- what follows one record, by whether it comes
abbrev one_left : Bool → Language
one_left z = elim z [ true ↦ Empty | false ↦ Nothing ]

abbrev or_part : Bool → Part → Option Part → Option Part
or_part z p other = elim z [ true ↦ Some p | false ↦ other ]

by_one : (z : Bool) (f : Language → Language) (q : Part) → f Empty ≡ part q → f Nothing ≡ Nothing
    → f (one_left z) ≡ left (or_part z q None)
by_one true f q a b = a
by_one false f q a b = b

both_after : (k a b : ℕ) → eqb a b ≡ false
    → after k (maybe (One a) >> maybe (One b)) ≡ left (pick k ((a, May b) ∷ (b, Over) ∷ []))
both_after k a b e = turn (eqb a k) (eqb b k) refl refl
  where
    turn : (z w : Bool) → eqb a k ≡ z → eqb b k ≡ w
        → either (then (either (one_left z) Nothing) (maybe (One b))) (either (one_left w) Nothing)
        ≡ left (or_part z (May b) (or_part w Over None))
    turn true true f g = absurd (let h : eqb a b ≡ true = grind (arith, nat_tests) in cc)
    turn true false f g = refl
    turn false true f g = refl
    turn false false f g = refl

part_after : (k : ℕ) (p : Part) → after k (part p) ≡ left (pick k (choices p))
part_after k Over = refl
part_after k (Must j) = by_one (eqb j k) (λ x. x) Over refl refl
part_after k (May j) = by_one (eqb j k) (λ x. either x Nothing) Over refl refl
part_after k Flags = both_after k 0x26 0x2F refl
part_after k Turn = by_one (eqb 0x1A k) (λ x. either (then x (part Turned)) Nothing) Turned refl refl
part_after k Turned = both_after k 0x1B 0x1C refl

-- ---- the record types of a part

module _ (test : ℕ → Bool) (k : ℕ) (q : Part) where
  abbrev good : List (ℕ × Part) → Bool
  good [] = true
  good (c ∷ cs) = (test c.0 && each_kind test c.1) && good cs

  picked : (cs : List (ℕ × Part)) → good cs ≡ true → pick k cs ≡ Some q
      → (test k ≡ true) × (each_kind test q ≡ true)
  picked [] g e = absurd cc
  picked (c ∷ cs) g e =
      let p = and_parts (test c.0 && each_kind test c.1) (good cs) g in
      turn (eqb c.0 k) refl (and_parts (test c.0) (each_kind test c.1) p.0) (picked cs p.1) e
    where
      turn : (z : Bool) → eqb c.0 k ≡ z → (test c.0 ≡ true) × (each_kind test c.1 ≡ true)
          → (pick k cs ≡ Some q → (test k ≡ true) × (each_kind test q ≡ true))
          → (elim z as (λ (x : Bool). Option Part) [ true ↦ Some c.1 | false ↦ pick k cs ]) ≡ Some q
          → (test k ≡ true) × (each_kind test q ≡ true)
      turn true f h more i =
          let same : c.1 ≡ q = cc in (
            subst (λ (x : ℕ). test x ≡ true) (eqb-true c.0 k f) h.0,
            subst
                (λ (x : Part). each_kind test x ≡ true) same h.1,
          )
      turn false f h more i = more i

  all_good : (p : Part) → each_kind test p ≡ true → good (choices p) ≡ true
  all_good Over e = refl
  all_good (Must j) e = rw e refl
  all_good (May j) e = rw e refl
  all_good Flags e = let p = and_parts (test 0x26) (test 0x2F) e in rw (p.0, p.1) refl
  all_good Turn e = let p = and_parts (test 0x1A) (test 0x1B && test 0x1C) e in
      let r = and_parts (test 0x1B) (test 0x1C) p.1 in rw (p.0, r.0, r.1) refl
  all_good Turned e = let p = and_parts (test 0x1B) (test 0x1C) e in rw (p.0, p.1) refl

-- ---- sequences

no_words : (l : Language) → is_nothing l ≡ true → l ≡ Nothing
no_words Nothing e = refl
no_words Empty e = absurd cc
no_words (One k) e = absurd cc
no_words (Then a b) e = absurd cc
no_words (Either a b) e = absurd cc
no_words (Many a) e = absurd cc

either_nothing : (a : Language) → either a Nothing ≡ a
either_nothing Nothing = refl
either_nothing Empty = refl
either_nothing (One k) = refl
either_nothing (Then a b) = refl
either_nothing (Either a b) = refl
either_nothing (Many a) = refl

abbrev after_by : ℕ → Language → Language → Bool → Language
after_by k a b z = elim z [ true ↦ either (then (after k a) b) (after k b) | false ↦ then (after k a) b ]

after_two : (k : ℕ) (a b : Language) (z : Bool) → speaks_nothing a ≡ z → after k (Then a b) ≡ after_by k a b z
after_two k a b z e = ap (after_by k a b) e

module _ (k : ℕ) (l : Language) where
  -- what a record leaves
  abbrev rest : Followed → Language
  rest (On front ps) = then (part front) (in_parts ps l)
  rest Past = after k l
  rest Barred = Nothing

  abbrev still_clear : Followed → Bool
  still_clear (On front ps) = is_clear (front ∷ ps) l
  still_clear Past = true
  still_clear Barred = true

  record Follows (a : Language) (f : Followed) : Type 0 where
    pub follows : after k a ≡ rest f
    pub clear : still_clear f ≡ true

  parts_follow : (ps : List Part) → is_clear ps l ≡ true → Follows (in_parts ps l) (follow k ps)
  parts_follow [] e = record { follows = refl; clear = refl }
  parts_follow (p ∷ ps) e =
      let c = and_parts (each_kind (bars (in_parts ps l)) p) (is_clear ps l) e in
      turn (pick k (choices p)) (speaks_nothing (part p)) (part_after k p) refl
      (λ q i. picked (bars (in_parts ps l)) k q (choices p) (all_good (bars (in_parts ps l)) k q p c.0) i) c.1
      (parts_follow ps c.1)
    where
      x : Language
      x = in_parts ps l

      turn : (s : Option Part) (z : Bool) → after k (part p) ≡ left s → speaks_nothing (part p) ≡ z
          → ((q : Part) → s ≡ Some q → (bars x k ≡ true) × (each_kind (bars x) q ≡ true))
          → is_clear ps l ≡ true → Follows x (follow k ps)
          → Follows (Then (part p) x) (elim s as (λ (t : Option Part). Followed) [
            | Some front ↦ On front ps
            | None ↦ elim z as (λ (t : Bool). Followed) [ true ↦ follow k ps | false ↦ Barred ]
          ])
      turn None false d n g c later = record { follows = after_two k (part p) x false n ∙ rw d refl; clear = refl }
      turn None true d n g c later = record {
        follows = after_two k (part p) x true n ∙ rw d later.follows;
        clear = later.clear;
      }
      turn (Some q) false d n g c later =
          record { follows = after_two k (part p) x false n ∙ rw d refl; clear = rw ((g q refl).1, c) refl }
      turn (Some q) true d n g c later = record {
        follows = after_two k (part p) x true n ∙ rw (d, no_words (after k x) (g q refl).0)
            (either_nothing (then (part q) x));
        clear = rw ((g q refl).1, c) refl;
      }

  -- a part that is over has no word
  begun : (p : Part) (a : Language) → after k (then (part p) a) ≡ after k (Then (part p) a)
  begun Over a = refl
  begun (Must j) a = refl
  begun (May j) a = refl
  begun Flags a = refl
  begun Turn a = refl
  begun Turned a = refl

-- ---- words of sequences

then_silent : (a b : Language) → speaks_nothing (then a b) ≡ (speaks_nothing a && speaks_nothing b)
then_silent Nothing b = refl
then_silent Empty b = refl
then_silent (One k) b = refl
then_silent (Then a c) b = refl
then_silent (Either a c) b = refl
then_silent (Many a) b = refl

then_alive : (a b : Language) → alive (then a b) ≡ (alive a && alive b)
then_alive Nothing b = refl
then_alive Empty b = refl
then_alive (One k) b = refl
then_alive (Then a c) b = refl
then_alive (Either a c) b = refl
then_alive (Many a) b = refl

part_alive : (p : Part) → alive (part p) ≡ true
part_alive Over = refl
part_alive (Must k) = refl
part_alive (May k) = refl
part_alive Flags = refl
part_alive Turn = refl
part_alive Turned = refl

module _ (l : Language) where
  parts_loud : (ps : List Part) → speaks_nothing l ≡ false → speaks_nothing (in_parts ps l) ≡ false
  parts_loud [] e = e
  parts_loud (p ∷ ps) e = and_right (speaks_nothing (part p)) (speaks_nothing (in_parts ps l)) (parts_loud ps e)

  loud : (s : Sequence) → speaks_nothing l ≡ false → speaks_nothing (in_sequence s l) ≡ false
  loud s e = then_silent (part s.front) (in_parts s.behind.now l) ∙ parts_loud (s.front ∷ s.behind.now) e

  parts_alive : (ps : List Part) → alive l ≡ true → alive (in_parts ps l) ≡ true
  parts_alive [] e = e
  parts_alive (p ∷ ps) e = rw (part_alive p) (parts_alive ps e)

  sequence_alive : (s : Sequence) → alive l ≡ true → alive (in_sequence s l) ≡ true
  sequence_alive s e = then_alive (part s.front) (in_parts s.behind.now l) ∙ parts_alive (s.front ∷ s.behind.now) e

-- ---- places

-- a language, and then others in turn, where what is over adds nothing
abbrev then_all : Language → List Language → Language
then_all a [] = a
then_all a (b ∷ bs) = then_all (then a b) bs

nothing_then : (bs : List Language) → then_all Nothing bs ≡ Nothing
nothing_then [] = refl
nothing_then (b ∷ bs) = nothing_then bs

after_all_of : (k : ℕ) (a : Language) (bs : List Language) → speaks_nothing a ≡ false
    → after k (and_then a bs) ≡ then_all (after k a) bs
after_all_of k a [] e = refl
after_all_of k a (b ∷ bs) e = after_all_of k (Then a b) bs (rw e refl)
    ∙ ap (λ (x : Language). then_all x bs) (after_two k a b false e)

-- where a language has words, and not only the empty one, nothing is left out
then_is : (a b : Language) → alive a ≡ true → speaks_nothing a ≡ false → then a b ≡ Then a b
then_is Nothing b e f = absurd cc
then_is Empty b e f = absurd cc
then_is (One k) b e f = refl
then_is (Then a c) b e f = refl
then_is (Either a c) b e f = refl
then_is (Many a) b e f = refl

-- where nothing comes behind a level, what stands in it may have no word
abbrev IsLoudIn : Level → Language → Type 0
IsLoudIn level a = speaks_nothing (inside level) ≡ false → speaks_nothing a ≡ false

level_after : (k : ℕ) (level : Level) (a : Language) → IsLoudIn level a
    → after k (and_then a (behind level)) ≡ then_all (after k a) (behind level)
level_after k levels.Library a h = refl
level_after k levels.Structure a h = after_all_of k a (behind levels.Structure) (h refl)
level_after k levels.Element a h = after_all_of k a (behind levels.Element) (h refl)
level_after k levels.Property a h = after_all_of k a (behind levels.Property) (h refl)
level_after k levels.Done a h = refl

level_then : (level : Level) (a : Language) → alive a ≡ true → IsLoudIn level a
    → then_all a (behind level) ≡ and_then a (behind level)
level_then levels.Library a e h = refl
level_then levels.Structure a e h = rw (then_is a (Many (structure_of_each wide_element)) e (h refl)) refl
level_then levels.Element a e h = rw (then_is a (Many wide_element) e (h refl)) refl
level_then levels.Property a e h = rw (then_is a (Many wide_element) e (h refl)) refl
level_then levels.Done a e h = refl

inside_alive : (level : Level) → alive (inside level) ≡ true
inside_alive levels.Library = refl
inside_alive levels.Structure = refl
inside_alive levels.Element = refl
inside_alive levels.Property = refl
inside_alive levels.Done = refl

level_alive : (level : Level) (a : Language) → alive a ≡ true → alive (and_then a (behind level)) ≡ true
level_alive levels.Library a e = e
level_alive levels.Structure a e = rw e refl
level_alive levels.Element a e = rw e refl
level_alive levels.Property a e = rw e refl
level_alive levels.Done a e = e

module _ (k : ℕ) (p : Place) (f : Coming) (clear : is_clear_place p ≡ true)
    (told : followed f ≡ follow k (p.left.front ∷ p.left.behind.now)) where
  abbrev parts : List Part
  parts = p.left.front ∷ p.left.behind.now

  follows_by : (g : Followed) → followed f ≡ g → Follows k (inside p.level) (in_parts parts (inside p.level)) g
  follows_by g e =
      subst (λ (x : Followed). Follows k (inside p.level) (in_parts parts (inside p.level)) x) (sym told ∙ e)
      (parts_follow k (inside p.level) parts clear)

  place_after : (g : Followed) → followed f ≡ g
      → after k (rest_of p) ≡ then_all (rest k (inside p.level) g) (behind p.level)
  place_after g e =
      level_after k p.level (in_sequence p.left (inside p.level)) (loud (inside p.level) p.left)
      ∙ ap (λ (x : Language). then_all x (behind p.level))
      (begun k (inside p.level) p.left.front (in_parts p.left.behind.now (inside p.level)) ∙ (follows_by g e).follows)

  pub goes_on : (next : Sequence) → f ≡ coming.On next
      → IsAt (after k (rest_of p)) (record { level = p.level; left = next })
  goes_on next e =
      let g : followed f ≡ On next.front next.behind.now = ap (λ (x : Coming). followed x) e in
      let a = sequence_alive (inside p.level) next (inside_alive p.level) in
      let same = place_after (On next.front next.behind.now) g
      ∙ level_then p.level (in_sequence next (inside p.level)) a (loud (inside p.level) next) in record {
        follows = same;
        some = ap (λ (x : Language). alive x) same ∙ level_alive p.level (in_sequence next (inside p.level)) a;
        clear = (follows_by (On next.front next.behind.now) g).clear;
      }

  pub goes_past : f ≡ coming.Past → after k (rest_of p) ≡ after k (at_level p.level)
  goes_past e =
      place_after Past (ap (λ (x : Coming). followed x) e) ∙ sym (level_after k p.level (inside p.level) (λ h. h))

  pub may_not : f ≡ coming.Barred → after k (rest_of p) ≡ Nothing
  may_not e = place_after Barred (ap (λ (x : Coming). followed x) e) ∙ nothing_then (behind p.level)
