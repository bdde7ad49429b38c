-- Good records of a strict stream are good records of a wide one.
use Rattle.std.proofs.Common.{◌≡◌, ℕ, ◌+◌, ◌^◌, ◌<◌, ◌⊎◌, List, [], ◌∷◌, ◌++◌, Bool, true, false, length, eqb, Option}
use Rattle.std.proofs.Common.{Some, None, refl, sym, ap, ◌∙◌, arith, append_assoc, inl, inr}
use Rattle.std.specs.Prelude.{not, ◌&&◌, ◌||◌, ◌==◌}
use Rattle.std.specs.List.{AllByRecursion}
use Rattle.std.proofs.lemmas.Bool.{eqb-true}
use Rattle.std.proofs.lemmas.Bool.Decides.{nat_tests}
use Rattle.std.proofs.lemmas.List.{map-append}
use Rattle.gds_records.specs.declared.fault.StreamKind.{StreamKind}
use Rattle.gds_records.specs.declared.fault.StreamKind.TheVariants.{Unsupported, NotRectangle, Value}
use Rattle.gds_records.specs.Language.{Language, Nothing, Empty, One, Then, Either, Many, Speaks, Repeats, none, more}
use Rattle.gds_records.specs.declared.codes.TheConstants.{ENDLIB, BGNSTR, STRNAME, ENDSTR, PATH, AREF, TEXT, COLROW}
use Rattle.gds_records.specs.declared.codes.TheConstants.{NO_DATA, TWO_BYTE_INTEGER}
use Rattle.gds_records.specs.Grammar.{in_turn, library_front, boundary, reference, stream}
use Rattle.gds_records.specs.Records.{Record, kinds, trimmed}
use Rattle.gds_records.specs.declared.table.Entry.{Entry}
use Rattle.gds_records.specs.declared.table.Lengths.TheVariants.{Exactly}
use Rattle.gds_records.specs.Table.{entry_of, is_among, table, wide_table, known_in}
use Rattle.gds_records.specs.Values.{at, unsigned_value, is_rectangle, is_structure_name, has_value, opener, rule}
use Rattle.gds_records.specs.Values.{value_fault_in}
use Rattle.gds_records.specs.WideValues.{points, is_flip, is_ring}
use Rattle.gds_records.specs.WideValues.{wide_opener, last_colrow, refers, wide_fault_in}
use Rattle.gds_records.specs.WideDrawing.{AreFit}
use Rattle.gds_records.specs.Profiles.{strict, wide}
use Rattle.gds_records.specs.Profiled.{AreGoodIn}

-- ---- a magnification or an angle stands in a text alone

abbrev opens : ℕ → Bool
opens k = eqb k 0x08 || eqb k 0x0A || eqb k 0x0C

abbrev next_opener : ℕ → ℕ → ℕ
next_opener last k = elim (opens k) [ true ↦ k | false ↦ last ]

abbrev opened : ℕ → List ℕ → ℕ
opened last [] = last
opened last (k ∷ ks) = opened (next_opener last k) ks

abbrev turns : ℕ → Bool
turns k = eqb k 0x1B || eqb k 0x1C

-- no such record comes in a reference
abbrev calm : ℕ → List ℕ → Bool
calm last [] = true
calm last (k ∷ ks) = not (turns k && eqb last 0x0A) && calm (next_opener last k) ks

record Calm (a : Language) : Type 0 where
  says : (w : List ℕ) → Speaks a w → (last : ℕ) → calm last w ≡ true

and_both : (p q : Bool) → p ≡ true → q ≡ true → (p && q) ≡ true
and_both true q e f = f
and_both false q e f = e

and_so : (p q : Bool) → (p && q) ≡ true → (p ≡ true) × (q ≡ true)
and_so true q e = (refl, e)
and_so false q e = absurd cc

calm_append : (u v : List ℕ) (last : ℕ) → calm last u ≡ true → calm (opened last u) v ≡ true → calm last (u ++ v) ≡ true
calm_append [] v last e f = f
calm_append (k ∷ u) v last e f =
    let p = and_so (not (turns k && eqb last 0x0A)) (calm (next_opener last k) u) e in
    and_both (not (turns k && eqb last 0x0A)) (calm (next_opener last k) (u ++ v)) p.0
    (calm_append u v (next_opener last k) p.1 f)

calm_then : {a b : Language} → Calm a → Calm b → Calm (Then a b)
calm_then f g = record {
  says = λ w h last. ap (λ (x : List ℕ). calm last x) h.2
      ∙ calm_append h.0 h.1 last (f.says h.0 h.3 last) (g.says h.1 h.4 (opened last h.0));
}

calm_either : {a b : Language} → Calm a → Calm b → Calm (Either a b)
calm_either {a} {b} f g = record { says = turn }
  where
    turn : (w : List ℕ) → Speaks (Either a b) w → (last : ℕ) → calm last w ≡ true
    turn w (inl h) last = f.says w h last
    turn w (inr h) last = g.says w h last

calm_many : {a : Language} → Calm a → Calm (Many a)
calm_many {a} f = record { says = turn }
  where
    turn : (w : List ℕ) → Repeats (Speaks a) w → (last : ℕ) → calm last w ≡ true
    turn w (none w' e) last = ap (λ (x : List ℕ). calm last x) e
    turn w (more w' front rest e h r) last = ap (λ (x : List ℕ). calm last x) e
        ∙ calm_append front rest last (f.says front h last) (turn rest r (opened last front))

-- languages whose words pass a test of each kind
abbrev each_passes : (ℕ → Bool) → Language → Bool
each_passes test Nothing = true
each_passes test Empty = true
each_passes test (One k) = test k
each_passes test (Then a b) = each_passes test a && each_passes test b
each_passes test (Either a b) = each_passes test a && each_passes test b
each_passes test (Many a) = each_passes test a

abbrev all_pass : (ℕ → Bool) → List ℕ → Bool
all_pass test [] = true
all_pass test (k ∷ ks) = test k && all_pass test ks

pass_append : (test : ℕ → Bool) (u v : List ℕ) → all_pass test u ≡ true → all_pass test v ≡ true
    → all_pass test (u ++ v) ≡ true
pass_append test [] v e f = f
pass_append test (k ∷ u) v e f = let p = and_so (test k) (all_pass test u) e in
    and_both (test k) (all_pass test (u ++ v)) p.0 (pass_append test u v p.1 f)

words_pass : (test : ℕ → Bool) (a : Language) (w : List ℕ) → each_passes test a ≡ true → Speaks a w
    → all_pass test w ≡ true
words_pass test Nothing w e h = absurd h
words_pass test Empty w e h = ap (λ (x : List ℕ). all_pass test x) h
words_pass test (One k) w e h = ap (λ (x : List ℕ). all_pass test x) h ∙ and_both (test k) true e refl
words_pass test (Then a b) w e h = let p = and_so (each_passes test a) (each_passes test b) e in
    ap (λ (x : List ℕ). all_pass test x) h.2 ∙ pass_append test h.0 h.1 (words_pass test a h.0 p.0 h.3)
    (words_pass test b h.1 p.1 h.4)
words_pass test (Either a b) w e (inl h) = words_pass test a w (and_so (each_passes test a) (each_passes test b) e).0 h
words_pass test (Either a b) w e (inr h) = words_pass test b w (and_so (each_passes test a) (each_passes test b) e).1 h
words_pass test (Many a) w e h = turn (λ v s. words_pass test a v e s) w h
  where
    turn : ((v : List ℕ) → Speaks a v → all_pass test v ≡ true) → (w : List ℕ) → Repeats (Speaks a) w
        → all_pass test w ≡ true
    turn one w (none w' e) = ap (λ (x : List ℕ). all_pass test x) e
    turn one w (more w' front rest e h r) = ap (λ (x : List ℕ). all_pass test x) e
        ∙ pass_append test front rest (one front h) (turn one rest r)

-- without such records, from anywhere
quiet_calm : (w : List ℕ) (last : ℕ) → all_pass (λ k. not (turns k)) w ≡ true → calm last w ≡ true
quiet_calm [] last e = refl
quiet_calm (k ∷ w) last e = let p = and_so (not (turns k)) (all_pass (λ k. not (turns k)) w) e in
    and_both (not (turns k && eqb last 0x0A)) (calm (next_opener last k) w) (weaker (turns k) (eqb last 0x0A) p.0)
    (quiet_calm w (next_opener last k) p.1)
  where
    weaker : (a b : Bool) → not a ≡ true → not (a && b) ≡ true
    weaker true b e = absurd cc
    weaker false b e = refl

-- without openers, from a text
text_calm : (w : List ℕ) → all_pass (λ k. not (opens k)) w ≡ true → calm 0x0C w ≡ true
text_calm [] e = refl
text_calm (k ∷ w) e =
    let p = and_so (not (opens k)) (all_pass (λ k. not (opens k)) w) e in
    and_both (not (turns k && false)) (calm (next_opener 0x0C k) w) (no (turns k))
    (stays (opens k) p.0 (text_calm w p.1))
  where
    no : (a : Bool) → not (a && false) ≡ true
    no true = refl
    no false = refl

    stays : (a : Bool) → not a ≡ true → calm 0x0C w ≡ true
        → calm (elim a as (λ (x : Bool). ℕ) [ true ↦ k | false ↦ 0x0C ]) w ≡ true
    stays true e h = absurd cc
    stays false e h = h

by_kinds : (a : Language) → each_passes (λ k. not (turns k)) a ≡ true → Calm a
by_kinds a e = record { says = λ w h last. quiet_calm w last (words_pass (λ k. not (turns k)) a w e h) }

in_text : (b : Language) → each_passes (λ k. not (opens k)) b ≡ true → Calm (Then (One TEXT) b)
in_text b e = record {
  says = λ w h last. ap (λ (x : List ℕ). calm last x) (h.2 ∙ ap (λ (x : List ℕ). x ++ h.1) h.3)
      ∙ and_both (not (false && eqb last 0x0A)) (calm 0x0C h.1) refl
      (text_calm h.1 (words_pass (λ k. not (opens k)) b h.1 e h.4));
}

abbrev all_quiet : List Language → Bool
all_quiet [] = true
all_quiet (a ∷ others) = each_passes (λ k. not (turns k)) a && all_quiet others

-- behind languages in turn that have no such records
calm_behind : {b : Language} (before : List Language) → all_quiet before ≡ true → Calm b → Calm (in_turn before b)
calm_behind [] e f = f
calm_behind (a ∷ before) e f =
    let p = and_so (each_passes (λ k. not (turns k)) a) (all_quiet before) e in
    calm_then (by_kinds a p.0) (calm_behind before p.1 f)

stream_calm : Calm stream
stream_calm =
    calm_behind library_front refl
    (calm_then (calm_many (calm_then (by_kinds (One BGNSTR) refl) (calm_then (by_kinds (One STRNAME) refl)
    (calm_then
    (calm_many (calm_either (by_kinds boundary refl) (calm_either (by_kinds reference refl) (in_text _ refl))))
    (by_kinds (One ENDSTR) refl)))))
    (by_kinds (One ENDLIB) refl))

opener_kinds : (last : ℕ) (rs : List Record) → opener last rs ≡ opened last (kinds rs)
opener_kinds last [] = refl
opener_kinds last (r ∷ rs) = turn (eqb r.kind 0x08 || eqb r.kind 0x0A || eqb r.kind 0x0C) (opener_kinds r.kind rs)
    (opener_kinds last rs)
  where
    turn : (t : Bool) → opener r.kind rs ≡ opened r.kind (kinds rs) → opener last rs ≡ opened last (kinds rs)
        → (elim t as (λ (x : Bool). ℕ) [ true ↦ opener r.kind rs | false ↦ opener last rs ]) ≡ opened
        (elim t as (λ (x : Bool). ℕ) [ true ↦ r.kind | false ↦ last ]) (kinds rs)
    turn true a b = a
    turn false a b = b

-- behind the records before, a magnification or an angle is not in a reference
calm_at : (u : List ℕ) (k : ℕ) (v : List ℕ) (last : ℕ) → calm last (u ++ k ∷ v) ≡ true
    → (turns k && eqb (opened last u) 0x0A) ≡ false
calm_at [] k v last e = not_so (turns k && eqb last 0x0A)
    (and_so (not (turns k && eqb last 0x0A)) (calm (next_opener last k) v) e).0
  where
    not_so : (t : Bool) → not t ≡ true → t ≡ false
    not_so true e = absurd cc
    not_so false e = refl
calm_at (j ∷ u) k v last e = calm_at u k v (next_opener last j)
    (and_so (not (turns j && eqb last 0x0A)) (calm (next_opener last j) (u ++ k ∷ v)) e).1

-- ---- the table

-- none of the three new kinds
record IsOld (k : ℕ) : Type 0 where
  path : eqb k 0x09 ≡ false
  array : eqb k 0x0B ≡ false
  colrow : eqb k 0x13 ≡ false

bool_so : (t : Bool) → (t ≡ true) ⊎ (t ≡ false)
bool_so true = inl refl
bool_so false = inr refl

not_known : (k n : ℕ) → known_in table k ≡ true → known_in table n ≡ false → eqb k n ≡ false
not_known k n a b =
    elim (bool_so (eqb k n)) [
      | inl e ↦ absurd
          (let q : k ≡ n = eqb-true k n e in let h : true ≡ false = sym a
          ∙ ap (λ (x : ℕ). known_in table x) q ∙ b in cc)
      | inr e ↦ e
    ]

old_so : (k : ℕ) → known_in table k ≡ true → IsOld k
old_so k a = record {
  path = not_known k 0x09 a refl;
  array = not_known k 0x0B a refl;
  colrow = not_known k 0x13 a refl;
}

skip_entry : (e : Entry) (es : List Entry) (k : ℕ) → eqb e.kind k ≡ false → entry_of k (e ∷ es) ≡ entry_of k es
skip_entry e es k h = turn (eqb e.kind k) h
  where
    turn : (t : Bool) → t ≡ false
        → (elim t as (λ (x : Bool). Option Entry) [ true ↦ Some e | false ↦ entry_of k es ]) ≡ entry_of k es
    turn true h = absurd cc
    turn false h = refl

flip_eqb : (k n : ℕ) → eqb k n ≡ false → eqb n k ≡ false
flip_eqb k n h = grind (arith, nat_tests)

-- a row of one length
abbrev row : ℕ → ℕ → ℕ → Entry
row kind form length = record { kind = kind; form = form; lengths = Exactly length }

same_entry : (k : ℕ) → IsOld k → entry_of k wide_table ≡ entry_of k table
same_entry k o =
    skip_entry (row PATH NO_DATA 4) (row AREF NO_DATA 4 ∷ row COLROW TWO_BYTE_INTEGER 8 ∷ table) k
    (flip_eqb k 0x09 o.path)
    ∙ skip_entry (row AREF NO_DATA 4) (row COLROW TWO_BYTE_INTEGER 8 ∷ table) k (flip_eqb k 0x0B o.array)
    ∙ skip_entry (row COLROW TWO_BYTE_INTEGER 8) table k (flip_eqb k 0x13 o.colrow)

-- ---- values

wide_opens : (last : ℕ) (rs : List Record) → AllByRecursion (λ r. IsOld r.kind) rs
    → wide_opener last rs ≡ opener last rs
wide_opens last [] a = refl
wide_opens last (r ∷ rs) a = turn (eqb r.kind 0x08) (eqb r.kind 0x09) (eqb r.kind 0x0A) (eqb r.kind 0x0B)
    (eqb r.kind 0x0C) a.0.path a.0.array (wide_opens r.kind rs a.1) (wide_opens last rs a.1)
  where
    turn : (b p s f t : Bool) → p ≡ false → f ≡ false → wide_opener r.kind rs ≡ opener r.kind rs
        → wide_opener last rs ≡ opener last rs
        → (elim (b || p || s || f || t) as (λ (x : Bool). ℕ) [
          | true ↦ wide_opener r.kind rs
          | false ↦ wide_opener last rs
        ]) ≡ (elim (b || s || t) as (λ (x : Bool). ℕ) [
          | true ↦ opener r.kind rs
          | false ↦ opener last rs
        ])
    turn true p s f t hp hf x y = x
    turn false true s f t hp hf x y = absurd cc
    turn false false true f t hp hf x y = x
    turn false false false true t hp hf x y = absurd cc
    turn false false false false true hp hf x y = x
    turn false false false false false hp hf x y = y

-- what a strict opener is
opened_old : (last : ℕ) (rs : List Record) → IsOld last → AllByRecursion (λ r. IsOld r.kind) rs → IsOld (opener last rs)
opened_old last [] o a = o
opened_old last (r ∷ rs) o a = turn (eqb r.kind 0x08 || eqb r.kind 0x0A || eqb r.kind 0x0C)
    (opened_old r.kind rs a.0 a.1) (opened_old last rs o a.1)
  where
    turn : (t : Bool) → IsOld (opener r.kind rs) → IsOld (opener last rs)
        → IsOld (elim t as (λ (x : Bool). ℕ) [ true ↦ opener r.kind rs | false ↦ opener last rs ])
    turn true x y = x
    turn false x y = y

zero_flips : (v w : Bool) → v ≡ true → (v || w) ≡ true
zero_flips true w e = refl
zero_flips false w e = absurd cc

or_none : (a b : Bool) → b ≡ false → (a || b) ≡ a
or_none true b e = refl
or_none false b e = e

and_none : (a b : Bool) → b ≡ false → (a && b) ≡ false
and_none true b e = e
and_none false b e = refl

-- a rule that does not speak of the record
skip : (c good : Bool) (k : StreamKind) (others : Option StreamKind) → c ≡ false → others ≡ None
    → rule c good k others ≡ None
skip c good k others e h = rw e h

-- what a rule says that is kept, and where it does not speak, the others
said : (c good : Bool) (k : StreamKind) (others : Option StreamKind) → rule c good k others ≡ None
    → (c ≡ true → good ≡ true) × (c ≡ false → others ≡ None)
said true true k others h = (λ e. refl, λ e. absurd cc)
said true false k others h = absurd cc
said false good k others h = (λ e. absurd cc, λ e. h)

keep : (c good : Bool) (k : StreamKind) (others : Option StreamKind) → (c ≡ true → good ≡ true)
    → (c ≡ false → others ≡ None) → rule c good k others ≡ None
keep true good k others f g = rw (f refl) refl
keep false good k others f g = g refl

or_left : (a b c : Bool) → ((a || b) && c) ≡ false → (a && c) ≡ false
or_left true b c e = e
or_left false b c e = refl

or_right : (a b c : Bool) → ((a || b) && c) ≡ false → (b && c) ≡ false
or_right true b true e = absurd cc
or_right true true false e = refl
or_right true false false e = refl
or_right false b c e = e

value_within :
    (ring : (xy : List ℕ) → ((k : ℕ) → at xy k < 2 ^ 32) → is_rectangle xy ≡ true → is_ring (points xy) ≡ true) (el : ℕ)
    (colrow : List ℕ) (taken : Bool) (r : Record)
    → ((k : ℕ) → at r.content k < 2 ^ 32) → IsOld el → IsOld r.kind → (turns r.kind && eqb el 0x0A) ≡ false
    → value_fault_in el taken r ≡ None → wide_fault_in el colrow taken r ≡ None
value_within ring el colrow taken r fits oe ok quiet h =
    let q : refers el ≡ eqb el 0x0A = or_none (eqb el 0x0A) (eqb el 0x0B) oe.array in
    let at_reference : (k : ℕ) → (eqb r.kind k && refers el) ≡ (eqb r.kind k && eqb el 0x0A) =
    λ k. ap (λ (b : Bool). eqb r.kind k && b) q in
    let flags = said (eqb r.kind 0x1A && eqb el 0x0A) (eqb (unsigned_value 0 r.content) 0) Unsupported _ h in
    keep _ (is_flip r.content) Unsupported _
    (λ e. zero_flips (eqb (unsigned_value 0 r.content) 0) _ (flags.0 (sym (at_reference 0x1A) ∙ e)))
    (λ e. let corners = said (eqb r.kind 0x10 && eqb el 0x08) (is_rectangle r.content) NotRectangle
    (rule true (has_value taken r) Value None) (flags.1 (sym (at_reference 0x1A) ∙ e)) in
    skip _ _ _ _ (at_reference 0x1B ∙ or_left (eqb r.kind 0x1B) (eqb r.kind 0x1C) (eqb el 0x0A) quiet)
    (skip _ _ _ _ (at_reference 0x1C ∙ or_right (eqb r.kind 0x1B) (eqb r.kind 0x1C) (eqb el 0x0A) quiet)
    (skip _ _ _ _ (and_none (eqb r.kind 0x21) (eqb el 0x09) oe.path)
    (keep _ (is_ring (points r.content)) NotRectangle _ (λ x. ring r.content fits (corners.0 x))
    (λ x. skip _ _ _ _ (and_none (eqb r.kind 0x10) (eqb el 0x09) oe.path)
    (skip _ _ _ _ (and_none (eqb r.kind 0x10) (eqb el 0x0B) oe.array)
    (skip _ _ _ _ (and_none (eqb r.kind 0x0F) (eqb el 0x09) oe.path)
    (skip _ _ _ _ ok.colrow (corners.1 x)))))))))

-- ---- records

good_within : ((xy : List ℕ) → ((k : ℕ) → at xy k < 2 ^ 32) → is_rectangle xy ≡ true → is_ring (points xy) ≡ true)
    → (before rest : List Record)
    → AllByRecursion (λ r. IsOld r.kind) before → calm 0 (kinds before ++ kinds rest) ≡ true → AreFit rest
    → AreGoodIn strict before rest → AreGoodIn wide before rest
good_within ring before [] old quiet fit good = tt
good_within ring before (r ∷ rest) old quiet fit good =
    let g = good.0 in
    let o = old_so r.kind g.is_known in
    let e = same_entry r.kind o in
    let old_all = all_old before r old o in (
      record {
        short = g.short;
        even = g.even;
        is_known = ap (λ (x : Option Entry). elim x as (λ (z : Option Entry). Bool) [ Some y ↦ true | None ↦ false ]) e
            ∙ g.is_known;
        form =
            ap
            (λ (x : Option Entry). elim x as (λ (z : Option Entry). Bool) [
              | Some y ↦ y.form == r.form
              | None ↦ false
            ])
            e ∙ g.form;
        long =
            ap
            (λ (x : Option Entry). elim x as (λ (z : Option Entry). Bool) [
              | Some y ↦ is_among y.lengths
                  (4 + length r.content)
              | None ↦ false
            ]) e ∙ g.long;
        value =
            ap (λ (x : ℕ). wide_fault_in x (last_colrow [] before) (is_structure_name (trimmed r.content) before) r)
            (wide_opens 0 before old)
            ∙ value_within ring (opener 0 before) (last_colrow [] before)
            (is_structure_name (trimmed r.content) before) r fit.0
            (opened_old 0 before (record { path = refl; array = refl; colrow = refl }) old) o
            (ap (λ (x : ℕ). turns r.kind && eqb x 0x0A) (opener_kinds 0 before)
            ∙ calm_at (kinds before) r.kind (kinds rest) 0 quiet) g.value;
      },
      good_within ring (before ++ r ∷ []) rest old_all
          (ap (λ (x : List ℕ). calm 0 x)
          (ap (λ (x : List ℕ). x ++ kinds rest) (map-append (λ x. x.kind) before (r ∷ []))
          ∙ append_assoc (kinds before) (r.kind ∷ []) (kinds rest)) ∙ quiet) fit.1 good.1,
    )
  where
    all_old : (before : List Record) (r : Record) → AllByRecursion (λ r. IsOld r.kind) before → IsOld r.kind
        → AllByRecursion (λ r. IsOld r.kind) (before ++ r ∷ [])
    all_old [] r a o = (o, tt)
    all_old (x ∷ before) r a o = (a.0, all_old before r a.1 o)

pub records_within : ((xy : List ℕ) → ((k : ℕ) → at xy k < 2 ^ 32) → is_rectangle xy ≡ true
    → is_ring (points xy) ≡ true) → (rs : List Record) → Speaks stream (kinds rs) → AreFit rs → AreGoodIn strict [] rs
    → AreGoodIn wide [] rs
records_within ring rs h fit good = good_within ring [] rs tt (stream_calm.says (kinds rs) h 0) fit good
