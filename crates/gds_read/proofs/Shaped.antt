-- The records of a sentence: its structures with their references, and their elements.
use Rattle.std.proofs.Common.{◌≡◌, ℕ, ◌+◌, List, [], ◌∷◌, ◌++◌, map, length, Bool, true, false, eqb, ◌||◌, refl, sym}
use Rattle.std.proofs.Common.{ap, subst, ◌∙◌, append_assoc, inl, inr}
use Rattle.std.specs.Prelude.{not, ◌&&◌}
use Rattle.std.specs.List.{flat_map, AllByRecursion}
use Rattle.std.proofs.lemmas.List.{append-nil}
use Rattle.std.proofs.lemmas.List.Concat.{flat_map-cons}
use Rattle.std.proofs.lemmas.Bool.{eq-eqb, or_right, or_parts}
use Rattle.gds_records.proofs.Tree.{same_refl}
use Rattle.gds_records.specs.Language.{Language, One, Then, Many, Speaks, Repeats, none, more}
use Rattle.gds_records.specs.Records.{Record, kinds, trimmed, same}
use Rattle.gds_records.specs.Grammar.{◌>>◌, flags, in_turn, library_front, stream, stream_of_each, structure_of_each}
use Rattle.gds_records.specs.Grammar.{element, boundary, reference, text}
use Rattle.gds_records.specs.Drawing.{starts, up_to, parts, field, has, element_parts}
use Rattle.gds_records.specs.Whole.{Use, uses_from}
use Rattle.gds_records.specs.Steps.{is_listed}
use Rattle.gds_records.proofs.Sentences.{has_kind, mentions, lacks, Ends, ends_with, ends_so}
use Rattle.gds_read.proofs.Words.{holds}

-- ---- records by the words of their kinds

pub record Split (rs : List Record) (front rest : List ℕ) : Type 0 where
  pub xs : List Record
  pub ys : List Record
  pub whole : rs ≡ xs ++ ys
  pub fronts : kinds xs ≡ front
  pub rests : kinds ys ≡ rest

pub split : (rs : List Record) (front rest : List ℕ) → kinds rs ≡ front ++ rest → Split rs front rest
split rs [] rest e = record { xs = []; ys = rs; whole = refl; fronts = refl; rests = e }
split [] (k ∷ front) rest e = absurd cc
split (r ∷ rs) (k ∷ front) rest e =
    let s = split rs front rest (let q : kinds rs ≡ front ++ rest = cc in q) in
    let q : r.kind ≡ k = cc in
    record {
      xs = r ∷ s.xs;
      ys = s.ys;
      whole = ap (λ (x : List Record). r ∷ x) s.whole;
      fronts = (λ i. q i ∷ s.fronts i);
      rests = s.rests;
    }

no_kinds : (rs : List Record) → kinds rs ≡ [] → rs ≡ []
no_kinds [] e = refl
no_kinds (r ∷ rs) e = absurd cc

pub record Headed (k : ℕ) (l : Language) (rs : List Record) : Type 0 where
  pub head : Record
  pub rest : List Record
  pub whole : rs ≡ head ∷ rest
  pub kind : head.kind ≡ k
  pub others : Speaks l (kinds rest)

single : (k : ℕ) (rs : List Record) → kinds rs ≡ k ∷ [] → (r : Record) × (rs ≡ r ∷ []) × (r.kind ≡ k)
single k [] e = absurd cc
single k (r ∷ []) e = (r, refl, cc)
single k (r ∷ s ∷ rs) e = absurd cc

pub headed : (k : ℕ) (l : Language) (rs : List Record) → Speaks (Then (One k) l) (kinds rs) → Headed k l rs
headed k l rs h =
    let s = split rs h.0 h.1 h.2 in
    let o = single k s.xs (s.fronts ∙ h.3) in
    record {
      head = o.0;
      rest = s.ys;
      whole = s.whole ∙ ap (λ (x : List Record). x ++ s.ys) o.1;
      kind = o.2;
      others = subst (λ (x : List ℕ). Speaks l x) (sym s.rests) h.4;
    }

-- ---- where structures start

starts_none : (xs ys : List Record) → has_kind 5 (kinds xs) ≡ false → starts (xs ++ ys) ≡ starts ys
starts_none [] ys e = refl
starts_none (x ∷ xs) ys e = let p = or_parts (eqb x.kind 5) (has_kind 5 (kinds xs)) e in
    turn (eqb x.kind 5) p.0 (starts_none xs ys p.1)
  where
    turn : (b : Bool) → b ≡ false → starts (xs ++ ys) ≡ starts ys
        → (elim b as (λ (t : Bool). List (List Record)) [
          | true ↦ (xs ++ ys) ∷ starts (xs ++ ys)
          | false ↦ starts (xs ++ ys)
        ]) ≡ starts ys
    turn true f g = absurd cc
    turn false f g = g

starts_one : (b : Record) (xs : List Record) → b.kind ≡ 5 → starts (b ∷ xs) ≡ xs ∷ starts xs
starts_one b xs e = turn (eqb b.kind 5) (eq-eqb b.kind 5 e)
  where
    turn : (z : Bool) → z ≡ true
        → (elim z as (λ (t : Bool). List (List Record)) [ true ↦ xs ∷ starts xs | false ↦ starts xs ]) ≡ xs ∷ starts xs
    turn true f = refl
    turn false f = absurd cc

-- ---- names of references

-- the names of SNAME records in turn
abbrev pub snames : List Record → List (List ℕ)
snames [] = []
snames (r ∷ rs) = elim (eqb r.kind 18) [ true ↦ trimmed r.content ∷ snames rs | false ↦ snames rs ]

snames_append : (a b : List Record) → snames (a ++ b) ≡ snames a ++ snames b
snames_append [] b = refl
snames_append (r ∷ a) b = turn (eqb r.kind 18) (snames_append a b)
  where
    turn : (z : Bool) → snames (a ++ b) ≡ snames a ++ snames b
        → (elim z as (λ (t : Bool). List (List ℕ)) [
          | true ↦ trimmed r.content ∷ snames (a ++ b)
          | false ↦ snames (a ++ b)
        ]) ≡ (elim z as (λ (t : Bool). List (List ℕ)) [
          | true ↦ trimmed r.content
              ∷ snames a
          | false ↦ snames a
        ]) ++ snames b
    turn true e = ap (λ (x : List (List ℕ)). trimmed r.content ∷ x) e
    turn false e = e

pub listed_left : (t : List ℕ) (a b : List (List ℕ)) → is_listed t a ≡ true → is_listed t (a ++ b) ≡ true
listed_left t [] b e = absurd cc
listed_left t (n ∷ a) b e = turn (same t n) (listed_left t a b) e
  where
    turn : (z : Bool) → (is_listed t a ≡ true → is_listed t (a ++ b) ≡ true) → (z || is_listed t a) ≡ true
        → (z || is_listed t (a ++ b)) ≡ true
    turn true g f = refl
    turn false g f = g f

pub listed_right : (t : List ℕ) (a b : List (List ℕ)) → is_listed t b ≡ true → is_listed t (a ++ b) ≡ true
listed_right t [] b e = e
listed_right t (n ∷ a) b e = or_right (same t n) (is_listed t (a ++ b)) (listed_right t a b e)

-- the name of a part's first SNAME is among its names
field_listed : (rs : List Record) → has_kind 18 (kinds rs) ≡ true → is_listed (trimmed (field 18 rs)) (snames rs) ≡ true
field_listed [] e = absurd cc
field_listed (r ∷ rs) e = turn (eqb r.kind 18) (field_listed rs) e
  where
    turn : (z : Bool) → (has_kind 18 (kinds rs) ≡ true → is_listed (trimmed (field 18 rs)) (snames rs) ≡ true)
        → (z || has_kind 18 (kinds rs)) ≡ true
        → is_listed (trimmed (elim z as (λ (t : Bool). List ℕ) [ true ↦ r.content | false ↦ field 18 rs ]))
        (elim z as (λ (t : Bool). List (List ℕ)) [ true ↦ trimmed r.content ∷ snames rs | false ↦ snames rs ]) ≡ true
    turn true f g = ap (λ (b : Bool). b || is_listed (trimmed r.content) (snames rs)) (same_refl (trimmed r.content))
    turn false f g = f g

pub has_is : (k : ℕ) (rs : List Record) → has k rs ≡ has_kind k (kinds rs)
has_is k [] = refl
has_is k (r ∷ rs) = turn (eqb r.kind k) (has_is k rs)
  where
    turn : (z : Bool) → has k rs ≡ has_kind k (kinds rs)
        → (elim z as (λ (t : Bool). Bool) [ true ↦ true | false ↦ has k rs ]) ≡ (z || has_kind k (kinds rs))
    turn true e = refl
    turn false e = e

-- the names of the references up to ENDSTR
uses_names : (rs : List Record) (e : Record) (later : List Record) (o : ℕ) → has_kind 7 (kinds rs) ≡ false → e.kind ≡ 7
    → map (λ u. u.name) (uses_from o (rs ++ e ∷ later)) ≡ snames rs
uses_names [] e later o free k = turn (eqb e.kind 7) (eq-eqb e.kind 7 k)
  where
    turn : (z : Bool) → z ≡ true
        → map (λ u. u.name)
        (elim z as (λ (t : Bool). List Use) [
          | true ↦ []
          | false ↦ elim (eqb e.kind 18) as (λ (t : Bool). List Use) [
            | true ↦
                record { place = o; name = trimmed e.content } ∷ uses_from (o + (4 + length e.content)) later
            | false ↦ uses_from (o + (4 + length e.content)) later
          ]
        ]) ≡ []
    turn true f = refl
    turn false f = absurd cc
uses_names (r ∷ rs) e later o free k =
    let p = or_parts (eqb r.kind 7) (has_kind 7 (kinds rs)) free in
    turn (eqb r.kind 7) (eqb r.kind 18) (uses_from (o + (4 + length r.content)) (rs ++ e ∷ later)) p.0
    (uses_names rs e later (o + (4 + length r.content)) p.1 k)
  where
    turn : (z t : Bool) (us : List Use) → z ≡ false → map (λ u. u.name) us ≡ snames rs
        → map (λ u. u.name)
        (elim z as (λ (x : Bool). List Use) [
          | true ↦ []
          | false ↦ elim t as (λ (x : Bool). List Use) [
            | true ↦ record { place = o; name = trimmed r.content } ∷ us
            | false ↦ us
          ]
        ])
        ≡ (elim t as (λ (x : Bool). List (List ℕ)) [ true ↦ trimmed r.content ∷ snames rs | false ↦ snames rs ])
    turn true t us f g = absurd cc
    turn false true us f g = ap (λ (x : List (List ℕ)). trimmed r.content ∷ x) g
    turn false false us f g = g

-- ---- parts

up_to_end : (rs : List Record) (e : Record) (later : List Record) → has_kind 7 (kinds rs) ≡ false → e.kind ≡ 7
    → up_to 7 (rs ++ e ∷ later) ≡ rs
up_to_end [] e later free k = turn (eqb e.kind 7) (eq-eqb e.kind 7 k)
  where
    turn : (z : Bool) → z ≡ true
        → (elim z as (λ (t : Bool). List Record) [ true ↦ [] | false ↦ e ∷ up_to 7 later ]) ≡ []
    turn true f = refl
    turn false f = absurd cc
up_to_end (r ∷ rs) e later free k = let p = or_parts (eqb r.kind 7) (has_kind 7 (kinds rs)) free in
    turn (eqb r.kind 7) p.0 (up_to_end rs e later p.1 k)
  where
    turn : (z : Bool) → z ≡ false → up_to 7 (rs ++ e ∷ later) ≡ rs
        → (elim z as (λ (t : Bool). List Record) [ true ↦ [] | false ↦ r ∷ up_to 7 (rs ++ e ∷ later) ]) ≡ r ∷ rs
    turn true f g = absurd cc
    turn false f g = ap (λ (x : List Record). r ∷ x) g

part_one : (fs : List Record) (x : Record) (us front : List Record) → has_kind 17 (kinds fs) ≡ false → x.kind ≡ 17
    → parts 17 front (fs ++ x ∷ us) ≡ (front ++ (fs ++ x ∷ [])) ∷ parts 17 [] us
part_one [] x us front free k = turn (eqb x.kind 17) (eq-eqb x.kind 17 k)
  where
    turn : (z : Bool) → z ≡ true
        → (elim z as (λ (t : Bool). List (List Record)) [
          | true ↦ (front ++ x ∷ []) ∷ parts 17 [] us
          | false ↦ parts 17 (front ++ x ∷ []) us
        ]) ≡ (front ++ x ∷ []) ∷ parts 17 [] us
    turn true f = refl
    turn false f = absurd cc
part_one (f ∷ fs) x us front free k =
    let p = or_parts (eqb f.kind 17) (has_kind 17 (kinds fs)) free in
    turn (eqb f.kind 17) p.0 (part_one fs x us (front ++ f ∷ []) p.1 k
    ∙ ap (λ (y : List Record). y ∷ parts 17 [] us) (append_assoc front (f ∷ []) (fs ++ x ∷ [])))
  where
    turn : (z : Bool) → z ≡ false → parts 17 (front ++ f ∷ []) (fs ++ x ∷ us) ≡ (front ++ (f ∷ (fs ++ x ∷ [])))
        ∷ parts 17 [] us
        → (elim z as (λ (t : Bool). List (List Record)) [
          | true ↦ (front ++ f ∷ []) ∷ parts 17 [] (fs ++ x ∷ us)
          | false ↦ parts 17 (front ++ f ∷ []) (fs ++ x ∷ us)
        ]) ≡ (front ++ (f ∷ (fs ++ x ∷ []))) ∷ parts 17 [] us
    turn true g h = absurd cc
    turn false g h = h

-- the name of a reference is among these
abbrev pub Covered : List (List ℕ) → List Record → Type 0
Covered list q = has 10 q ≡ true → is_listed (trimmed (field 18 q)) list ≡ true

pub all_weaker : {X : Type 0} (P Q : X → Type 0) → ((x : X) → P x → Q x) → (xs : List X) → AllByRecursion P xs
    → AllByRecursion Q xs
all_weaker P Q f [] all = tt
all_weaker P Q f (x ∷ xs) all = (f x all.0, all_weaker P Q f xs all.1)

no_reference : (q : List Record) (list : List (List ℕ)) → has_kind 10 (kinds q) ≡ false → Covered list q
no_reference q list e h = absurd (let f : has 10 q ≡ false = has_is 10 q ∙ e in cc)

covered_element : (q : List Record) → Speaks element (kinds q) → Covered (snames q) q
covered_element q (inl h) = no_reference q (snames q) (lacks 10 boundary (kinds q) refl h)
covered_element q (inr (inl h)) = λ e. field_listed q (holds 18 reference (kinds q) refl h)
covered_element q (inr (inr h)) = no_reference q (snames q) (lacks 10 text (kinds q) refl h)

first_cut : (xs us : List Record) → Ends 17 (kinds xs) → parts 17 [] (xs ++ us) ≡ xs ∷ parts 17 [] us
first_cut xs us e =
    let s = split xs e.front (17 ∷ []) e.whole in
    let o = single 17 s.ys s.rests in
    let w : xs ≡ s.xs ++ o.0 ∷ [] = s.whole ∙ ap (λ (y : List Record). s.xs ++ y) o.1 in
    ap (λ (y : List Record). parts 17 [] (y ++ us)) w ∙ ap (λ (y : List Record). parts 17 [] y)
    (append_assoc s.xs (o.0 ∷ []) us)
    ∙ part_one s.xs o.0 us [] (ap (λ (y : List ℕ). has_kind 17 y) s.fronts ∙ e.free) o.2
    ∙ ap (λ (y : List Record). y ∷ parts 17 [] us) (sym w)

-- an element by its kinds
abbrev pub SpokenIn : Language → List Record → Type 0
SpokenIn each q = Speaks each (kinds q)

-- the elements of a structure, and its references, which are those of its elements in turn
pub record IsShapedIn (each : Language) (p : List Record) : Type 0 where
  pub spoken : AllByRecursion (SpokenIn each) (element_parts p)
  pub names : (o : ℕ) → map (λ u. u.name) (uses_from o p) ≡ flat_map snames (element_parts p)

pub snames_none : (xs : List Record) → has_kind 18 (kinds xs) ≡ false → snames xs ≡ []
snames_none [] e = refl
snames_none (x ∷ xs) e = let p = or_parts (eqb x.kind 18) (has_kind 18 (kinds xs)) e in
    turn (eqb x.kind 18) p.0 (snames_none xs p.1)
  where
    turn : (z : Bool) → z ≡ false → snames xs ≡ []
        → (elim z as (λ (t : Bool). List (List ℕ)) [ true ↦ trimmed x.content ∷ snames xs | false ↦ snames xs ]) ≡ []
    turn true f g = absurd cc
    turn false f g = g

pub field_behind : (k : ℕ) (xs ys : List Record) → has_kind k (kinds xs) ≡ false → field k (xs ++ ys) ≡ field k ys
field_behind k [] ys e = refl
field_behind k (x ∷ xs) ys e =
    let p = or_parts (eqb x.kind k) (has_kind k (kinds xs)) e in
    ap (λ (t : Bool). elim t as (λ (_ : Bool). List ℕ) [ true ↦ x.content | false ↦ field k (xs ++ ys) ]) p.0
    ∙ field_behind k xs ys p.1

name_here : (c : Record) (ys : List Record) → c.kind ≡ 18 → has_kind 18 (kinds ys) ≡ false
    → snames (c ∷ ys) ≡ trimmed c.content ∷ []
name_here c ys e f =
    ap (λ (k : ℕ). elim (eqb k 18) as (λ (_ : Bool). List (List ℕ)) [
      | true ↦ trimmed c.content ∷ snames ys
      | false ↦ snames ys
    ]) e
    ∙ ap (λ (x : List (List ℕ)). trimmed c.content ∷ x) (snames_none ys f)

field_here : (c : Record) (ys : List Record) → c.kind ≡ 18 → field 18 (c ∷ ys) ≡ c.content
field_here c ys e = ap (λ (k : ℕ). elim (eqb k 18) as (λ (_ : Bool). List ℕ) [ true ↦ c.content | false ↦ field 18 ys ])
    e

one_name : (q xs ys : List Record) (c : Record) → q ≡ xs ++ c ∷ ys → c.kind ≡ 18 → has_kind 18 (kinds xs) ≡ false
    → has_kind 18 (kinds ys) ≡ false → snames q ≡ trimmed (field 18 q) ∷ []
one_name q xs ys c w e f g =
    ap (λ (x : List Record). snames x) w ∙ snames_append xs (c ∷ ys)
    ∙ ap (λ (x : List (List ℕ)). x ++ snames (c ∷ ys)) (snames_none xs f) ∙ name_here c ys e g
    ∙ ap (λ (x : List ℕ). trimmed x ∷ [])
    (sym (ap (λ (x : List Record). field 18 x) w ∙ field_behind 18 xs (c ∷ ys) f ∙ field_here c ys e))

-- the name of an element that has one SNAME, behind its first record and its flags
pub named_once : (o : ℕ) (l : Language) (q : List Record) → eqb o 18 ≡ false → mentions 18 l ≡ false
    → Speaks (One o >> flags >> One 18 >> l) (kinds q) → snames q ≡ trimmed (field 18 q) ∷ []
named_once o l q e f h =
    let a = headed o (flags >> One 18 >> l) q h in
    let b = a.others in
    let s = split a.rest b.0 b.1 b.2 in
    let c = headed 18 l s.ys (subst (λ (x : List ℕ). Speaks (One 18 >> l) x) (sym s.rests) b.4) in
    let whole : q ≡ (a.head ∷ s.xs) ++ c.head ∷ c.rest = a.whole
    ∙ ap (λ (x : List Record). a.head ∷ x) (s.whole ∙ ap (λ (x : List Record). s.xs ++ x) c.whole) in
    let free : has_kind 18 (kinds (a.head ∷ s.xs)) ≡ false =
    (λ i. eqb (a.kind i) 18 || has_kind 18 (s.fronts i)) ∙ ap (λ (z : Bool). z || has_kind 18 b.0) e
    ∙ lacks 18 flags b.0 refl b.3 in
    one_name q (a.head ∷ s.xs) c.rest c.head whole c.kind free (lacks 18 l (kinds c.rest) f c.others)

abbrev inner_of : Language → Language
inner_of each = Then (One 6) (Then (Many each) (One 7))

module _ (each : Language) (last : ends_with 17 each ≡ true) (closed : mentions 7 each ≡ false)
    (flat : mentions 5 each ≡ false) where
  elements_spoken : (w : List ℕ) → Repeats (Speaks each) w → (els : List Record) → kinds els ≡ w
      → AllByRecursion (SpokenIn each) (parts 17 [] els)
  elements_spoken w (none w' e) els k = subst (λ (x : List Record). AllByRecursion (SpokenIn each) (parts 17 [] x))
      (sym (no_kinds els (k ∙ e))) tt
  elements_spoken w (more w' front rest e h r) els k =
      let s = split els front rest (k ∙ e) in
      let sp : Speaks each (kinds s.xs) = subst (λ (x : List ℕ). Speaks each x) (sym s.fronts) h in
      subst (λ (x : List (List Record)). AllByRecursion (SpokenIn each) x)
      (sym (ap (λ (x : List Record). parts 17 [] x) s.whole
      ∙ first_cut s.xs s.ys (ends_so 17 each (kinds s.xs) last sp))) (sp, elements_spoken rest r s.ys s.rests)

  elements_named : (w : List ℕ) → Repeats (Speaks each) w → (els : List Record) → kinds els ≡ w
      → snames els ≡ flat_map snames (parts 17 [] els)
  elements_named w (none w' e) els k = let q : els ≡ [] = no_kinds els (k ∙ e) in
      ap (λ (x : List Record). snames x) q ∙ sym (ap (λ (x : List Record). flat_map snames (parts 17 [] x)) q)
  elements_named w (more w' front rest e h r) els k =
      let s = split els front rest (k ∙ e) in
      let sp : Speaks each (kinds s.xs) = subst (λ (x : List ℕ). Speaks each x) (sym s.fronts) h in
      ap (λ (x : List Record). snames x) s.whole ∙ snames_append s.xs s.ys
      ∙ ap (λ (x : List (List ℕ)). snames s.xs ++ x) (elements_named rest r s.ys s.rests)
      ∙ sym (flat_map-cons snames s.xs (parts 17 [] s.ys))
      ∙ ap (λ (x : List (List Record)). flat_map snames x)
      (sym (ap (λ (x : List Record). parts 17 [] x) s.whole
      ∙ first_cut s.xs s.ys (ends_so 17 each (kinds s.xs) last sp)))

  shaped : (xs later : List Record) → Speaks (inner_of each) (kinds xs) → IsShapedIn each (xs ++ later)
  shaped xs later h =
      let a = headed 6 (Then (Many each) (One 7)) xs h in
      let b = a.others in
      let s = split a.rest b.0 b.1 b.2 in
      let o = single 7 s.ys (s.rests ∙ b.4) in
      let els : List Record = s.xs in
      let w : xs ++ later ≡ a.head ∷ (els ++ o.0 ∷ later) =
      ap (λ (x : List Record). x ++ later)
      (a.whole ∙ ap (λ (x : List Record). a.head ∷ x) (s.whole ∙ ap (λ (x : List Record). els ++ x) o.1))
      ∙ ap (λ (x : List Record). a.head ∷ x) (append_assoc els (o.0 ∷ []) later) in
      let free : has_kind 7 (kinds els) ≡ false = ap (λ (x : List ℕ). has_kind 7 x) s.fronts
      ∙ lacks 7 (Many each) b.0 closed b.3 in
      let head_free : has_kind 7 (kinds (a.head ∷ els)) ≡ false =
      ap (λ (k : ℕ). eqb k 7 || has_kind 7 (kinds els)) a.kind ∙ free in
      let head_named : snames (a.head ∷ els) ≡ snames els =
      snames_append (a.head ∷ []) els ∙ ap (λ (x : List (List ℕ)). x ++ snames els)
      (snames_none (a.head ∷ []) (ap (λ (k : ℕ). eqb k 18 || false) a.kind)) in
      let cut : element_parts (xs ++ later) ≡ parts 17 [] els =
      ap (λ (x : List Record). element_parts x) w ∙ ap (λ (x : List Record). parts 17 [] x)
      (up_to_end els o.0 later free o.2) in
      record {
        spoken = subst (λ (x : List (List Record)). AllByRecursion (SpokenIn each) x) (sym cut)
            (elements_spoken b.0 b.3 els s.fronts);
        names = λ n. ap (λ (x : List Record). map (λ (u : Use). u.name) (uses_from n x)) w
            ∙ uses_names (a.head ∷ els) o.0 later n head_free o.2
            ∙ head_named ∙ elements_named b.0 b.3 els s.fronts
            ∙ ap (λ (x : List (List Record)). flat_map snames x) (sym cut);
      }

  one_structure : (xs later : List Record) → Speaks (structure_of_each each) (kinds xs)
      → AllByRecursion (IsShapedIn each) (starts later) → AllByRecursion (IsShapedIn each) (starts (xs ++ later))
  one_structure xs later h all =
      let a = headed 5 (inner_of each) xs h in
      let none_inside : mentions 5 (inner_of each) ≡ false = ap (λ (b : Bool). b || false) flat in
      let w : starts (xs ++ later) ≡ (a.rest ++ later) ∷ starts later =
      ap (λ (x : List Record). starts (x ++ later)) a.whole ∙ starts_one a.head (a.rest ++ later) a.kind
      ∙ ap (λ (x : List (List Record)). (a.rest ++ later) ∷ x)
      (starts_none a.rest later (lacks 5 (inner_of each) (kinds a.rest) none_inside a.others)) in
      subst (λ (x : List (List Record)). AllByRecursion (IsShapedIn each) x) (sym w) (shaped a.rest later a.others, all)

  structures_shaped : (w : List ℕ) → Repeats (Speaks (structure_of_each each)) w → (zs later : List Record)
      → kinds zs ≡ w → AllByRecursion (IsShapedIn each) (starts later)
      → AllByRecursion (IsShapedIn each) (starts (zs ++ later))
  structures_shaped w (none w' e) zs later k all = subst
      (λ (x : List Record). AllByRecursion (IsShapedIn each) (starts (x ++ later))) (sym (no_kinds zs (k ∙ e))) all
  structures_shaped w (more w' front rest e h r) zs later k all =
      let s = split zs front rest (k ∙ e) in
      let t = structures_shaped rest r s.ys later s.rests all in
      let u = one_structure s.xs (s.ys ++ later)
      (subst (λ (x : List ℕ). Speaks (structure_of_each each) x) (sym s.fronts) h) t in
      subst (λ (x : List Record). AllByRecursion (IsShapedIn each) (starts x))
      (sym (ap (λ (x : List Record). x ++ later) s.whole ∙ append_assoc s.xs s.ys later)) u

record Peeled (b : Language) (rs : List Record) : Type 0 where
  rest : List Record
  others : Speaks b (kinds rest)
  same_starts : starts rs ≡ starts rest

-- the records behind a part with no BGNSTR
peel : (a b : Language) (rs : List Record) → mentions 5 a ≡ false → Peeled (Then a b) rs → Peeled b rs
peel a b rs e p =
    let h = p.others in
    let s = split p.rest h.0 h.1 h.2 in
    record {
      rest = s.ys;
      others = subst (λ (x : List ℕ). Speaks b x) (sym s.rests) h.4;
      same_starts = p.same_starts ∙ ap (λ (x : List Record). starts x) s.whole
          ∙ starts_none s.xs s.ys (ap (λ (x : List ℕ). has_kind 5 x) s.fronts ∙ lacks 5 a h.0 e h.3);
    }

abbrev all_lack : ℕ → List Language → Bool
all_lack k [] = true
all_lack k (a ∷ others) = not (mentions k a) && all_lack k others

lack_parts : (x y : Bool) → (not x && y) ≡ true → (x ≡ false) × (y ≡ true)
lack_parts false y e = (refl, e)
lack_parts true y e = absurd cc

-- the records behind parts in turn with no BGNSTR
peel_all : (before : List Language) (b : Language) (rs : List Record) → all_lack 5 before ≡ true
    → Peeled (in_turn before b) rs → Peeled b rs
peel_all [] b rs e p = p
peel_all (a ∷ before) b rs e p =
    let q = lack_parts (mentions 5 a) (all_lack 5 before) e in
    peel_all before b rs q.1 (peel a (in_turn before b) rs q.0 p)

-- the structures of a library, and its end
abbrev body : Language → Language
body each = Then (Many (structure_of_each each)) (One 4)

module _ (each : Language) (last : ends_with 17 each ≡ true) (closed : mentions 7 each ≡ false)
    (flat : mentions 5 each ≡ false) where
  body_shaped : (rs : List Record) → Peeled (body each) rs → AllByRecursion (IsShapedIn each) (starts rs)
  body_shaped rs p =
      let h = p.others in
      let s = split p.rest h.0 h.1 h.2 in
      let none_left : starts s.ys ≡ [] = ap (λ (x : List Record). starts x) (sym (append-nil s.ys))
      ∙ starts_none s.ys [] (ap (λ (x : List ℕ). has_kind 5 x) (s.rests ∙ h.4)) in
      let all = structures_shaped each last closed flat h.0 h.3 s.xs s.ys s.fronts
      (subst (λ (x : List (List Record)). AllByRecursion (IsShapedIn each) x) (sym none_left) tt) in
      subst (λ (x : List (List Record)). AllByRecursion (IsShapedIn each) x)
      (sym (p.same_starts ∙ ap (λ (x : List Record). starts x) s.whole)) all

  pub shaped_in : (rs : List Record) → Speaks (stream_of_each each) (kinds rs)
      → AllByRecursion (IsShapedIn each) (starts rs)
  shaped_in rs h =
      body_shaped rs (peel_all library_front (body each) rs refl (record { rest = rs; others = h; same_starts = refl }))

-- ---- strict streams

abbrev pub Spoken : List Record → Type 0
Spoken q = Speaks element (kinds q)

-- the references of a structure, and that each element which is one is among them
pub record IsShaped (p : List Record) : Type 0 where
  pub spoken : AllByRecursion Spoken (element_parts p)
  pub list : List (List ℕ)
  pub names : (o : ℕ) → map (λ u. u.name) (uses_from o p) ≡ list
  pub covered : AllByRecursion (Covered list) (element_parts p)

parts_covered : (qs : List (List Record)) → AllByRecursion Spoken qs → AllByRecursion (Covered (flat_map snames qs)) qs
parts_covered [] all = tt
parts_covered (q ∷ qs) all =
    let names : flat_map snames (q ∷ qs) ≡ snames q ++ flat_map snames qs = flat_map-cons snames q qs in (
      λ e. subst (λ (x : List (List ℕ)). is_listed (trimmed (field 18 q)) x ≡ true) (sym names)
          (listed_left (trimmed (field 18 q)) (snames q) (flat_map snames qs) (covered_element q all.0 e)),
      all_weaker (Covered (flat_map snames qs)) (Covered (flat_map snames (q ∷ qs)))
          (λ x f e. subst (λ (y : List (List ℕ)). is_listed (trimmed (field 18 x)) y ≡ true) (sym names)
          (listed_right (trimmed (field 18 x)) (snames q) (flat_map snames qs) (f e)))
          qs (parts_covered qs all.1),
    )

strict_shaped : (p : List Record) → IsShapedIn element p → IsShaped p
strict_shaped p s = record {
  spoken = s.spoken;
  list = flat_map snames (element_parts p);
  names = s.names;
  covered = parts_covered (element_parts p) s.spoken;
}

pub sentence_shaped : (rs : List Record) → Speaks stream (kinds rs) → AllByRecursion IsShaped (starts rs)
sentence_shaped rs h = all_weaker (IsShapedIn element) IsShaped strict_shaped (starts rs)
    (shaped_in element refl refl refl rs h)
