-- Records of a wide stream with the values that they must have, element by element.
use Rattle.std.proofs.Common.{◌≡◌, ℕ, ◌+◌, List, [], ◌∷◌, ◌++◌, Bool, true, false, eqb, ◌||◌, length, None, refl, sym}
use Rattle.std.proofs.Common.{ap, subst, ◌∙◌}
use Rattle.std.proofs.lemmas.Bool.{eqb-true, or_parts}
use Rattle.gds_records.specs.Language.{Language, Then, Speaks}
use Rattle.gds_records.specs.Records.{Record, kinds, trimmed}
use Rattle.gds_records.specs.Table.{wide_table, has_length_in}
use Rattle.gds_records.specs.Values.{is_structure_name}
use Rattle.gds_records.specs.WideValues.{wide_opener, last_colrow, wide_fault_in}
use Rattle.gds_records.specs.Drawing.{field}
use Rattle.gds_records.specs.Profiles.{wide}
use Rattle.gds_records.specs.Profiled.{AreGoodIn}
use Rattle.gds_read.proofs.Kept.{From, Kept}
use Rattle.gds_records.proofs.Sentences.{has_kind, mentions, lacks}
use Rattle.gds_read.proofs.Shaped.{Headed, split, field_behind}

-- the record that opened the element, and the content of the last COLROW
abbrev pub State : Type 0
State = ℕ × List ℕ

abbrev pub next : State → Record → State
next s r = (wide_opener s.0 (r ∷ []), last_colrow s.1 (r ∷ []))

pub record IsValued (s : State) (r : Record) : Type 0 where
  pub taken : Bool
  pub value : wide_fault_in s.0 s.1 taken r ≡ None
  pub long : has_length_in wide_table r.kind (4 + length r.content) ≡ true

abbrev opens : ℕ → Bool
opens k = eqb k 8 || eqb k 9 || eqb k 10 || eqb k 11 || eqb k 12

opener_more : (last : ℕ) (xs : List Record) (r : Record) → wide_opener last (xs ++ r ∷ []) ≡ wide_opener
    (wide_opener last xs) (r ∷ [])
opener_more last [] r = refl
opener_more last (x ∷ xs) r = turn (opens x.kind) (opener_more x.kind xs r) (opener_more last xs r)
  where
    turn : (z : Bool) → wide_opener x.kind (xs ++ r ∷ []) ≡ wide_opener (wide_opener x.kind xs) (r ∷ [])
        → wide_opener last (xs ++ r ∷ []) ≡ wide_opener (wide_opener last xs) (r ∷ [])
        → (elim z as (λ (t : Bool). ℕ) [
          | true ↦ wide_opener x.kind (xs ++ r ∷ [])
          | false ↦ wide_opener last (xs ++ r ∷ [])
        ])
        ≡ wide_opener (elim z as (λ (t : Bool). ℕ) [ true ↦ wide_opener x.kind xs | false ↦ wide_opener last xs ])
        (r ∷ [])
    turn true e f = e
    turn false e f = f

colrow_more : (last : List ℕ) (xs : List Record) (r : Record)
    → last_colrow last (xs ++ r ∷ []) ≡ last_colrow (last_colrow last xs) (r ∷ [])
colrow_more last [] r = refl
colrow_more last (x ∷ xs) r = turn (eqb x.kind 0x13) (colrow_more x.content xs r) (colrow_more last xs r)
  where
    turn : (z : Bool) → last_colrow x.content (xs ++ r ∷ []) ≡ last_colrow (last_colrow x.content xs) (r ∷ [])
        → last_colrow last (xs ++ r ∷ []) ≡ last_colrow (last_colrow last xs) (r ∷ [])
        → (elim z as (λ (t : Bool). List ℕ) [
          | true ↦ last_colrow x.content (xs ++ r ∷ [])
          | false ↦ last_colrow last (xs ++ r ∷ [])
        ])
        ≡ last_colrow
        (elim z as (λ (t : Bool). List ℕ) [ true ↦ last_colrow x.content xs | false ↦ last_colrow last xs ])
        (r ∷ [])
    turn true e f = e
    turn false e f = f

valued_from : (before rs : List Record) → AreGoodIn wide before rs
    → From next IsValued (wide_opener 0 before, last_colrow [] before) rs
valued_from before [] g = tt
valued_from before (r ∷ rs) g = (
  record { taken = is_structure_name (trimmed r.content) before; value = g.0.value; long = g.0.long },
  subst (λ (s : State). From next IsValued s rs) (λ i. (opener_more 0 before r i, colrow_more [] before r i))
      (valued_from (before ++ r ∷ []) rs g.1),
)

pub all_valued : (rs : List Record) → AreGoodIn wide [] rs → From next IsValued (0, []) rs
all_valued rs g = valued_from [] rs g

-- ---- records that open no element

pub record Quiet (rs : List Record) : Type 0 where
  pub boundary : has_kind 8 (kinds rs) ≡ false
  pub path : has_kind 9 (kinds rs) ≡ false
  pub reference : has_kind 10 (kinds rs) ≡ false
  pub array : has_kind 11 (kinds rs) ≡ false
  pub text : has_kind 12 (kinds rs) ≡ false

abbrev pub is_quiet : Language → Bool
is_quiet l = mentions 8 l || mentions 9 l || mentions 10 l || mentions 11 l || mentions 12 l

five_false : (a b c d e : Bool) → (a || b || c || d || e) ≡ false → (a ≡ false) × (b ≡ false) × (c ≡ false)
    × (d ≡ false) × (e ≡ false)
five_false a b c d e h =
    let p = or_parts (a || b || c || d) e h in
    let q = or_parts (a || b || c) d p.0 in
    let r = or_parts (a || b) c q.0 in
    let s = or_parts a b r.0 in
    (s.0, s.1, r.1, q.1, p.1)

false_five : (a b c d e : Bool) → a ≡ false → b ≡ false → c ≡ false → d ≡ false → e ≡ false
    → (a || b || c || d || e) ≡ false
false_five true b c d e f g h i j = absurd cc
false_five false true c d e f g h i j = absurd cc
false_five false false true d e f g h i j = absurd cc
false_five false false false true e f g h i j = absurd cc
false_five false false false false e f g h i j = j

pub quiet : (l : Language) (rs : List Record) → is_quiet l ≡ false → Speaks l (kinds rs) → Quiet rs
quiet l rs e h =
    let p = five_false (mentions 8 l) (mentions 9 l) (mentions 10 l) (mentions 11 l) (mentions 12 l) e in
    record {
      boundary = lacks 8 l (kinds rs) p.0 h;
      path = lacks 9 l (kinds rs) p.1 h;
      reference = lacks 10 l (kinds rs) p.2 h;
      array = lacks 11 l (kinds rs) p.3 h;
      text = lacks 12 l (kinds rs) p.4 h;
    }

module _ (r : Record) (rs : List Record) (q : Quiet (r ∷ rs)) where
  quiet_head : opens r.kind ≡ false
  quiet_head =
      false_five (eqb r.kind 8) (eqb r.kind 9) (eqb r.kind 10) (eqb r.kind 11) (eqb r.kind 12)
      (or_parts (eqb r.kind 8) (has_kind 8 (kinds rs)) q.boundary).0
      (or_parts (eqb r.kind 9) (has_kind 9 (kinds rs)) q.path).0
      (or_parts (eqb r.kind 10) (has_kind 10 (kinds rs)) q.reference).0
      (or_parts (eqb r.kind 11) (has_kind 11 (kinds rs)) q.array).0
      (or_parts (eqb r.kind 12) (has_kind 12 (kinds rs)) q.text).0

  quiet_rest : Quiet rs
  quiet_rest = record {
    boundary = (or_parts (eqb r.kind 8) (has_kind 8 (kinds rs)) q.boundary).1;
    path = (or_parts (eqb r.kind 9) (has_kind 9 (kinds rs)) q.path).1;
    reference = (or_parts (eqb r.kind 10) (has_kind 10 (kinds rs)) q.reference).1;
    array = (or_parts (eqb r.kind 11) (has_kind 11 (kinds rs)) q.array).1;
    text = (or_parts (eqb r.kind 12) (has_kind 12 (kinds rs)) q.text).1;
  }

  opener_stays : (last : ℕ) → wide_opener last (r ∷ []) ≡ last
  opener_stays last = ap (λ (t : Bool). elim t as (λ (_ : Bool). ℕ) [ true ↦ r.kind | false ↦ last ]) quiet_head

-- ---- fields

-- the first record of a kind
pub record Found (k o : ℕ) (colrow : List ℕ) (rs : List Record) : Type 0 where
  pub it : Record
  pub kind : it.kind ≡ k
  pub content : field k rs ≡ it.content
  pub valued : IsValued (o, colrow) it

pub found : (k o : ℕ) (colrow : List ℕ) (rs : List Record) → From next IsValued (o, colrow) rs → Quiet rs
    → has_kind 0x13 (kinds rs) ≡ false → has_kind k (kinds rs) ≡ true → Found k o colrow rs
found k o colrow [] g q c h = absurd cc
found k o colrow (r ∷ rs) g q c h =
    let d = or_parts (eqb r.kind 0x13) (has_kind 0x13 (kinds rs)) c in
    let e : last_colrow colrow (r ∷ []) ≡ colrow =
    ap (λ (t : Bool). elim t as (λ (_ : Bool). List ℕ) [ true ↦ r.content | false ↦ colrow ]) d.0 in
    let s : next (o, colrow) r ≡ (o, colrow) = λ i. (opener_stays r rs q o i, e i) in
    turn (eqb r.kind k) refl h (found k o colrow rs (subst (λ (t : State). From next IsValued t rs) s g.1)
    (quiet_rest r rs q) d.1)
  where
    turn : (t : Bool) → eqb r.kind k ≡ t → (t || has_kind k (kinds rs)) ≡ true
        → (has_kind k (kinds rs) ≡ true → Found k o colrow rs) → Found k o colrow (r ∷ rs)
    turn true e p f = record {
      it = r;
      kind = eqb-true r.kind k e;
      content = ap (λ (t : Bool). elim t as (λ (_ : Bool). List ℕ) [ true ↦ r.content | false ↦ field k rs ]) e;
      valued = g.0;
    }
    turn false e p f =
        let w = f p in
        record {
          it = w.it;
          kind = w.kind;
          content =
              ap (λ (t : Bool). elim t as (λ (_ : Bool). List ℕ) [ true ↦ r.content | false ↦ field k rs ]) e
              ∙ w.content;
          valued = w.valued;
        }

-- an element behind its first record
pub record Opened (o : ℕ) (l : Language) (q : List Record) : Type 0 where
  pub rest : List Record
  pub others : Speaks l (kinds rest)
  pub colrow : List ℕ
  pub good : From next IsValued (o, colrow) rest
  pub same_field : (k : ℕ) → eqb o k ≡ false → field k q ≡ field k rest

pub open_with : (o : ℕ) (l : Language) (q : List Record) → opens o ≡ true → Kept next IsValued q → Headed o l q
    → Opened o l q
open_with o l q op g h =
    let w : From next IsValued g.state (h.head ∷ h.rest) = subst (λ (x : List Record). From next IsValued g.state x)
    h.whole g.good in
    let e : wide_opener g.state.0 (h.head ∷ []) ≡ o =
    ap (λ (x : ℕ). elim (opens x) as (λ (_ : Bool). ℕ) [ true ↦ x | false ↦ g.state.0 ]) h.kind
    ∙ ap (λ (t : Bool). elim t as (λ (_ : Bool). ℕ) [ true ↦ o | false ↦ g.state.0 ]) op in
    record {
      rest = h.rest;
      others = h.others;
      colrow = last_colrow g.state.1 (h.head ∷ []);
      good = subst (λ (x : ℕ). From next IsValued (x, last_colrow g.state.1 (h.head ∷ [])) h.rest) e w.1;
      same_field = λ k e. ap (λ (x : List Record). field k x) h.whole
          ∙ ap (λ (t : Bool). elim t as (λ (_ : Bool). List ℕ) [ true ↦ h.head.content | false ↦ field k h.rest ])
          (ap (λ (x : ℕ). eqb x k) h.kind ∙ e);
    }

-- ---- an array's COLROW, and its XY behind it

back_quiet : (o : ℕ) (colrow : List ℕ) (xs ys : List Record) → Quiet xs → From next IsValued (o, colrow) (xs ++ ys)
    → (c : List ℕ) × From next IsValued (o, c) ys
back_quiet o colrow [] ys q g = (colrow, g)
back_quiet o colrow (x ∷ xs) ys q g =
    back_quiet o (last_colrow colrow (x ∷ [])) xs ys (quiet_rest x xs q)
    (subst (λ (t : ℕ). From next IsValued (t, last_colrow colrow (x ∷ [])) (xs ++ ys)) (opener_stays x xs q o) g.1)

-- records from which on this language goes, with the fields of all for COLROW and XY
pub record At (o : ℕ) (l : Language) (q : List Record) : Type 0 where
  pub rest : List Record
  pub others : Speaks l (kinds rest)
  pub colrow : List ℕ
  pub good : From next IsValued (o, colrow) rest
  pub counts : field 0x13 q ≡ field 0x13 rest
  pub points : field 16 q ≡ field 16 rest

pub skip : (o : ℕ) (a l : Language) (q : List Record) → is_quiet a ≡ false → mentions 0x13 a ≡ false
    → mentions 16 a ≡ false → At o (Then a l) q → At o l q
skip o a l q e f g h =
    let t = h.others in
    let s = split h.rest t.0 t.1 t.2 in
    let front : Speaks a (kinds s.xs) = subst (λ (x : List ℕ). Speaks a x) (sym s.fronts) t.3 in
    let b = back_quiet o h.colrow s.xs s.ys (quiet a s.xs e front)
    (subst (λ (x : List Record). From next IsValued (o, h.colrow) x) s.whole h.good) in
    record {
      rest = s.ys;
      others = subst (λ (x : List ℕ). Speaks l x) (sym s.rests) t.4;
      colrow = b.0;
      good = b.1;
      counts = h.counts ∙ ap (λ (x : List Record). field 0x13 x) s.whole
          ∙ field_behind 0x13 s.xs s.ys (lacks 0x13 a (kinds s.xs) f front);
      points = h.points ∙ ap (λ (x : List Record). field 16 x) s.whole
          ∙ field_behind 16 s.xs s.ys (lacks 16 a (kinds s.xs) g front);
    }
