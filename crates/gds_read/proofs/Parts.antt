-- The records of elements, cut after each ENDEL.
use Rattle.std.proofs.Common.{◌≡◌, ◌≢◌, ℕ, ◌+◌, ◌<◌, List, [], ◌∷◌, ◌++◌, map, take, drop, length, Bool, true, false}
use Rattle.std.proofs.Common.{eqb, refl, sym, ap, subst, ◌∙◌, append_assoc, arith}
use Rattle.std.specs.List.{flat_map, AllByRecursion}
use Rattle.std.proofs.lemmas.List.{append-nil, take_at}
use Rattle.std.proofs.lemmas.List.Concat.{flat_map-append, flat_map-cons}
use Rattle.std.proofs.Math.Seq.{take-add, drop-drop}
use Rattle.std.proofs.lemmas.Bool.{eq-eqb, ne_eqb}
use Rattle.gds_records.specs.Records.{Record, spelled}
use Rattle.gds_records.specs.Faults.{here_record, kind_of, length_of}
use Rattle.gds_records.specs.Drawing.{up_to, parts, element_parts}
use Rattle.gds_read.specs.Code.Decoding.{IsShortRecord, IsSpelled, records_in}
use Rattle.gds_read.proofs.Decoded.{goes, records_are, records_none, record_back, length_spelled, spelled_length}
use Rattle.gds_read.proofs.Cursors.{none_left}

record FrontText (b : List ℕ) : Type 0 where
  text : take (length_of b) b ≡ spelled (here_record b)
  short : IsShortRecord (here_record b)

front_text : (b : List ℕ) (rs : List Record) → b ≡ flat_map spelled rs → AllByRecursion IsShortRecord rs → 0 < length b
    → FrontText b
front_text b [] e all h = absurd (omega (arith, ap (λ (x : List ℕ). length x) e))
front_text b (r ∷ rs) e all h =
    let w : b ≡ spelled r ++ flat_map spelled rs = e ∙ flat_map-cons spelled r rs in
    let here : here_record b ≡ r = ap (λ (x : List ℕ). here_record x) w ∙ record_back r (flat_map spelled rs) all.0 in
    let n : length_of b ≡ 4 + length r.content = ap (λ (x : List ℕ). length_of x) w
    ∙ length_spelled r (flat_map spelled rs) all.0 in
    record {
      text = ap (λ (x : List ℕ). take (length_of b) x) w ∙ take_at (spelled r) (flat_map spelled rs) (length_of b)
          (omega (arith, spelled_length r, n)) ∙ ap (λ (x : Record). spelled x) (sym here);
      short = subst (λ (x : Record). IsShortRecord x) (sym here) all.0;
    }

all_more : (rs : List Record) (r : Record) → AllByRecursion IsShortRecord rs → IsShortRecord r
    → AllByRecursion IsShortRecord (rs ++ r ∷ [])
all_more [] r all h = (h, tt)
all_more (x ∷ rs) r all h = (all.0, all_more rs r all.1 h)

-- records in front, and one more behind them
pub record Grown (part : List ℕ) (size n : ℕ) : Type 0 where
  pub spelled_front : IsSpelled (take (size + n) part)
  pub front : records_in (take (size + n) part) ≡ records_in (take size part) ++ here_record (drop size part) ∷ []

pub grown : (part : List ℕ) (size n : ℕ) → IsSpelled (take size part) → IsSpelled (drop size part)
    → 0 < length (drop size part) → n ≡ length_of (drop size part) → Grown part size n
grown part size n s t h e =
    let f = front_text (drop size part) t.records t.whole t.short h in
    let w : take (size + n) part ≡ flat_map spelled (s.records ++ here_record (drop size part) ∷ []) =
    take-add size n part ∙ ap (λ (x : List ℕ). x ++ take n (drop size part)) s.whole
    ∙ ap (λ (x : List ℕ). flat_map spelled s.records ++ x)
    (ap (λ (k : ℕ). take k (drop size part)) e ∙ f.text ∙ sym (append-nil (spelled (here_record (drop size part)))))
    ∙ sym (flat_map-append spelled s.records (here_record (drop size part) ∷ [])) in
    let front : IsSpelled (take (size + n) part) =
    record {
      records = s.records ++ here_record (drop size part) ∷ [];
      whole = w;
      short = all_more s.records (here_record (drop size part)) s.short f.short;
    } in
    record {
      spelled_front = front;
      front = records_are (take (size + n) part) front
          ∙ ap (λ (x : List Record). x ++ here_record (drop size part) ∷ []) (sym (records_are (take size part) s));
    }

abbrev up_turn : Bool → Record → List Record → List Record
up_turn z r rs = elim z as (λ (x : Bool). List Record) [ true ↦ [] | false ↦ r ∷ rs ]

up_stop : (z : Bool) (r : Record) (rs : List Record) → z ≡ true → up_turn z r rs ≡ []
up_stop true r rs e = refl
up_stop false r rs e = absurd cc

up_on : (z : Bool) (r : Record) (rs : List Record) → z ≡ false → up_turn z r rs ≡ r ∷ rs
up_on true r rs e = absurd cc
up_on false r rs e = refl

abbrev parts_turn : Bool → List Record → List (List Record) → List (List Record) → List (List Record)
parts_turn z whole ps qs = elim z as (λ (x : Bool). List (List Record)) [ true ↦ whole ∷ ps | false ↦ qs ]

parts_end : (z : Bool) (whole : List Record) (ps qs : List (List Record)) → z ≡ true
    → parts_turn z whole ps qs ≡ whole ∷ ps
parts_end true whole ps qs e = refl
parts_end false whole ps qs e = absurd cc

parts_on : (z : Bool) (whole : List Record) (ps qs : List (List Record)) → z ≡ false → parts_turn z whole ps qs ≡ qs
parts_on true whole ps qs e = absurd cc
parts_on false whole ps qs e = refl

-- what is left of a structure's elements, where these records of one have been passed
abbrev pub left_parts : List ℕ → ℕ → List (List Record)
left_parts part size = parts 17 (records_in (take size part)) (up_to 7 (records_in (drop size part)))

module _ {A : Type 0} (f : List Record → A) (part : List ℕ) (size : ℕ) (t : IsSpelled (drop size part)) where
  pub all_none : (done total : List A) → length (drop size part) ≡ 0 → done ++ map f (left_parts part size) ≡ total
      → done ≡ total
  all_none done total e same = sym (append-nil done)
      ∙ ap (λ (x : List Record). done ++ map f (parts 17 (records_in (take size part)) (up_to 7 x)))
      (sym (none_left (drop size part) e)) ∙ same

  module _ (h : 0 < length (drop size part)) where
    next_records : records_in (drop size part) ≡ here_record (drop size part)
        ∷ records_in (drop (length_of (drop size part)) (drop size part))
    next_records = (goes (drop size part) (drop (length_of (drop size part)) (drop size part)) t h refl).records

    pub all_done : (done total : List A) → kind_of (drop size part) ≡ 7 → done ++ map f (left_parts part size) ≡ total
        → done ≡ total
    all_done done total e same =
        sym (append-nil done)
        ∙ ap (λ (x : List Record). done ++ map f (parts 17 (records_in (take size part)) x))
        (sym (ap (λ (x : List Record). up_to 7 x) next_records
        ∙ up_stop (eqb (kind_of (drop size part)) 7) (here_record (drop size part))
        (up_to 7 (records_in (drop (length_of (drop size part)) (drop size part))))
        (eq-eqb (kind_of (drop size part)) 7 e)))
        ∙ same

    module _ (n : ℕ) (s : IsSpelled (take size part)) (w : n ≡ length_of (drop size part))
        (k : kind_of (drop size part) ≢ 7) where
      later : drop (length_of (drop size part)) (drop size part) ≡ drop (size + n) part
      later = ap (λ (x : ℕ). drop x (drop size part)) (sym w) ∙ drop-drop n size part

      up_next : up_to 7 (records_in (drop size part)) ≡ here_record (drop size part)
          ∷ up_to 7 (records_in (drop (size + n) part))
      up_next =
          ap (λ (x : List Record). up_to 7 x) next_records
          ∙ up_on (eqb (kind_of (drop size part)) 7) (here_record (drop size part))
          (up_to 7 (records_in (drop (length_of (drop size part)) (drop size part))))
          (ne_eqb (kind_of (drop size part)) 7 k)
          ∙ ap (λ (x : List ℕ). here_record (drop size part) ∷ up_to 7 (records_in x)) later

      spelled_later : IsSpelled (drop (size + n) part)
      spelled_later = subst (λ (x : List ℕ). IsSpelled x) later
          (goes (drop size part) (drop (length_of (drop size part)) (drop size part)) t h refl).spelled_rest

      fronts : records_in (take size part) ++ here_record (drop size part) ∷ [] ≡ records_in (take (size + n) part)
      fronts = sym (grown part size n s t h w).front

      pub spelled_whole : IsSpelled (take (size + n) part)
      spelled_whole = (grown part size n s t h w).spelled_front

      pub spelled_rest : IsSpelled (drop (size + n) part)
      spelled_rest = spelled_later

      pub one_more_record : (done total : List A) → kind_of (drop size part) ≢ 17
          → done ++ map f (left_parts part size) ≡ total → done ++ map f (left_parts part (size + n)) ≡ total
      one_more_record done total e same =
          ap (λ (x : List (List Record)). done ++ map f x)
          (sym (ap (λ (x : List Record). parts 17 (records_in (take size part)) x) up_next
          ∙ parts_on (eqb (kind_of (drop size part)) 17)
          (records_in (take size part) ++ here_record (drop size part) ∷ [])
          (parts 17 [] (up_to 7 (records_in (drop (size + n) part))))
          (parts 17 (records_in (take size part) ++ here_record (drop size part) ∷ [])
          (up_to 7 (records_in (drop (size + n) part)))) (ne_eqb (kind_of (drop size part)) 17 e)
          ∙ ap (λ (x : List Record). parts 17 x (up_to 7 (records_in (drop (size + n) part)))) fronts))
          ∙ same

      pub one_more_part : (done new total : List A) (e : A) (more : List ℕ) → kind_of (drop size part) ≡ 17
          → more ≡ drop (size + n) part → e ≡ f (records_in (take (size + n) part)) → new ≡ done ++ e ∷ []
          → done ++ map f (left_parts part size) ≡ total
          → new ++ map f (parts 17 [] (up_to 7 (records_in more))) ≡ total
      one_more_part done new total e more z m made add same =
          ap (λ (x : List A). x ++ map f (parts 17 [] (up_to 7 (records_in more)))) add
          ∙ append_assoc done (e ∷ []) (map f (parts 17 [] (up_to 7 (records_in more))))
          ∙ ap (λ (x : List ℕ). done ++ e ∷ map f (parts 17 [] (up_to 7 (records_in x)))) m
          ∙ ap (λ (x : A). done ++ x ∷ map f (parts 17 [] (up_to 7 (records_in (drop (size + n) part)))))
          (made ∙ ap (λ (x : List Record). f x) (sym fronts))
          ∙ ap (λ (x : List (List Record)). done ++ map f x)
          (sym (ap (λ (x : List Record). parts 17 (records_in (take size part)) x) up_next
          ∙ parts_end (eqb (kind_of (drop size part)) 17)
          (records_in (take size part) ++ here_record (drop size part) ∷ [])
          (parts 17 [] (up_to 7 (records_in (drop (size + n) part))))
          (parts 17 (records_in (take size part) ++ here_record (drop size part) ∷ [])
          (up_to 7 (records_in (drop (size + n) part)))) (eq-eqb (kind_of (drop size part)) 17 z)))
          ∙ same

pub no_records : IsSpelled []
no_records = record { records = []; whole = refl; short = tt }

pub first_part : {A : Type 0} (f : List Record → A) (bytes part : List ℕ) (done : List A) → done ≡ []
    → records_in part ≡ drop 1 (records_in bytes)
    → done ++ map f (left_parts part 0) ≡ map f (element_parts (records_in bytes))
first_part {A} f bytes part done none e =
    ap (λ (x : List A). x ++ map f (left_parts part 0)) none
    ∙ ap (λ (x : List Record). map f (parts 17 x (up_to 7 (records_in part)))) records_none
    ∙ ap (λ (x : List Record). map f (parts 17 [] (up_to 7 x))) e

pub next_part : {A : Type 0} (f : List Record → A) (part : List ℕ) (done total : List A)
    → done ++ map f (parts 17 [] (up_to 7 (records_in part))) ≡ total → done ++ map f (left_parts part 0) ≡ total
next_part {A} f part done total same = ap (λ (x : List Record). done ++ map f (parts 17 x (up_to 7 (records_in part))))
    records_none ∙ same
