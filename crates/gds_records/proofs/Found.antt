-- What a scan finds, and that it finds what there is.
use Rattle.std.proofs.Common.{◌≡◌, ℕ, zero, suc, ◌+◌, ◌<◌, List, [], ◌∷◌, ◌++◌, drop, length, Option, Some, None, Bool}
use Rattle.std.proofs.Common.{true, false, eqb, refl, sym, ap, subst, ◌∙◌, append_assoc, arith, ◌⊎◌, inl, inr}
use Rattle.std.specs.List.{flat_map}
use Rattle.std.proofs.lemmas.List.{append-nil, map-append, length-append, length-drop, get_or-drop}
use Rattle.std.proofs.lemmas.List.Concat.{flat_map-append, flat_map-cons}
use Rattle.std.proofs.lemmas.Bool.{eqb-true}
use Rattle.geom.specs.declared.layout.Layout.{Layout}
use Rattle.poly_cut.specs.declared.layout.WideLayout.{WideLayout}
use Rattle.gds_records.specs.Language.{Speaks}
use Rattle.gds_records.specs.Records.{Record, spelled, kinds}
use Rattle.gds_records.specs.Profiles.{Profile, value_fault_of, strict, wide, IsProfile}
use Rattle.gds_records.specs.declared.fault.StreamKind.{StreamKind}
use Rattle.gds_records.specs.declared.fault.StreamKind.TheVariants.{Order, Value}
use Rattle.gds_records.specs.Stream.{IsStream, IsWideStream, layout_of, wide_layout_of}
use Rattle.gds_records.specs.Faults.{StreamFault}
use Rattle.gds_records.specs.Profiled.{IsGoodIn, AreGoodIn, IsReadIn, are_zero, length_of, kind_of, here_record}
use Rattle.gds_records.specs.Profiled.{own_fault_in, IsFaultHereIn, own, order, value, IsRecordFaultIn, IsFirstFaultIn}
use Rattle.gds_records.specs.Profiled.{at_record, at_end, zeros_before, IsBytes, may_follow_in, fault_of, fault_here_in}
use Rattle.gds_records.specs.Profiled.{Scanned, Faulty, Whole, Unfinished, scan_in, found_in, records_in}
use Rattle.gds_records.specs.Profiled.{first_fault_in}
use Rattle.gds_records.specs.Scan.{first_fault, layout_in, wide_layout_in}
use Rattle.gds_records.proofs.Sentences as sentences
use Rattle.gds_records.proofs.Records as records
use Rattle.gds_records.proofs.Sentences.{ends_with}

pub flat_more : (before : List Record) (r : Record) → flat_map spelled (before ++ r ∷ []) ≡ flat_map spelled before
    ++ spelled r
flat_more before r = flat_map-append spelled before (r ∷ [])
    ∙ ap (λ (x : List ℕ). flat_map spelled before ++ x) (append-nil (spelled r))

module _ (profile : Profile) (ends : ends_with 4 profile.language ≡ true)
    (begins : may_follow_in profile [] 0 ≡ true) where
  -- ---- good records

  good_more : (a b : List Record) (r : Record) → AreGoodIn profile a b → IsGoodIn profile (a ++ b) r
      → AreGoodIn profile a (b ++ r ∷ [])
  good_more a [] r all g = (subst (λ (x : List Record). IsGoodIn profile x r) (append-nil a) g, tt)
  good_more a (x ∷ b) r all g = (
    all.0,
    good_more (a ++ x ∷ []) b r all.1
        (subst (λ (y : List Record). IsGoodIn profile y r) (sym (append_assoc a (x ∷ []) b)) g),
  )

  record Split (a b : List Record) (r : Record) : Type 0 where
    front : AreGoodIn profile a b
    last : IsGoodIn profile (a ++ b) r

  good_split : (a b : List Record) (r : Record) → AreGoodIn profile a (b ++ r ∷ []) → Split a b r
  good_split a [] r all = record {
    front = tt;
    last = subst (λ (x : List Record). IsGoodIn profile x r) (sym (append-nil a)) all.0;
  }
  good_split a (x ∷ b) r all =
      let s = good_split (a ++ x ∷ []) b r all.1 in
      record {
        front = (all.0, s.front);
        last = subst (λ (y : List Record). IsGoodIn profile y r) (append_assoc a (x ∷ []) b) s.last;
      }

  -- ---- what a scan finds

  record Goes (before : List Record) : Type 0 where
    next : ℕ
    more : List ℕ
    sentence : Speaks profile.language (kinds before ++ next ∷ more)

  record Read (bytes : List ℕ) (before : List Record) (b : List ℕ) : Type 0 where
    whole : bytes ≡ flat_map spelled before ++ b
    good : AreGoodIn profile [] before
    goes : Goes before
    fits : IsBytes b

  abbrev pub Outcome : List ℕ → Scanned → Type 0
  Outcome bytes (Faulty o k) = IsRecordFaultIn profile bytes o k
  Outcome bytes (Whole rs rest) = IsReadIn profile bytes rs rest
  Outcome bytes Unfinished = ⊥

  fault_cases : (before : List Record) (b : List ℕ) (k : StreamKind) (t : Option StreamKind)
      → own_fault_in profile b ≡ t → (f : Bool) → may_follow_in profile before (kind_of b) ≡ f
      → fault_of t f (value_fault_of profile before (here_record b)) ≡ Some k → IsFaultHereIn profile before b k
  fault_cases before b k (Some k') p f q e = own (p ∙ e)
  fault_cases before b k None p false q e = order p (let q : k ≡ Order = cc in q)
      (sentences.no_follower profile before (kind_of b) q)
  fault_cases before b k None p true q e = let w = sentences.follows profile before (kind_of b) q in value p w.0 w.1 e

  none_parts : (t : Option StreamKind) (f : Bool) (v : Option StreamKind) → fault_of t f v ≡ None
      → (t ≡ None) × (f ≡ true) × (v ≡ None)
  none_parts (Some k) f v e = absurd cc
  none_parts None false v e = absurd cc
  none_parts None true v e = (refl, refl, e)

  kinds_more : (before : List Record) (r : Record) (w : List ℕ)
      → kinds (before ++ r ∷ []) ++ w ≡ kinds before ++ r.kind ∷ w
  kinds_more before r w = ap (λ (x : List ℕ). x ++ w) (map-append (λ x. x.kind) before (r ∷ []))
      ∙ append_assoc (kinds before) (r.kind ∷ []) w

  goes_more : (before : List Record) (r : Record) (w : List ℕ) → Speaks profile.language (kinds before ++ r.kind ∷ w)
      → eqb r.kind 4 ≡ false → Goes (before ++ r ∷ [])
  goes_more before r [] h e = absurd
      (let q : r.kind ≡ 4 = sentences.is_end profile ends (kinds before) r.kind h in
      let p : eqb r.kind 4 ≡ true = ap (λ (x : ℕ). eqb x 4) q in cc)
  goes_more before r (j ∷ w) h e = record {
    next = j;
    more = w;
    sentence = subst (λ (x : List ℕ). Speaks profile.language x) (sym (kinds_more before r (j ∷ w))) h;
  }

  whole_more : (bytes : List ℕ) (before : List Record) (b : List ℕ) → Read bytes before b → records.Sound profile b
      → bytes ≡ flat_map spelled (before ++ here_record b ∷ []) ++ drop (length_of b) b
  whole_more bytes before b r s =
      r.whole ∙ ap (λ (x : List ℕ). flat_map spelled before ++ x) (sym (records.respelled profile b r.fits s))
      ∙ sym (append_assoc (flat_map spelled before) (spelled (here_record b)) (drop (length_of b) b))
      ∙ ap (λ (x : List ℕ). x ++ drop (length_of b) b) (sym (flat_more before (here_record b)))

  record Passed (before : List Record) (b : List ℕ) : Type 0 where
    sound : records.Sound profile b
    word : List ℕ
    sentence : Speaks profile.language (kinds before ++ kind_of b ∷ word)
    value : value_fault_of profile before (here_record b) ≡ None

  passed : (before : List Record) (b : List ℕ) → fault_here_in profile before b ≡ None → Passed before b
  passed before b e =
      let p = none_parts (own_fault_in profile b) (may_follow_in profile before (kind_of b))
      (value_fault_of profile before (here_record b)) e in
      let w = sentences.follows profile before (kind_of b) p.1 in
      record { sound = records.parts_of profile b p.0; word = w.0; sentence = w.1; value = p.2 }

  read_more : (bytes : List ℕ) (before : List Record) (b : List ℕ) → Read bytes before b → Passed before b
      → eqb (kind_of b) 4 ≡ false → Read bytes (before ++ here_record b ∷ []) (drop (length_of b) b)
  read_more bytes before b r p e = record {
    whole = whole_more bytes before b r p.sound;
    good = good_more [] before (here_record b) r.good (records.here_good profile before b r.fits p.sound p.value);
    goes = goes_more before (here_record b) p.word p.sentence e;
    fits = λ i. rw get_or-drop (r.fits (length_of b + i));
  }

  all_read : (bytes : List ℕ) (before : List Record) (b : List ℕ) → Read bytes before b → Passed before b
      → eqb (kind_of b) 4 ≡ true → IsReadIn profile bytes (before ++ here_record b ∷ []) (drop (length_of b) b)
  all_read bytes before b r p e =
      let q : kind_of b ≡ 4 = eqb-true (kind_of b) 4 e in
      let n : p.word ≡ [] = sentences.at_end profile ends (kinds before) p.word
      (subst (λ (k : ℕ). Speaks profile.language (kinds before ++ k ∷ p.word)) q p.sentence) in
      let m : kinds before ++ kind_of b ∷ p.word ≡ kinds (before ++ here_record b ∷ []) =
      ap (λ (w : List ℕ). kinds before ++ kind_of b ∷ w) n
      ∙ sym (map-append (λ x. x.kind) before (here_record b ∷ [])) in
      record {
        whole = whole_more bytes before b r p.sound;
        grammar = subst (λ (w : List ℕ). Speaks profile.language w) m p.sentence;
        good = good_more [] before (here_record b) r.good (records.here_good profile before b r.fits p.sound p.value);
      }

  module _ (bytes : List ℕ) where
    step : (n : ℕ) (before : List Record) (b : List ℕ) → Read bytes before b → (t : Option StreamKind)
        → fault_here_in profile before b ≡ t → (z : Bool) → eqb (kind_of b) 4 ≡ z
        → (records.Sound profile b → Read bytes (before ++ here_record b ∷ []) (drop (length_of b) b)
        → Outcome bytes (scan_in profile n (before ++ here_record b ∷ []) (drop (length_of b) b)))
        → Outcome bytes (elim t as (λ (x : Option StreamKind). Scanned) [
          | Some k ↦ Faulty (length (flat_map spelled before)) k
          | None ↦ elim z as (λ (x : Bool). Scanned) [
            | true ↦ Whole (before ++ here_record b ∷ []) (drop (length_of b) b)
            | false ↦ scan_in profile n (before ++ here_record b ∷ []) (drop (length_of b) b)
          ]
        ])
    step n before b r (Some k) e z f next = record {
      before = before;
      here = b;
      whole = r.whole;
      place = refl;
      good = r.good;
      next = r.goes.next;
      more = r.goes.more;
      goes_on = r.goes.sentence;
      fault = fault_cases before b k (own_fault_in profile b) refl (may_follow_in profile before (kind_of b)) refl e;
    }
    step n before b r None e true f next = all_read bytes before b r (passed before b e) f
    step n before b r None e false f next = let p = passed before b e in next p.sound (read_more bytes before b r p f)

    outcome : (n : ℕ) (before : List Record) (b : List ℕ) → length b < n → Read bytes before b
        → Outcome bytes (scan_in profile n before b)
    outcome zero before b h r = absurd (omega arith)
    outcome (suc n) before b h r =
        step n before b r (fault_here_in profile before b) refl (eqb (kind_of b) 4) refl
        (λ s q. outcome n (before ++ here_record b ∷ []) (drop (length_of b) b)
        (let l = s.least in let m = s.head in omega (arith, length-drop (length_of b) b)) q)

  start : Goes []
  start = let w = sentences.follows profile [] 0 begins in record { next = 0; more = w.0; sentence = w.1 }

  pub all_scanned : (bytes : List ℕ) → IsBytes bytes → Outcome bytes (scan_in profile (suc (length bytes)) [] bytes)
  all_scanned bytes fits = outcome bytes (suc (length bytes)) [] bytes (omega arith)
      (record { whole = refl; good = tt; goes = start; fits = fits })

  zeros_so : (t : Bool) (f g : Option (ℕ × StreamKind)) (o : ℕ × StreamKind)
      → (elim t as (λ (x : Bool). Option (ℕ × StreamKind)) [ false ↦ Some o | true ↦ g ]) ≡ None
      → (t ≡ true) × (g ≡ None)
  zeros_so true f g o e = (refl, e)
  zeros_so false f g o e = absurd cc

  some_is : (a c : ℕ × StreamKind) → Some a ≡ Some c → a ≡ c
  some_is a c e = cc

  found_so : (bytes : List ℕ) (s : Scanned) (o : ℕ) (k : StreamKind) → Outcome bytes s
      → found_in profile s ≡ Some (o, k) → IsFirstFaultIn profile bytes o k
  found_so bytes (Faulty p q) o k h e = at_record
      (subst (λ (x : ℕ × StreamKind). IsRecordFaultIn profile bytes x.0 x.1) (some_is (p, q) (o, k) e) h)
  found_so bytes (Whole rs rest) o k h e = at_end (record { records = rs; rest = rest; read = h; fault = e })
  found_so bytes Unfinished o k h e = absurd h

  pub fault_is_first : (bytes : List ℕ) (o : ℕ) (k : StreamKind) → IsBytes bytes
      → first_fault_in profile bytes ≡ Some (o, k) → IsFirstFaultIn profile bytes o k
  fault_is_first bytes o k fits e = found_so bytes (scan_in profile (suc (length bytes)) [] bytes) o k
      (all_scanned bytes fits) e

  -- ---- and that it finds what there is

  abbrev choice : Option StreamKind → Bool → (StreamKind → Scanned) → Scanned → Scanned → Scanned
  choice t z f w o = elim t as (λ (x : Option StreamKind). Scanned) [
    | Some k ↦ f k
    | None ↦ elim z as (λ (x : Bool). Scanned) [ true ↦ w | false ↦ o ]
  ]

  choose_fault : (t : Option StreamKind) (z : Bool) (f : StreamKind → Scanned) (w o : Scanned) (k : StreamKind)
      → t ≡ Some k → choice t z f w o ≡ f k
  choose_fault t z f w o k e = rw (e, choice) refl

  choose_stop : (t : Option StreamKind) (z : Bool) (f : StreamKind → Scanned) (w o : Scanned) → t ≡ None → z ≡ true
      → choice t z f w o ≡ w
  choose_stop t z f w o a b = rw (a, b, choice) refl

  choose_on : (t : Option StreamKind) (z : Bool) (f : StreamKind → Scanned) (w o : Scanned) → t ≡ None → z ≡ false
      → choice t z f w o ≡ o
  choose_on t z f w o a b = rw (a, b, choice) refl

  scan_fault : (n : ℕ) (before : List Record) (b : List ℕ) (k : StreamKind) → fault_here_in profile before b ≡ Some k
      → scan_in profile (suc n) before b ≡ Faulty (length (flat_map spelled before)) k
  scan_fault n before b k e = choose_fault (fault_here_in profile before b) (eqb (kind_of b) 4)
      (λ x. Faulty (length (flat_map spelled before)) x) (Whole (before ++ here_record b ∷ []) (drop (length_of b) b))
      (scan_in profile n (before ++ here_record b ∷ []) (drop (length_of b) b)) k e

  scan_stop : (n : ℕ) (before : List Record) (b : List ℕ) → fault_here_in profile before b ≡ None
      → eqb (kind_of b) 4 ≡ true → scan_in profile (suc n) before b ≡ Whole (before ++ here_record b ∷ [])
      (drop (length_of b) b)
  scan_stop n before b e f = choose_stop (fault_here_in profile before b) (eqb (kind_of b) 4)
      (λ x. Faulty (length (flat_map spelled before)) x) (Whole (before ++ here_record b ∷ []) (drop (length_of b) b))
      (scan_in profile n (before ++ here_record b ∷ []) (drop (length_of b) b)) e f

  scan_on : (n : ℕ) (before : List Record) (b : List ℕ) → fault_here_in profile before b ≡ None
      → eqb (kind_of b) 4 ≡ false → scan_in profile (suc n) before b ≡ scan_in profile n (before ++ here_record b ∷ [])
      (drop (length_of b) b)
  scan_on n before b e f = choose_on (fault_here_in profile before b) (eqb (kind_of b) 4)
      (λ x. Faulty (length (flat_map spelled before)) x) (Whole (before ++ here_record b ∷ []) (drop (length_of b) b))
      (scan_in profile n (before ++ here_record b ∷ []) (drop (length_of b) b)) e f

  no_fault_of : (t : Option StreamKind) (f : Bool) (v : Option StreamKind) → t ≡ None → f ≡ true → v ≡ None
      → fault_of t f v ≡ None
  no_fault_of t f v a b c = rw (a, b) c

  none_here : (before : List Record) (r : Record) (b : List ℕ) (w : List ℕ) → IsGoodIn profile before r
      → Speaks profile.language (kinds before ++ r.kind ∷ w) → fault_here_in profile before (spelled r ++ b) ≡ None
  none_here before r b w g h =
      no_fault_of (own_fault_in profile (spelled r ++ b)) (may_follow_in profile before r.kind)
      (value_fault_of profile before (here_record (spelled r ++ b))) (records.own_none profile before r b g)
      (sentences.followed profile before r.kind w h)
      (ap (λ (x : Record). value_fault_of profile before x) (records.record_back profile r b g.short) ∙ g.value)

  one_step : (n : ℕ) (before : List Record) (r : Record) (b w : List ℕ) → IsGoodIn profile before r
      → Speaks profile.language (kinds before ++ r.kind ∷ w) → eqb r.kind 4 ≡ false
      → scan_in profile (suc n) before (spelled r ++ b) ≡ scan_in profile n (before ++ r ∷ []) b
  one_step n before r b w g h e =
      scan_on n before (spelled r ++ b) (none_here before r b w g h) e
      ∙ ap (λ (x : Record). scan_in profile n (before ++ x ∷ []) (drop (length_of (spelled r ++ b)) (spelled r ++ b)))
      (records.record_back profile r b g.short)
      ∙ ap (λ (x : List ℕ). scan_in profile n (before ++ r ∷ []) x) (records.rest_back profile r b g.short)

  last_step : (n : ℕ) (before : List Record) (r : Record) (b : List ℕ) → IsGoodIn profile before r
      → Speaks profile.language (kinds before ++ r.kind ∷ []) → r.kind ≡ 4
      → scan_in profile (suc n) before (spelled r ++ b) ≡ Whole (before ++ r ∷ []) b
  last_step n before r b g h e =
      scan_stop n before (spelled r ++ b) (none_here before r b [] g h) (ap (λ (x : ℕ). eqb x 4) e)
      ∙ ap (λ (x : Record). Whole (before ++ x ∷ []) (drop (length_of (spelled r ++ b)) (spelled r ++ b)))
      (records.record_back profile r b g.short)
      ∙ ap (λ (x : List ℕ). Whole (before ++ r ∷ []) x) (records.rest_back profile r b g.short)

  goes_not_end : (u : List ℕ) (k : ℕ) (v : List ℕ) (j : ℕ) (w : List ℕ)
      → Speaks profile.language (u ++ k ∷ (v ++ j ∷ w)) → eqb k 4 ≡ false
  goes_not_end u k [] j w h = sentences.not_end profile ends u k j w h
  goes_not_end u k (x ∷ v) j w h = sentences.not_end profile ends u k x (v ++ j ∷ w) h

  record Over (n : ℕ) (before rest : List Record) (here : List ℕ) : Type 0 where
    fuel : ℕ
    same : scan_in profile n before (flat_map spelled rest ++ here) ≡ scan_in profile (suc fuel) (before ++ rest) here

  flat_one : (r : Record) (rest : List Record) (here : List ℕ) → flat_map spelled (r ∷ rest) ++ here ≡ spelled r
      ++ (flat_map spelled rest ++ here)
  flat_one r rest here = ap (λ (x : List ℕ). x ++ here) (flat_map-cons spelled r rest)
      ∙ append_assoc (spelled r) (flat_map spelled rest) here

  over : (rest : List Record) (n : ℕ) (before : List Record) (here : List ℕ) (next : ℕ) (more : List ℕ)
      → AreGoodIn profile before rest → Speaks profile.language (kinds before ++ (kinds rest ++ next ∷ more))
      → length (flat_map spelled rest ++ here) < n → Over n before rest here
  over rest zero before here next more good h l = absurd (omega arith)
  over [] (suc n) before here next more good h l =
      record { fuel = n; same = ap (λ (x : List Record). scan_in profile (suc n) x here) (sym (append-nil before)) }
  over (r ∷ rest) (suc n) before here next more good h l =
      let on = over rest n (before ++ r ∷ []) here next more good.1
      (subst (λ (x : List ℕ). Speaks profile.language x) (sym (kinds_more before r (kinds rest ++ next ∷ more))) h)
      (omega (
        arith,
        ap (λ (x : List ℕ). length x) (flat_one r rest here),
        length-append (spelled r)
            (flat_map spelled rest ++ here),
        records.spelled_length profile r,
      )) in
      record {
        fuel = on.fuel;
        same = ap (λ (x : List ℕ). scan_in profile (suc n) before x) (flat_one r rest here)
            ∙ one_step n before r (flat_map spelled rest ++ here) (kinds rest ++ next ∷ more) good.0 h
            (goes_not_end (kinds before) r.kind (kinds rest) next more h)
            ∙ on.same ∙ ap (λ (x : List Record). scan_in profile (suc on.fuel) x here)
            (append_assoc before (r ∷ []) rest);
      }

  record Last (rs : List Record) : Type 0 where
    front : List Record
    last : Record
    whole : rs ≡ front ++ last ∷ []

  last_of : (r : Record) (rs : List Record) → Last (r ∷ rs)
  last_of r [] = record { front = []; last = r; whole = refl }
  last_of r (x ∷ rs) = let l = last_of x rs in
      record { front = r ∷ l.front; last = l.last; whole = ap (λ (y : List Record). r ∷ y) l.whole }

  no_empty : Speaks profile.language [] → ⊥
  no_empty h = let e = sentences.sentence_ends profile ends [] h in empty e.front e.whole
    where
      empty : (f : List ℕ) → [] ≡ f ++ 4 ∷ [] → ⊥
      empty [] e = cc
      empty (x ∷ f) e = cc

  read_to : (front : List Record) (last : Record) (rest : List ℕ) → AreGoodIn profile [] (front ++ last ∷ [])
      → Speaks profile.language (kinds (front ++ last ∷ [])) → (bytes : List ℕ)
      → bytes ≡ flat_map spelled (front ++ last ∷ []) ++ rest
      → scan_in profile (suc (length bytes)) [] bytes ≡ Whole (front ++ last ∷ []) rest
  read_to front last rest good h bytes e =
      let s = good_split [] front last good in
      let w : Speaks profile.language (kinds front ++ last.kind ∷ []) =
      subst (λ (x : List ℕ). Speaks profile.language x) (map-append (λ x. x.kind) front (last ∷ [])) h in
      let q : bytes ≡ flat_map spelled front ++ (spelled last ++ rest) = e
      ∙ ap (λ (x : List ℕ). x ++ rest) (flat_more front last)
      ∙ append_assoc (flat_map spelled front) (spelled last) rest in
      let o = over front (suc (length bytes)) [] (spelled last ++ rest) last.kind [] s.front w
      (omega (arith, ap (λ (x : List ℕ). length x) q)) in
      ap (λ (x : List ℕ). scan_in profile (suc (length bytes)) [] x) q ∙ o.same
      ∙ last_step o.fuel front last rest s.last w (sentences.is_end profile ends (kinds front) last.kind w)

  read_all : (bytes : List ℕ) (rs : List Record) (rest : List ℕ) → IsReadIn profile bytes rs rest
      → scan_in profile (suc (length bytes)) [] bytes ≡ Whole rs rest
  read_all bytes [] rest r = absurd (no_empty r.grammar)
  read_all bytes (x ∷ rs) rest r =
      let l = last_of x rs in
      read_to l.front l.last rest (subst (λ (y : List Record). AreGoodIn profile [] y) l.whole r.good)
      (subst (λ (y : List Record). Speaks profile.language (kinds y)) l.whole r.grammar) bytes
      (r.whole ∙ ap (λ (y : List Record). flat_map spelled y ++ rest) l.whole)
      ∙ ap (λ (y : List Record). Whole y rest) (sym l.whole)

  end_none : (t : Bool) (g : Option (ℕ × StreamKind)) (o : ℕ × StreamKind) → t ≡ true → g ≡ None
      → (elim t as (λ (x : Bool). Option (ℕ × StreamKind)) [ false ↦ Some o | true ↦ g ]) ≡ None
  end_none t g o a b = rw a b

  bool_cases : (t : Bool) → (t ≡ true) ⊎ (t ≡ false)
  bool_cases true = inl refl
  bool_cases false = inr refl

  fault_of_own : (t : Option StreamKind) (f : Bool) (v : Option StreamKind) (k : StreamKind) → t ≡ Some k
      → fault_of t f v ≡ Some k
  fault_of_own t f v k e = rw e refl

  fault_of_order : (t : Option StreamKind) (f : Bool) (v : Option StreamKind) (k : StreamKind) → t ≡ None → f ≡ false
      → k ≡ Order → fault_of t f v ≡ Some k
  fault_of_order t f v k a b c = rw (a, b, c) refl

  fault_of_value : (t : Option StreamKind) (f : Bool) (v : Option StreamKind) (k : StreamKind) → t ≡ None → f ≡ true
      → v ≡ Some k → fault_of t f v ≡ Some k
  fault_of_value t f v k a b c = rw (a, b) c

  here_so : (before : List Record) (b : List ℕ) (k : StreamKind) → IsFaultHereIn profile before b k
      → fault_here_in profile before b ≡ Some k
  here_so before b k (own e) = fault_of_own (own_fault_in profile b) (may_follow_in profile before (kind_of b))
      (value_fault_of profile before (here_record b)) k e
  here_so before b k (order a c none) =
      fault_of_order (own_fault_in profile b) (may_follow_in profile before (kind_of b))
      (value_fault_of profile before (here_record b)) k a
      (elim (bool_cases (may_follow_in profile before (kind_of b))) [
        | inl e ↦ absurd
            (let w = sentences.follows profile before (kind_of b) e in none w.0 w.1)
        | inr e ↦ e
      ]) c
  here_so before b k (value a more h v) = fault_of_value (own_fault_in profile b)
      (may_follow_in profile before (kind_of b)) (value_fault_of profile before (here_record b)) k a
      (sentences.followed profile before (kind_of b) more h) v

  record_fault : (bytes : List ℕ) (o : ℕ) (k : StreamKind) → IsRecordFaultIn profile bytes o k
      → scan_in profile (suc (length bytes)) [] bytes ≡ Faulty o k
  record_fault bytes o k f =
      let v = over f.before (suc (length bytes)) [] f.here f.next f.more f.good f.goes_on
      (omega (arith, ap (λ (x : List ℕ). length x) f.whole)) in
      ap (λ (x : List ℕ). scan_in profile (suc (length bytes)) [] x) f.whole ∙ v.same
      ∙ scan_fault v.fuel f.before f.here k (here_so f.before f.here k f.fault)
      ∙ ap (λ (x : ℕ). Faulty x k) (sym f.place)

  pub first_is_found : (bytes : List ℕ) (o : ℕ) (k : StreamKind) → IsFirstFaultIn profile bytes o k
      → first_fault_in profile bytes ≡ Some (o, k)
  first_is_found bytes o k (at_record f) = ap (λ (x : Scanned). found_in profile x) (record_fault bytes o k f)
  first_is_found bytes o k (at_end f) = ap (λ (x : Scanned). found_in profile x)
      (read_all bytes f.records f.rest f.read) ∙ f.fault

-- ---- strict streams, and wide ones

module _ (profile : Profile) (ends : ends_with 4 profile.language ≡ true)
    (begins : may_follow_in profile [] 0 ≡ true) where
  pub record Said (bytes : List ℕ) (rs : List Record) : Type 0 where
    pub rest : List ℕ
    pub read : IsReadIn profile bytes rs rest
    pub zeros : are_zero rest ≡ true
    pub conditions : profile.whole_fault rs ≡ None

  no_fault_so : (bytes : List ℕ) (s : Scanned) → Outcome profile ends begins bytes s → found_in profile s ≡ None
      → Said bytes (records_in s)
  no_fault_so bytes (Faulty o k) h e = absurd cc
  no_fault_so bytes (Whole rs rest) h e =
      let z = zeros_so profile ends begins (are_zero rest) None (profile.whole_fault rs)
      (length (flat_map spelled rs) + zeros_before rest, Value) e in
      record { rest = rest; read = h; zeros = z.0; conditions = z.1 }
  no_fault_so bytes Unfinished h e = absurd h

  pub said_no_fault : (bytes : List ℕ) (rs : List Record) → Said bytes rs → first_fault_in profile bytes ≡ None
  said_no_fault bytes rs s =
      ap (λ (x : Scanned). found_in profile x) (read_all profile ends begins bytes rs s.rest s.read)
      ∙ end_none profile ends begins (are_zero s.rest) (profile.whole_fault rs)
      (length (flat_map spelled rs) + zeros_before s.rest, Value) s.zeros s.conditions

  pub said_records : (bytes : List ℕ) (rs : List Record) → Said bytes rs
      → rs ≡ records_in (scan_in profile (suc (length bytes)) [] bytes)
  said_records bytes rs s = ap (λ (x : Scanned). records_in x)
      (sym (read_all profile ends begins bytes rs s.rest s.read))

  pub none_said : (bytes : List ℕ) → IsBytes bytes → first_fault_in profile bytes ≡ None
      → Said bytes (records_in (scan_in profile (suc (length bytes)) [] bytes))
  none_said bytes fits e = no_fault_so bytes (scan_in profile (suc (length bytes)) [] bytes)
      (all_scanned profile ends begins bytes fits) e

-- ---- of both profiles

pub found_of_profile : (p : Profile) (bytes : List ℕ) (o : ℕ) (k : StreamKind) → IsProfile p → IsBytes bytes
    → first_fault_in p bytes ≡ Some (o, k) → IsFirstFaultIn p bytes o k
found_of_profile p bytes o k (inl e) fits =
    subst (λ (q : Profile). first_fault_in q bytes ≡ Some (o, k) → IsFirstFaultIn q bytes o k) (sym e)
    (fault_is_first strict refl refl bytes o k fits)
found_of_profile p bytes o k (inr e) fits =
    subst (λ (q : Profile). first_fault_in q bytes ≡ Some (o, k) → IsFirstFaultIn q bytes o k) (sym e)
    (fault_is_first wide refl refl bytes o k fits)

abbrev ReadWhole : List ℕ → List Record → List ℕ → Profile → Type 0
ReadWhole bytes rs rest p = scan_in p (suc (length bytes)) [] bytes ≡ Whole rs rest → IsReadIn p bytes rs rest

pub whole_of_profile : (p : Profile) (bytes : List ℕ) (rs : List Record) (rest : List ℕ) → IsProfile p → IsBytes bytes
    → ReadWhole bytes rs rest p
whole_of_profile p bytes rs rest (inl e) fits =
    subst (ReadWhole bytes rs rest) (sym e)
    (λ w. subst (λ (s : Scanned). Outcome strict refl refl bytes s) w (all_scanned strict refl refl bytes fits))
whole_of_profile p bytes rs rest (inr e) fits =
    subst (ReadWhole bytes rs rest) (sym e)
    (λ w. subst (λ (s : Scanned). Outcome wide refl refl bytes s) w (all_scanned wide refl refl bytes fits))

-- ---- of each

pub no_fault : (bytes : List ℕ) → IsBytes bytes → first_fault bytes ≡ None → IsStream bytes (layout_in bytes)
no_fault bytes fits e = let s = none_said strict refl refl bytes fits e in
    record { records = _; rest = s.rest; read = s.read; zeros = s.zeros; conditions = s.conditions; says = refl }

pub found : (bytes : List ℕ) (o : ℕ) (k : StreamKind) → IsBytes bytes → first_fault bytes ≡ Some (o, k)
    → StreamFault bytes o k
found = fault_is_first strict refl refl

pub fault_found : (bytes : List ℕ) (o : ℕ) (k : StreamKind) → StreamFault bytes o k → first_fault bytes ≡ Some (o, k)
fault_found = first_is_found strict refl refl

said_stream : (bytes : List ℕ) (layout : Layout) (s : IsStream bytes layout) → Said strict refl refl bytes s.records
said_stream bytes layout s = record { rest = s.rest; read = s.read; zeros = s.zeros; conditions = s.conditions }

pub stream_no_fault : (bytes : List ℕ) (layout : Layout) → IsStream bytes layout → first_fault bytes ≡ None
stream_no_fault bytes layout s = said_no_fault strict refl refl bytes s.records (said_stream bytes layout s)

pub stream_layout : (bytes : List ℕ) (layout : Layout) → IsStream bytes layout → layout ≡ layout_in bytes
stream_layout bytes layout s = s.says ∙ ap (λ (rs : List Record). layout_of rs)
    (said_records strict refl refl bytes s.records (said_stream bytes layout s))

pub wide_no_fault : (bytes : List ℕ) → IsBytes bytes → first_fault_in wide bytes ≡ None
    → IsWideStream bytes (wide_layout_in bytes)
wide_no_fault bytes fits e = let s = none_said wide refl refl bytes fits e in
    record { records = _; rest = s.rest; read = s.read; zeros = s.zeros; conditions = s.conditions; says = refl }

pub wide_found : (bytes : List ℕ) (o : ℕ) (k : StreamKind) → IsBytes bytes → first_fault_in wide bytes ≡ Some (o, k)
    → IsFirstFaultIn wide bytes o k
wide_found = fault_is_first wide refl refl

pub wide_fault_found : (bytes : List ℕ) (o : ℕ) (k : StreamKind) → IsFirstFaultIn wide bytes o k
    → first_fault_in wide bytes ≡ Some (o, k)
wide_fault_found = first_is_found wide refl refl

said_wide : (bytes : List ℕ) (layout : WideLayout) (s : IsWideStream bytes layout) → Said wide refl refl bytes s.records
said_wide bytes layout s = record { rest = s.rest; read = s.read; zeros = s.zeros; conditions = s.conditions }

pub wide_stream_no_fault : (bytes : List ℕ) (layout : WideLayout) → IsWideStream bytes layout
    → first_fault_in wide bytes ≡ None
wide_stream_no_fault bytes layout s = said_no_fault wide refl refl bytes s.records (said_wide bytes layout s)

pub wide_stream_layout : (bytes : List ℕ) (layout : WideLayout) → IsWideStream bytes layout
    → layout ≡ wide_layout_in bytes
wide_stream_layout bytes layout s = s.says ∙ ap (λ (rs : List Record). wide_layout_of rs)
    (said_records wide refl refl bytes s.records (said_wide bytes layout s))
