-- Bytes that spell records are decoded to them.
use Rattle.std.proofs.Common.{◌≡◌, ℕ, zero, suc, ◌+◌, ◌<◌, ◌≤◌, List, [], ◌∷◌, ◌++◌, take, drop, length, refl, sym, ap}
use Rattle.std.proofs.Common.{subst, ◌∙◌, arith}
use Rattle.std.specs.List.{flat_map, AllByRecursion}
use Rattle.std.proofs.lemmas.List.{length-append}
use Rattle.std.proofs.lemmas.List.Concat.{flat_map-cons}
use Rattle.std.proofs.Math.Seq.{take-append_seam, drop-append_seam}
use Rattle.std.proofs.lemmas.Nat.{from_be_bytes-to_be_bytes_2}
use Rattle.gds_records.specs.Records.{Record, record_with, spelled}
use Rattle.gds_records.specs.Faults.{length_of, here_record}
use Rattle.gds_read.specs.Code.Decoding.{IsShortRecord, IsSpelled, decode, records_in, Goes}

abbrev plus4 : ℕ → ℕ
plus4 m = suc (suc (suc (suc m)))

pub length_spelled : (r : Record) (b : List ℕ) → IsShortRecord r → length_of (spelled r ++ b) ≡ 4 + length r.content
length_spelled r b h = from_be_bytes-to_be_bytes_2 (4 + length r.content) h

content_back : (h l k f : ℕ) (c b : List ℕ) (n : ℕ) → n ≡ 4 + length c → drop 4 (take n (h ∷ l ∷ k ∷ f ∷ c ++ b)) ≡ c
content_back h l k f c b n e = let q : n ≡ plus4 (length c) = omega arith in
    ap (λ (i : ℕ). drop 4 (take i (h ∷ l ∷ k ∷ f ∷ c ++ b))) q ∙ take-append_seam c b

after_back : (h l k f : ℕ) (c b : List ℕ) (n : ℕ) → n ≡ 4 + length c → drop n (h ∷ l ∷ k ∷ f ∷ c ++ b) ≡ b
after_back h l k f c b n e = let q : n ≡ plus4 (length c) = omega arith in
    ap (λ (i : ℕ). drop i (h ∷ l ∷ k ∷ f ∷ c ++ b)) q ∙ drop-append_seam c b

same_record : (r : Record) (c : List ℕ) → c ≡ r.content → record_with r.kind r.form c ≡ r
same_record r c e = rw e refl

pub record_back : (r : Record) (b : List ℕ) → IsShortRecord r → here_record (spelled r ++ b) ≡ r
record_back r b h = same_record r _
    (content_back _ _ r.kind r.form r.content b (length_of (spelled r ++ b)) (length_spelled r b h))

pub rest_back : (r : Record) (b : List ℕ) → IsShortRecord r → drop (length_of (spelled r ++ b)) (spelled r ++ b) ≡ b
rest_back r b h = after_back _ _ r.kind r.form r.content b (length_of (spelled r ++ b)) (length_spelled r b h)

pub spelled_length : (r : Record) → length (spelled r) ≡ 4 + length r.content
spelled_length r = omega arith

-- one step of decoding, at bytes that aren't none
decode_step : (n : ℕ) (b : List ℕ) → 0 < length b → decode (suc n) b ≡ here_record b ∷ decode n (drop (length_of b) b)
decode_step n [] h = absurd (omega arith)
decode_step n (x ∷ b) h = refl

decode_none : (n : ℕ) → decode n [] ≡ []
decode_none zero = refl
decode_none (suc n) = refl

two : (r s : Record) (a b : List Record) → r ≡ s → a ≡ b → r ∷ a ≡ s ∷ b
two r s a b e f = rw (e, f) refl

decoded : (n : ℕ) (rs : List Record) → AllByRecursion IsShortRecord rs → length (flat_map spelled rs) ≤ n
    → decode n (flat_map spelled rs) ≡ rs
decoded n [] all h = decode_none n
decoded zero (r ∷ rs) all h = absurd
    (omega (
      arith,
      ap (λ (x : List ℕ). length x) (flat_map-cons spelled r rs),
      length-append (spelled r)
          (flat_map spelled rs),
      spelled_length r,
    ))
decoded (suc n) (r ∷ rs) all h =
    let e = flat_map-cons spelled r rs in
    let l : length (flat_map spelled (r ∷ rs)) ≡ 4 + length r.content + length (flat_map spelled rs) =
    omega (
      arith,
      ap (λ (x : List ℕ). length x) e,
      length-append (spelled r)
          (flat_map spelled rs),
      spelled_length r,
    ) in
    decode_step n (flat_map spelled (r ∷ rs)) (omega arith)
    ∙ two _ r _ rs (ap (λ (x : List ℕ). here_record x) e ∙ record_back r (flat_map spelled rs) all.0)
    (ap (λ (x : List ℕ). decode n (drop (length_of x) x)) e
    ∙ ap (λ (x : List ℕ). decode n x) (rest_back r (flat_map spelled rs) all.0) ∙ decoded n rs all.1 (omega arith))

pub records_are : (bytes : List ℕ) (s : IsSpelled bytes) → records_in bytes ≡ s.records
unfolding records_in
records_are bytes s =
    ap (λ (x : List ℕ). decode (length bytes) x) s.whole ∙ decoded (length bytes) s.records s.short
    (omega (arith, ap (λ (x : List ℕ). length x) s.whole))

pub records_none : records_in [] ≡ []
unfolding records_in
records_none = refl

-- what stands behind the first record
goes_from : (bytes : List ℕ) (rs : List Record) → bytes ≡ flat_map spelled rs → AllByRecursion IsShortRecord rs
    → 0 < length bytes → Goes bytes (drop (length_of bytes) bytes)
goes_from bytes [] e all h = absurd (omega (arith, ap (λ (x : List ℕ). length x) e))
goes_from bytes (r ∷ rs) e all h =
    let w : bytes ≡ spelled r ++ flat_map spelled rs = e ∙ flat_map-cons spelled r rs in
    let d : drop (length_of bytes) bytes ≡ flat_map spelled rs = ap (λ (x : List ℕ). drop (length_of x) x) w
    ∙ rest_back r (flat_map spelled rs) all.0 in
    let here : here_record bytes ≡ r = ap (λ (x : List ℕ). here_record x) w
    ∙ record_back r (flat_map spelled rs) all.0 in
    record {
      behind = refl;
      spelled_rest = record { records = rs; whole = d; short = all.1 };
      records = records_are bytes (record { records = r ∷ rs; whole = e; short = all })
          ∙ sym
          (two _ r _ rs here (records_are (drop (length_of bytes) bytes)
          (record { records = rs; whole = d; short = all.1 })));
      less = omega (
        arith,
        ap (λ (x : List ℕ). length x) w,
        ap (λ (x : List ℕ). length x) d,
        length-append (spelled r)
            (flat_map spelled rs),
        spelled_length r,
      );
    }

pub goes : (bytes rest : List ℕ) → IsSpelled bytes → 0 < length bytes → rest ≡ drop (length_of bytes) bytes
    → Goes bytes rest
goes bytes rest s h e = subst (λ (x : List ℕ). Goes bytes x) (sym e) (goes_from bytes s.records s.whole s.short h)

pub record Front (bytes : List ℕ) : Type 0 where
  pub head : 4 ≤ length bytes
  pub least : 4 ≤ length_of bytes
  pub enough : length_of bytes ≤ length bytes

front_from : (bytes : List ℕ) (rs : List Record) → bytes ≡ flat_map spelled rs → AllByRecursion IsShortRecord rs
    → 0 < length bytes → Front bytes
front_from bytes [] e all h = absurd (omega (arith, ap (λ (x : List ℕ). length x) e))
front_from bytes (r ∷ rs) e all h =
    let w : bytes ≡ spelled r ++ flat_map spelled rs = e ∙ flat_map-cons spelled r rs in
    let n : length_of bytes ≡ 4 + length r.content = ap (λ (x : List ℕ). length_of x) w
    ∙ length_spelled r (flat_map spelled rs) all.0 in
    let l : length bytes ≡ 4 + length r.content + length (flat_map spelled rs) =
    omega (
      arith,
      ap (λ (x : List ℕ). length x) w,
      length-append (spelled r)
          (flat_map spelled rs),
      spelled_length r,
    ) in
    record { head = omega arith; least = omega arith; enough = omega arith }

pub front : (bytes : List ℕ) → IsSpelled bytes → 0 < length bytes → Front bytes
front bytes s h = front_from bytes s.records s.whole s.short h
