-- The record at the front of bytes.
use Rattle.std.proofs.Common.{◌≡◌, ℕ, zero, suc, ◌+◌, ◌-◌, ◌%◌, ◌^◌, ◌<◌, ◌≤◌, List, [], ◌∷◌, ◌++◌, take, drop, length}
use Rattle.std.proofs.Common.{None, Bool, true, false, eqb, ltb, ◌||◌, refl, ap, ◌∙◌, arith}
use Rattle.std.specs.Prelude.{not}
use Rattle.std.specs.Int.{w16, from_be_bytes, to_be_bytes}
use Rattle.std.proofs.lemmas.List.{length-append, length-take, take-append-drop}
use Rattle.std.proofs.Math.Seq.{take-append_seam, drop-append_seam}
use Rattle.std.proofs.lemmas.Bool.{ltb-false, eqb-true}
use Rattle.std.proofs.lemmas.Bool.Decides.{nat_tests}
use Rattle.std.proofs.lemmas.Nat.{be_bytes_2, from_be_bytes-to_be_bytes_2}
use Rattle.gds_records.specs.Records.{Record, record_with, spelled}
use Rattle.gds_records.specs.Table.{known_in, has_form_in, has_length_in}
use Rattle.gds_records.specs.Profiles.{Profile, value_fault_of}
use Rattle.gds_records.specs.Profiled.{IsGoodIn, length_of, kind_of, form_of, here_record, own_fault_in, first_of_six}
use Rattle.gds_records.specs.Profiled.{IsBytes}

six_parts : (u v w x y z : Bool) → first_of_six u v w x y z ≡ None → (u ≡ false) × (v ≡ false) × (w ≡ false)
    × (x ≡ true) × (y ≡ true) × (z ≡ true)
six_parts true v w x y z e = absurd cc
six_parts false true w x y z e = absurd cc
six_parts false false true x y z e = absurd cc
six_parts false false false false y z e = absurd cc
six_parts false false false true false z e = absurd cc
six_parts false false false true true false e = absurd cc
six_parts false false false true true true e = (refl, refl, refl, refl, refl, refl)

six_none : (u v w x y z : Bool) → u ≡ false → v ≡ false → w ≡ false → x ≡ true → y ≡ true → z ≡ true
    → first_of_six u v w x y z ≡ None
six_none u v w x y z a b c d e f = rw (a, b, c, d, e, f) refl

or_false : (x y : Bool) → (x || y) ≡ false → (x ≡ false) × (y ≡ false)
or_false true y e = absurd cc
or_false false y e = (refl, e)

not_false : (x : Bool) → not x ≡ false → x ≡ true
not_false true e = refl
not_false false e = absurd cc

module _ (profile : Profile) where
  pub record Sound (b : List ℕ) : Type 0 where
    pub head : 4 ≤ length b
    pub least : 4 ≤ length_of b
    pub even : length_of b % 2 ≡ 0
    pub enough : length_of b ≤ length b
    pub is_known : known_in profile.records (kind_of b) ≡ true
    pub form : has_form_in profile.records (kind_of b) (form_of b) ≡ true
    pub long : has_length_in profile.records (kind_of b) (length_of b) ≡ true

  pub parts_of : (b : List ℕ) → own_fault_in profile b ≡ None → Sound b
  parts_of b e =
      let p = six_parts (ltb (length b) 4) (ltb (length_of b) 4 || not (eqb (length_of b % 2) 0))
      (ltb (length b) (length_of b)) (known_in profile.records (kind_of b))
      (has_form_in profile.records (kind_of b) (form_of b))
      (has_length_in profile.records (kind_of b) (length_of b)) e in
      let q = or_false (ltb (length_of b) 4) (not (eqb (length_of b % 2) 0)) p.1 in
      record {
        head = ltb-false (length b) 4 p.0;
        least = ltb-false (length_of b) 4 q.0;
        even = eqb-true (length_of b % 2) 0 (not_false (eqb (length_of b % 2) 0) q.1);
        enough = ltb-false (length b) (length_of b) p.2;
        is_known = p.3;
        form = p.4;
        long = p.5;
      }

  -- a number with its first four taken off
  abbrev plus4 : ℕ → ℕ
  plus4 m = suc (suc (suc (suc m)))

  content_is : (h l k f : ℕ) (rest : List ℕ) (n : ℕ) → 4 ≤ n
      → drop 4 (take n (h ∷ l ∷ k ∷ f ∷ rest)) ≡ take (n - 4) rest
  content_is h l k f rest n le = let e : n ≡ plus4 (n - 4) = omega arith in
      ap (λ (i : ℕ). drop 4 (take i (h ∷ l ∷ k ∷ f ∷ rest))) e

  after_is : (h l k f : ℕ) (rest : List ℕ) (n : ℕ) → 4 ≤ n → drop n (h ∷ l ∷ k ∷ f ∷ rest) ≡ drop (n - 4) rest
  after_is h l k f rest n le = let e : n ≡ plus4 (n - 4) = omega arith in
      ap (λ (i : ℕ). drop i (h ∷ l ∷ k ∷ f ∷ rest)) e

  content_length : (h l k f : ℕ) (rest : List ℕ) (n : ℕ) → 4 ≤ n → n ≤ length (h ∷ l ∷ k ∷ f ∷ rest)
      → 4 + length (drop 4 (take n (h ∷ l ∷ k ∷ f ∷ rest))) ≡ n
  content_length h l k f rest n le fit = rw (content_is h l k f rest n le) (omega (arith, length-take (n - 4) rest))

  two_fit : (h l : ℕ) (rest : List ℕ) → IsBytes (h ∷ l ∷ rest) → IsBytes (h ∷ l ∷ [])
  two_fit h l rest fits zero = fits 0
  two_fit h l rest fits (suc zero) = fits 1
  two_fit h l rest fits (suc (suc i)) = omega arith

  -- the record that stands here is spelled by its bytes
  pub respelled : (b : List ℕ) → IsBytes b → Sound b → spelled (here_record b) ++ drop (length_of b) b ≡ b
  respelled [] fits s = absurd (omega (arith, s.head))
  respelled (h ∷ []) fits s = absurd (omega (arith, s.head))
  respelled (h ∷ l ∷ []) fits s = absurd (omega (arith, s.head))
  respelled (h ∷ l ∷ k ∷ []) fits s = absurd (omega (arith, s.head))
  respelled (h ∷ l ∷ k ∷ f ∷ rest) fits s =
      let n = length_of (h ∷ l ∷ k ∷ f ∷ rest) in
      let len : 4 + length (drop 4 (take n (h ∷ l ∷ k ∷ f ∷ rest))) ≡ n =
      content_length h l k f rest n s.least s.enough in
      let front : to_be_bytes w16 n ≡ h ∷ l ∷ [] = be_bytes_2 (h ∷ l ∷ []) _ refl
      (two_fit h l (k ∷ f ∷ rest) fits) refl in
      let body : drop 4 (take n (h ∷ l ∷ k ∷ f ∷ rest)) ++ drop n (h ∷ l ∷ k ∷ f ∷ rest) ≡ rest =
      rw (content_is h l k f rest n s.least, after_is h l k f rest n s.least) (take-append-drop (n - 4) rest) in
      let first : to_be_bytes w16 (4 + length (drop 4 (take n (h ∷ l ∷ k ∷ f ∷ rest)))) ≡ h ∷ l ∷ [] =
      ap (λ (i : ℕ). to_be_bytes w16 i) len ∙ front in
      ap (λ (x : List ℕ). (x ++ k ∷ f ∷ drop 4 (take n (h ∷ l ∷ k ∷ f ∷ rest))) ++ drop n (h ∷ l ∷ k ∷ f ∷ rest)) first
      ∙ ap (λ (x : List ℕ). h ∷ l ∷ k ∷ f ∷ x) body

  pub length_here : (b : List ℕ) → Sound b → 4 + length (here_record b).content ≡ length_of b
  length_here [] s = absurd (omega (arith, s.head))
  length_here (h ∷ []) s = absurd (omega (arith, s.head))
  length_here (h ∷ l ∷ []) s = absurd (omega (arith, s.head))
  length_here (h ∷ l ∷ k ∷ []) s = absurd (omega (arith, s.head))
  length_here (h ∷ l ∷ k ∷ f ∷ rest) s = content_length h l k f rest (length_of (h ∷ l ∷ k ∷ f ∷ rest)) s.least s.enough

  length_fits : (b : List ℕ) → IsBytes b → length_of b < 2 ^ 16
  length_fits b fits = omega (arith, from_be_bytes_2_lt b fits)
    where
      from_be_bytes_2_lt : (c : List ℕ) → IsBytes c → from_be_bytes w16 (take 2 c) < 65536
      from_be_bytes_2_lt [] f = omega arith
      from_be_bytes_2_lt (x ∷ []) f = omega (arith, f 0)
      from_be_bytes_2_lt (x ∷ y ∷ c) f = omega (arith, f 0, f 1)

  pub here_good : (before : List Record) (b : List ℕ) → IsBytes b → Sound b
      → value_fault_of profile before (here_record b) ≡ None → IsGoodIn profile before (here_record b)
  here_good before b fits s v =
      let e = length_here b s in
      record {
        short = omega (arith, e, length_fits b fits);
        even = ap (λ (i : ℕ). i % 2) e ∙ s.even;
        is_known = s.is_known;
        form = s.form;
        long = ap (λ (i : ℕ). has_length_in profile.records (kind_of b) i) e ∙ s.long;
        value = v;
      }

  -- ---- and the other way: what stands where a good record is spelled

  pub length_spelled : (r : Record) (b : List ℕ) → 4 + length r.content < 2 ^ 16
      → length_of (spelled r ++ b) ≡ 4 + length r.content
  length_spelled r b h = from_be_bytes-to_be_bytes_2 (4 + length r.content) h

  content_back : (h l k f : ℕ) (c b : List ℕ) (n : ℕ) → n ≡ 4 + length c → drop 4 (take n (h ∷ l ∷ k ∷ f ∷ c ++ b)) ≡ c
  content_back h l k f c b n e = let q : n ≡ plus4 (length c) = omega arith in
      ap (λ (i : ℕ). drop 4 (take i (h ∷ l ∷ k ∷ f ∷ c ++ b))) q ∙ take-append_seam c b

  after_back : (h l k f : ℕ) (c b : List ℕ) (n : ℕ) → n ≡ 4 + length c → drop n (h ∷ l ∷ k ∷ f ∷ c ++ b) ≡ b
  after_back h l k f c b n e = let q : n ≡ plus4 (length c) = omega arith in
      ap (λ (i : ℕ). drop i (h ∷ l ∷ k ∷ f ∷ c ++ b)) q ∙ drop-append_seam c b

  same_record : (r : Record) (c : List ℕ) → c ≡ r.content → record_with r.kind r.form c ≡ r
  same_record r c e = rw e refl

  pub record_back : (r : Record) (b : List ℕ) → 4 + length r.content < 2 ^ 16 → here_record (spelled r ++ b) ≡ r
  record_back r b h = same_record r _
      (content_back _ _ r.kind r.form r.content b (length_of (spelled r ++ b)) (length_spelled r b h))

  pub rest_back : (r : Record) (b : List ℕ) → 4 + length r.content < 2 ^ 16
      → drop (length_of (spelled r ++ b)) (spelled r ++ b) ≡ b
  rest_back r b h = after_back _ _ r.kind r.form r.content b (length_of (spelled r ++ b)) (length_spelled r b h)

  pub spelled_length : (r : Record) → length (spelled r) ≡ 4 + length r.content
  spelled_length r = omega arith

  lt_false : (a b : ℕ) → b ≤ a → ltb a b ≡ false
  lt_false a b h = grind (arith, nat_tests)

  odd_none : (n : ℕ) → 4 ≤ n → n % 2 ≡ 0 → (ltb n 4 || not (eqb (n % 2) 0)) ≡ false
  odd_none n h e = rw (lt_false n 4 h, e) refl

  pub own_none : (before : List Record) (r : Record) (b : List ℕ) → IsGoodIn profile before r
      → own_fault_in profile (spelled r ++ b) ≡ None
  own_none before r b g =
      let n : length_of (spelled r ++ b) ≡ 4 + length r.content = length_spelled r b g.short in
      let m : length (spelled r ++ b) ≡ 4 + length r.content + length b =
      omega (arith, length-append (spelled r) b, spelled_length r) in
      six_none _ _ _ _ _ _
      (lt_false (length (spelled r ++ b)) 4 (omega arith))
      (odd_none (length_of (spelled r ++ b)) (omega arith) (ap (λ (i : ℕ). i % 2) n ∙ g.even))
      (lt_false (length (spelled r ++ b)) (length_of (spelled r ++ b)) (omega arith))
      g.is_known g.form (ap (λ (i : ℕ). has_length_in profile.records r.kind i) n ∙ g.long)
