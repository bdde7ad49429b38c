-- Where a long name is cut.
use Rattle.std.specs.Prelude.{ℕ, zero, suc, ◌≡◌, ◌≤◌, ◌<◌, true, false, nat_lt, nat_le}
use Rattle.std.specs.Prelude.{List, length, take, get_or, refl, IsUtf8}
use Rattle.std.proofs.Common.{sym, ◌∙◌, arith, inl, inr, subst}
use Rattle.std.proofs.lemmas.Bool.{ltb-false, cases_Bool, cases_lt, and_cases, true≢false}
use Rattle.std.proofs.lemmas.Bool.{le-ltb, and_right, leb-false, lt-leb, and_left}
use Rattle.std.proofs.lemmas.List.{length-take, take_all, get_or_past}
use Rattle.std.proofs.lemmas.Str.{IsUtf8-take, IsUtf8-nil, IsCharBoundary-from_take}
use Rattle.shown_names.specs.Names.{goes_on, whole_length, beginning}

-- a byte that goes on with no character, by its number

leads : (byte : ℕ) → goes_on byte ≡ false → 128 ≤ byte → 192 ≤ byte
leads byte e high = elim (and_cases (nat_le 128 byte) (nat_lt byte 192) e) [
  | inl low ↦ absurd (omega (arith, leb-false 128 byte low))
  | inr past ↦ ltb-false byte 192 past
]

goes_on_not : (byte : ℕ) → (128 ≤ byte → 192 ≤ byte) → goes_on byte ≡ false
goes_on_not byte lead = elim (cases_lt byte 128) [
  | inl low ↦ and_left (nat_le 128 byte) (nat_lt byte 192) (lt-leb 128 byte low)
  | inr high ↦ and_right (nat_le 128 byte) (nat_lt byte 192) (le-ltb byte 192 (lead high))
]

-- The greatest number of bytes after which no character goes on.

pub whole_step : (name : List ℕ) (n : ℕ) → goes_on (get_or name (suc n) 0) ≡ true
    → whole_length name (suc n) ≡ whole_length name n
unfolding whole_length
whole_step name n e = rw e refl

pub whole_stop : (name : List ℕ) (n : ℕ) → goes_on (get_or name n 0) ≡ false → whole_length name n ≡ n
unfolding whole_length
whole_stop name zero e = refl
whole_stop name (suc n) e = rw e refl

pub whole_less : (name : List ℕ) (n less : ℕ) → suc less ≡ n → goes_on (get_or name n 0) ≡ true
    → whole_length name less ≡ whole_length name n
whole_less name n less is on =
    subst (λ k. whole_length name less ≡ whole_length name k) is
    (sym (whole_step name less (subst (λ k. goes_on (get_or name k 0) ≡ true) (sym is) on)))

pub whole_none : (name : List ℕ) → whole_length name 0 ≡ 0
unfolding whole_length
whole_none name = refl

pub whole_bound : (name : List ℕ) (n : ℕ) → whole_length name n ≤ n
whole_bound name zero = omega (arith, whole_none name)
whole_bound name (suc n) = elim (cases_Bool (goes_on (get_or name (suc n) 0))) [
  | inl on ↦ omega (arith, whole_step name n on, whole_bound name n)
  | inr off ↦ omega (arith, whole_stop name (suc n) off)
]

-- after that many bytes no character goes on, but where there are none
whole_ends : (name : List ℕ) (n : ℕ) → 0 < whole_length name n → goes_on (get_or name (whole_length name n) 0) ≡ false
whole_ends name zero some = absurd (omega (arith, whole_none name))
whole_ends name (suc n) some = elim (cases_Bool (goes_on (get_or name (suc n) 0))) [
  | inl on ↦
      let same = whole_step name n on in
      rw same (whole_ends name n (omega arith))
  | inr off ↦ rw (whole_stop name (suc n) off) off
]

whole_greatest : (name : List ℕ) (n m : ℕ) → m ≤ n → goes_on (get_or name m 0) ≡ false → m ≤ whole_length name n
whole_greatest name zero m le off = omega (arith, whole_none name)
whole_greatest name (suc n) m le off = elim (cases_Bool (goes_on (get_or name (suc n) 0))) [
  | inl on ↦ elim (cases_lt m (suc n)) [
    | inl less ↦ omega (arith, whole_step name n on, whole_greatest name n m (omega arith) off)
    | inr same ↦
        let is : m ≡ suc n = omega arith in
        absurd (true≢false (sym on ∙ subst (λ i. goes_on (get_or name i 0) ≡ false) is off))
  ]
  | inr other ↦ omega (arith, whole_stop name (suc n) other)
]

-- The beginning of a name.

pub beginning_bound : (name : List ℕ) → length (beginning name) ≤ 200
beginning_bound name = omega (arith, whole_bound name 200, length-take (whole_length name 200) name)

whole_beginning : (name : List ℕ) (n : ℕ) → IsUtf8 name → (0 < n → goes_on (get_or name n 0) ≡ false)
    → IsUtf8 (take n name)
whole_beginning name zero utf8 ends = IsUtf8-nil
whole_beginning name (suc n) utf8 ends = elim (cases_lt (length name) (suc n)) [
  | inl past ↦ rw (take_all (suc n) name (omega arith)) utf8
  | inr within ↦ IsUtf8-take name (suc n) utf8 (within, λ inside. leads (get_or name (suc n) 0) (ends (omega arith)))
]

pub beginning_whole : (name : List ℕ) → IsUtf8 name → IsUtf8 (beginning name)
beginning_whole name utf8 = whole_beginning name (whole_length name 200) utf8 (whole_ends name 200)

-- after a beginning in UTF-8 no character goes on
ends_whole : (name : List ℕ) (n : ℕ) → IsUtf8 name → IsUtf8 (take n name) → goes_on (get_or name n 0) ≡ false
ends_whole name n utf8 whole = elim (cases_lt n (length name)) [
  | inl within ↦
      let boundary = IsCharBoundary-from_take name n utf8 (omega arith) whole in
      goes_on_not (get_or name n 0) (boundary.1 within)
  | inr past ↦ rw (get_or_past name n 0 past) refl
]

pub beginning_longest : (name : List ℕ) (n : ℕ) → IsUtf8 name → n ≤ 200 → IsUtf8 (take n name)
    → length (take n name) ≤ length (beginning name)
beginning_longest name n utf8 short whole =
    omega (
      arith,
      whole_greatest name 200 n short (ends_whole name n utf8 whole),
      length-take n name,
      length-take (whole_length name 200) name,
    )
