-- A label's number is the one that its digits write.
use Rattle.std.proofs.Common.{◌≡◌, ℕ, ◌<◌, ◌^◌, Bool, true, ◌&&◌, ◌||◌, List, [], ◌∷◌, ◌+◌, length, sym, ap, subst, ◌∙◌}
use Rattle.std.proofs.Common.{arith, rules, eq-eqb, inl, inr, slice_index, nat_lt, ◌==◌, not}
use Rattle.std.specs.List.{list_all}
use Rattle.std.specs.Char.{is_ascii_digit}
use Rattle.std.specs.Fmt.{decimal}
use Rattle.std.specs.Str.Parse.{digits_value}
use Rattle.std.proofs.lemmas.Bool.{and_from, and_parts, or_cases, or_left, or_right, lt-ltb, ltb-true, eqb-true, ne_eqb}
use Rattle.std.proofs.lemmas.Bool.{not_from_false, cases_eq, both_ways, not-true}
use Rattle.std.proofs.lemmas.Fmt.{digits_decimal, digits_value-decimal, decimal-digits_value, decimal_nonempty}
use Rattle.std.proofs.lemmas.Fmt.{first_decimal, decimal_digit}
use Rattle.std.proofs.lemmas.Str.Parse.{numerals_by_value, IsNumeralModel, IsDigitsTest}
use Rattle.geom.specs.declared.shapes.Label.{Label}
use Rattle.layout_rules.specs.Labels.{is_decimal, tail, IsNumbered}

abbrev AreDigits : List ℕ → Type 0
AreDigits text = list_all is_ascii_digit text ≡ true

tells : IsDigitsTest AreDigits
tells = search rules

own : IsNumeralModel AreDigits (digits_value 10)
own = numerals_by_value AreDigits tells

-- the test of the first digit
abbrev is_led : List ℕ → Bool
is_led text = length text == 1 || (nat_lt 1 (length text) && not (slice_index text 0 == 48))

led_from : (text : List ℕ) → 0 < length text → (slice_index text 0 ≡ 48 → length text ≡ 1) → is_led text ≡ true
led_from text some alone = elim (cases_eq (length text) 1) [
  | inl one ↦ or_left (length text == 1) (nat_lt 1 (length text) && not (slice_index text 0 == 48))
      (eq-eqb (length text) 1 one)
  | inr more ↦ or_right (length text == 1) (nat_lt 1 (length text) && not (slice_index text 0 == 48))
      (and_from (nat_lt 1 (length text)) (not (slice_index text 0 == 48)) (lt-ltb 1 (length text) (omega arith))
      (not_from_false (slice_index text 0 == 48) (ne_eqb (slice_index text 0) 48 (λ e. more (alone e)))))
]

led_some : (text : List ℕ) → is_led text ≡ true → 0 < length text
led_some text h = elim (or_cases (length text == 1) (nat_lt 1 (length text) && not (slice_index text 0 == 48)) h) [
  | inl one ↦ let e : length text ≡ 1 = eqb-true (length text) 1 one in omega arith
  | inr more ↦ let l : 1 < length text = ltb-true 1 (length text)
      (and_parts (nat_lt 1 (length text)) (not (slice_index text 0 == 48)) more).0 in omega arith
]

led_alone : (text : List ℕ) → is_led text ≡ true → slice_index text 0 ≡ 48 → length text ≡ 1
led_alone text h zero = elim (or_cases (length text == 1)
    (nat_lt 1 (length text) && not (slice_index text 0 == 48)) h) [
      | inl one ↦ eqb-true (length text) 1 one
      | inr more ↦ absurd (both_ways (slice_index text 0 == 48)
          (not-true (slice_index text 0 == 48)
          (and_parts (nat_lt 1 (length text)) (not (slice_index text 0 == 48)) more).1)
          (eq-eqb (slice_index text 0) 48 zero))
    ]

decimal_alone : (n : ℕ) → n < 2 ^ 64 → slice_index (decimal n) 0 ≡ 48 → length (decimal n) ≡ 1
decimal_alone n h zero = elim (cases_eq n 0) [
  | inl e ↦ ap length (subst (λ (m : ℕ). decimal m ≡ (48 + m) ∷ []) (sym e) (decimal_digit 0 (omega arith)))
  | inr some ↦ absurd (let above : 48 < slice_index (decimal n) 0 = first_decimal n (omega arith) h in omega arith)
]

-- the decimal digits of a number write it
pub is_decimal-decimal : (n : ℕ) → n < 2 ^ 64 → is_decimal (decimal n) ≡ true
is_decimal-decimal n h = and_from (list_all is_ascii_digit (decimal n)) (is_led (decimal n)) (digits_decimal own n h)
    (led_from (decimal n) (decimal_nonempty n h) (decimal_alone n h))

pub IsNumbered-decimal : (label : Label) (letter n : ℕ) → n < 2 ^ 64 → label.text ≡ letter ∷ decimal n
    → IsNumbered label letter n
IsNumbered-decimal label letter n h e =
    let rest : tail label.text ≡ decimal n = ap tail e in
    record {
      text_is = e ∙ ap (λ (t : List ℕ). letter ∷ t) (sym rest);
      decimal_so = ap is_decimal rest ∙ is_decimal-decimal n h;
      number_is = ap (digits_value 10) rest ∙ digits_value-decimal own n h;
    }

-- and no other text does
pub decimal-is_decimal : (text : List ℕ) → is_decimal text ≡ true → digits_value 10 text < 2 ^ 64
    → decimal (digits_value 10 text) ≡ text
decimal-is_decimal text h small =
    let both : (list_all is_ascii_digit text ≡ true)
    × (is_led text ≡ true) = and_parts (list_all is_ascii_digit text) (is_led text) h in
    decimal-digits_value own text both.0 (led_some text both.1) (led_alone text both.1) small
